-- The opening of a log, and effects behind it.
use Rattle.std.proofs.Common.{◌≡◌, inl, ℕ, ◌≤◌, ◌++◌, List, [], length, Option, IfSome, is_some, refl, sym, subst, append-nil, arith}
use Rattle.arn_base.specs.declared.records.Record.{Record}
use Rattle.arn_base.specs.Disk.{Only}
use Rattle.log_store.specs.Log.{IsLog}
use Rattle.log_store.specs.Laws.{ClosedAreLogs, ClosedHoldCommits, LogsReadOneWay}
use Rattle.log_store.specs.Stores.{StoreState, IsLeftBy, KeepsRecords}
use Rattle.log_store.specs.Stops.{IsOnlyRead, LeavesOnly, NothingPending}
use Rattle.log_store.specs.declared.size.TheConstants.{MOST_LOG}
use Rattle.session_effects.specs.Effects.{Effect, committed}
use Rattle.session_effects.specs.Carrying.{HoldsLog, IsAtRest, HoldsFirst, HoldsMore, CarriesOut, StopsAt, RestsMore, Keeps}
use Rattle.session_effects.specs.declared.halt.Halt.{Halt}
use Rattle.session_effects.proofs.Moments.{leaves-none, leaves-weaker, leaves-joined}
use Rattle.session_effects.proofs.CarryLemmas.{held-none, CarriesOut-then, StopsAt-behind}
use Rattle.session_effects.specs.Laws.{ShutsLog}
use Rattle.session_effects.proofs.FrameLemmas.{AddsFrames-open, told-at, told-too}
use Rattle.arn_base.specs.declared.disk.Disk.{Ghosts}
use Rattle.session_effects.proofs.DiskLaws.{OnlyNow, CountsNow, MayStay}

-- a log that was opened, still in its place
kept-first : (is_run : List Record → Type 0) (history : List Record) (old new : List ℕ) → IsLog old history → length old ≤ MOST_LOG → KeepsRecords old new → HoldsFirst is_run history [] new
kept-first is_run history old new log fits k =
    let same : history ≡ history ++ committed [] = sym (append-nil history) in
    record {
      first = [];
      others = [];
      are_effects = refl;
      is_log = subst (IsLog new) same (k.same history log);
      still_run = λ was. subst is_run same was;
      fits = omega (arith, k.no_longer, fits);
    }

pub kept-more : (is_run : List Record → Type 0) (history : List Record) (old new : List ℕ) → IsLog old history → length old ≤ MOST_LOG → KeepsRecords old new → HoldsMore is_run history new
kept-more is_run history old new log fits k =
    let same : history ≡ history ++ [] = sym (append-nil history) in
    record {
      more = [];
      is_log = subst (IsLog new) same (k.same history log);
      still_run = λ was. subst is_run same was;
      fits = omega (arith, k.no_longer, fits);
    }

module _ {D : Type 0} (is_run : List Record → Type 0) (d : Ghosts D) where
  -- the history is that of the store
  pub store-history : LogsReadOneWay → (disk : D) (history : List Record) (store : StoreState) → HoldsLog d disk history → IfSome (d.image disk) (λ bytes. IsLog bytes store.entries) → store.entries ≡ history
  store-history one_way disk history store log recovered =
      one_way log.bytes store.entries history (told-at (d.image disk) log.bytes (λ bytes. IsLog bytes store.entries) log.is_image recovered) log.is_log

  -- what an opening leaves at any moment
  pub open-moments : (old new : D) (history : List Record) → IfSome (d.image old) (λ bytes. Only bytes (d.may_leave old) → LeavesOnly d.moment d.left_since old new (KeepsRecords bytes)) → IsAtRest d old history → LeavesOnly d.moment d.left_since old new (HoldsMore is_run history)
  open-moments old new history any was =
      let left = told-at (d.image old) was.bytes (λ bytes. Only bytes (d.may_leave old) → LeavesOnly d.moment d.left_since old new (KeepsRecords bytes)) was.is_image any was.only in
      leaves-weaker d.moment d.left_since old new (KeepsRecords was.bytes) (HoldsMore is_run history) left (λ bytes k. kept-more is_run history was.bytes bytes was.is_log was.fits k)

  -- an opening carries out nothing
  pub CarriesOut-open : MayStay D d → CountsNow D d → ClosedAreLogs → ClosedHoldCommits → (old new : D) (store : StoreState) (held : Option (List ℕ)) → is_some (d.image new) ≡ is_some (d.image old) → IfSome (d.image new) (IsLeftBy store) → (NothingPending d.image d.may_leave old → NothingPending d.image d.may_leave new) → IfSome (d.image old) (λ bytes. Only bytes (d.may_leave old) → LeavesOnly d.moment d.left_since old new (KeepsRecords bytes)) → ShutsLog d old new → CarriesOut is_run d old new store.entries held held []
  CarriesOut-open stays counts closed hold old new store held tells left pending any shuts = record {
    put = held-none held;
    holds_log = λ log.
        let told = told-too (d.image new) (d.image old) log.bytes log.is_image tells in
        let is_left = told-at (d.image new) told.0 (IsLeftBy store) told.1 left in
        record { bytes = told.0; is_image = told.1; is_log = subst (IsLog told.0) (sym (append-nil store.entries)) (closed told.0 store.entries is_left.is_log) };
    adds = AddsFrames-open d hold old new store tells left shuts;
    rests = λ was. at_rest was;
    keeps = λ was.
        let moments = told-at (d.image old) was.bytes (λ bytes. Only bytes (d.may_leave old) → LeavesOnly d.moment d.left_since old new (KeepsRecords bytes)) was.is_image any was.only in
        let there = at_rest was in
        record {
          any_moment = leaves-weaker d.moment d.left_since old new (KeepsRecords was.bytes) (HoldsFirst is_run store.entries []) moments (λ bytes k. kept-first is_run store.entries was.bytes bytes was.is_log was.fits k);
          now = λ bytes may. inl (subst (λ x. IsLog x (store.entries ++ [])) (sym (there.only bytes may)) there.is_log);
          may_leave = record { left = there.bytes; may_be = told-at (d.image new) there.bytes (d.may_leave new) there.is_image (stays new); is_log = there.is_log };
          still_run = λ was_run. subst is_run (sym (append-nil store.entries)) was_run;
        };
  }
    where
      at_rest : IsAtRest d old store.entries → IsAtRest d new (store.entries ++ [])
      at_rest was =
          let told = told-too (d.image new) (d.image old) was.bytes was.is_image tells in
          let is_left = told-at (d.image new) told.0 (IsLeftBy store) told.1 left in
          let moments = told-at (d.image old) was.bytes (λ bytes. Only bytes (d.may_leave old) → LeavesOnly d.moment d.left_since old new (KeepsRecords bytes)) was.is_image any was.only in
          let here = moments.each told.0 (counts new (d.moment old) told.0 moments.later (told-at (d.image new) told.0 (d.may_leave new) told.1 (stays new))) in
          let nothing : NothingPending d.image d.may_leave old = subst (λ o. IfSome o (λ bytes. Only bytes (d.may_leave old))) (sym was.is_image) was.only in
          record {
            bytes = told.0;
            is_image = told.1;
            is_log = subst (IsLog told.0) (sym (append-nil store.entries)) (closed told.0 store.entries is_left.is_log);
            fits = omega (arith, here.no_longer, was.fits);
            only = told-at (d.image new) told.0 (λ bytes. Only bytes (d.may_leave new)) told.1 (pending nothing);
          }

  -- effects behind an opening
  pub CarriesOut-opened : (old mid new : D) (history : List Record) (h0 h1 : Option (List ℕ)) → CarriesOut is_run d old mid history h0 h0 [] → (effects : List Effect) → CarriesOut is_run d mid new history h0 h1 effects → CarriesOut is_run d old new history h0 h1 effects
  CarriesOut-opened old mid new history h0 h1 opening effects c =
      CarriesOut-then is_run d old mid new history history h0 h0 h1 [] effects (sym (append-nil history)) opening c

  pub StopsAt-opened : (old mid new : D) (history : List Record) (h0 h1 : Option (List ℕ)) (why : Halt) → CarriesOut is_run d old mid history h0 h0 [] → (first rest : List Effect) → StopsAt is_run d mid new history h0 h1 why first rest → StopsAt is_run d old new history h0 h1 why first rest
  StopsAt-opened old mid new history h0 h1 why opening first rest s =
      StopsAt-behind is_run d old mid new history h0 h0 h1 why [] first rest opening (subst (λ (x : List Record). StopsAt is_run d mid new x h0 h1 why first rest) (sym (append-nil history)) s)

  -- and of what a stop leaves
  pub Moments-opened : (old mid new : D) (entries history : List Record) (held : Option (List ℕ)) → entries ≡ history → CarriesOut is_run d old mid entries held held [] → IfSome (d.image old) (λ bytes. Only bytes (d.may_leave old) → LeavesOnly d.moment d.left_since old mid (KeepsRecords bytes)) → (IsAtRest d mid entries → LeavesOnly d.moment d.left_since mid new (HoldsMore is_run entries)) → IsAtRest d old history → LeavesOnly d.moment d.left_since old new (HoldsMore is_run history)
  Moments-opened old mid new entries history held same opening any session was =
      let here : IsAtRest d old entries = subst (IsAtRest d old) (sym same) was in
      subst (λ (h : List Record). LeavesOnly d.moment d.left_since old new (HoldsMore is_run h)) same
      (leaves-joined d.moment d.left_since old mid new (HoldsMore is_run entries) (HoldsMore is_run entries) (HoldsMore is_run entries) (open-moments old mid entries any here) (session (subst (IsAtRest d mid) (append-nil entries) (opening.rests here))) (λ bytes h. h) (λ bytes h. h))

  -- an opening that failed leaves the history at any moment
  pub Keeps-open : MayStay D d → CountsNow D d → (old new : D) (history : List Record) → is_some (d.image new) ≡ is_some (d.image old) → IfSome (d.image old) (λ bytes. Only bytes (d.may_leave old) → LeavesOnly d.moment d.left_since old new (KeepsRecords bytes)) → IsAtRest d old history → Keeps is_run d old new history [] []
  Keeps-open stays counts old new history tells any was =
      let moments = told-at (d.image old) was.bytes (λ bytes. Only bytes (d.may_leave old) → LeavesOnly d.moment d.left_since old new (KeepsRecords bytes)) was.is_image any was.only in
      let told = told-too (d.image new) (d.image old) was.bytes was.is_image tells in
      let here = told-at (d.image new) told.0 (d.may_leave new) told.1 (stays new) in
      record {
        any_moment = leaves-weaker d.moment d.left_since old new (KeepsRecords was.bytes) (HoldsFirst is_run history []) moments (λ bytes k. kept-first is_run history was.bytes bytes was.is_log was.fits k);
        now = λ bytes may. inl (subst (IsLog bytes) (sym (append-nil history)) ((moments.each bytes (counts new (d.moment old) bytes moments.later may)).same history was.is_log));
        may_leave = record { left = told.0; may_be = here; is_log = subst (IsLog told.0) (sym (append-nil history)) ((moments.each told.0 (counts new (d.moment old) told.0 moments.later here)).same history was.is_log) };
        still_run = λ was_run. subst is_run (sym (append-nil history)) was_run;
      }

  -- a disk at rest again, behind its opening
  pub Rests-opened : (old mid new : D) (entries history : List Record) (held : Option (List ℕ)) → entries ≡ history → CarriesOut is_run d old mid entries held held [] → (IsAtRest d mid entries → RestsMore d new entries) → IsAtRest d old history → RestsMore d new history
  Rests-opened old mid new entries history held same opening session was =
      subst (RestsMore d new) same (session (subst (IsAtRest d mid) (append-nil entries) (opening.rests (subst (IsAtRest d old) (sym same) was))))

  -- nothing at all was done with a disk
  pub only-read-none : OnlyNow D d → (disk : D) → IsOnlyRead d.image d.may_leave d.moment d.left_since disk disk
  only-read-none only_now disk = record {
    told = refl;
    no_more = λ bytes may. may;
    any_moment = leaves-none d.moment d.left_since disk (d.may_leave disk) (only_now disk);
  }
