-- One effect: a text that is printed, or records that are committed.
use Rattle.std.proofs.Common.{◌≡◌, inl, inr, ℕ, ◌≤◌, ◌++◌, List, [], ◌∷◌, length, Option, option_map, IfSome, is_some, refl, sym, ap, subst, ◌∙◌, append-nil}
use Rattle.arn_base.specs.declared.records.Record.{Record}
use Rattle.arn_base.specs.Disk.{Only}
use Rattle.log_store.specs.Log.{IsLog}
use Rattle.log_store.specs.Laws.{ClosedAreLogs}
use Rattle.log_store.specs.Stores.{StoreState, IsLeftBy, IsBeforeOrAfter, MayLeaveLog}
use Rattle.log_store.specs.Stops.{LeavesOnly, NothingPending}
use Rattle.log_store.specs.declared.size.TheConstants.{MOST_LOG}
use Rattle.session_effects.specs.Effects.{Effect, Commits, Prints, committed, frames_in, printed}
use Rattle.session_effects.specs.Carrying.{AddsFrames, HoldsLog, IsAtRest, HoldsFirst, HoldsAll, Keeps, CarriesOut, IsInText, Stopped, StopsAt, StopsBetween}
use Rattle.session_effects.specs.Printing.{PutsFront, StopsPut}
use Rattle.session_effects.specs.declared.halt.Halt.{Halt}
use Rattle.session_effects.specs.declared.halt.Halt.TheVariants as halt
use Rattle.session_effects.proofs.EffectLemmas.{committed-one, printed-one}
use Rattle.session_effects.proofs.FrameLemmas.{AddsFrames-none, told-at, told-too}
use Rattle.session_effects.proofs.Moments.{leaves-none, leaves-weaker}
use Rattle.session_effects.proofs.CarryLemmas.{held-none, stops-of}
use Rattle.arn_base.specs.declared.disk.Disk.{Ghosts}
use Rattle.session_effects.proofs.DiskLaws.{OnlyNow, CountsNow, MayStay}

-- the same history, with no effect behind it
none-first : (is_run : List Record → Type 0) (history : List Record) (effects : List Effect) (bytes : List ℕ) → IsLog bytes history → length bytes ≤ MOST_LOG → HoldsFirst is_run history effects bytes
none-first is_run history effects bytes log fits =
    let same : history ≡ history ++ committed [] = sym (append-nil history) in
    record {
      first = [];
      others = effects;
      are_effects = refl;
      is_log = subst (IsLog bytes) same log;
      still_run = λ was. subst is_run same was;
      fits = fits;
    }

-- a commit that may be there or not
commit-first : (is_run : List Record → Type 0) (history entries : List Record) (bytes : List ℕ) → (is_run history → is_run (history ++ entries)) → IsBeforeOrAfter history entries bytes → HoldsFirst is_run history (Commits entries ∷ []) bytes
commit-first is_run history entries bytes run left = elim left.is_log [
  | inl before ↦ none-first is_run history (Commits entries ∷ []) bytes before left.fits
  | inr after ↦
      let same : history ++ entries ≡ history ++ committed (Commits entries ∷ []) = ap (λ (x : List Record). history ++ x) (sym (committed-one entries)) in
      record {
        first = Commits entries ∷ [];
        others = [];
        are_effects = refl;
        is_log = subst (IsLog bytes) same after;
        still_run = λ was. subst is_run same (run was);
        fits = left.fits;
      }
]

-- a commit that may be there or not, behind no other effect
commit-all : (history entries : List Record) (bytes : List ℕ) → IsBeforeOrAfter history entries bytes → HoldsAll history [] (Commits entries ∷ []) bytes
commit-all history entries bytes left = elim left.is_log [
  | inl before ↦ inl (subst (IsLog bytes) (sym (append-nil history)) before)
  | inr after ↦ inr (subst (IsLog bytes) (ap (λ (x : List Record). history ++ x) (sym (committed-one entries))) after)
]

-- a text that is put whole commits nothing, and is all that is printed
no_commit : {entries : List Record} → Commits entries ∷ [] ≡ [] → ⊥
no_commit is = cc

module _ {D : Type 0} (is_run : List Record → Type 0) (d : Ghosts D) where
  -- nothing happens to a disk that is at rest
  Keeps-none : MayStay D d → OnlyNow D d → (disk : D) (history : List Record) (done next : List Effect) → committed done ≡ [] → IsAtRest d disk history → Keeps is_run d disk disk history done next
  Keeps-none stays only_now disk history done next none rest =
      let holds : (bytes : List ℕ) → d.may_leave disk bytes → IsLog bytes history = λ bytes may. subst (λ x. IsLog x history) (sym (rest.only bytes may)) rest.is_log in
      let fits : (bytes : List ℕ) → d.may_leave disk bytes → length bytes ≤ MOST_LOG = λ bytes may. subst (λ x. length x ≤ MOST_LOG) (sym (rest.only bytes may)) rest.fits in
      let still : history ≡ history ++ committed done = sym (ap (λ (x : List Record). history ++ x) none ∙ append-nil history) in
      record {
        any_moment = leaves-none d.moment d.left_since disk (HoldsFirst is_run history (done ++ next)) (λ bytes left. none-first is_run history (done ++ next) bytes (holds bytes (only_now disk bytes left)) (fits bytes (only_now disk bytes left)));
        now = λ bytes may. inl (subst (IsLog bytes) still (holds bytes may));
        may_leave = record { left = rest.bytes; may_be = told-at (d.image disk) rest.bytes (d.may_leave disk) rest.is_image (stays disk); is_log = subst (IsLog rest.bytes) still rest.is_log };
        still_run = λ was. subst is_run still was;
      }

  -- effects that commit nothing leave the disk as it was
  CarriesOut-quiet : MayStay D d → OnlyNow D d → (disk : D) (history : List Record) (h0 h1 : Option (List ℕ)) (effects : List Effect) → committed effects ≡ [] → frames_in effects ≡ [] → h1 ≡ option_map (λ before. before ++ printed effects) h0 → CarriesOut is_run d disk disk history h0 h1 effects
  CarriesOut-quiet stays only_now disk history h0 h1 effects none no_frames put = record {
    put = put;
    holds_log = λ log. subst (HoldsLog d disk) (sym (ap (λ (x : List Record). history ++ x) none ∙ append-nil history)) log;
    adds = AddsFrames-none d disk effects no_frames;
    rests = λ was. subst (IsAtRest d disk) (sym (ap (λ (x : List Record). history ++ x) none ∙ append-nil history)) was;
    keeps = λ was. Keeps-none stays only_now disk history effects [] none was;
  }

  -- nothing was carried out
  pub CarriesOut-none : MayStay D d → OnlyNow D d → (disk : D) (history : List Record) (held : Option (List ℕ)) → CarriesOut is_run d disk disk history held held []
  CarriesOut-none stays only_now disk history held = CarriesOut-quiet stays only_now disk history held held [] refl refl (held-none held)

  -- a text was printed
  pub CarriesOut-text : MayStay D d → OnlyNow D d → (disk : D) (history : List Record) (h0 h1 : Option (List ℕ)) (text : List ℕ) → h1 ≡ option_map (λ before. before ++ text) h0 → CarriesOut is_run d disk disk history h0 h1 (Prints text ∷ [])
  CarriesOut-text stays only_now disk history h0 h1 text put =
      CarriesOut-quiet stays only_now disk history h0 h1 (Prints text ∷ []) refl refl (put ∙ ap (λ (x : List ℕ). option_map (λ before. before ++ x) h0) (sym (printed-one text)))

  -- a disk at rest is at rest behind no effects
  still_rests : (disk : D) (history : List Record) → IsAtRest d disk history → IsAtRest d disk (history ++ [])
  still_rests disk history was = subst (IsAtRest d disk) (sym (append-nil history)) was

  still_holds : (disk : D) (history : List Record) → HoldsLog d disk history → HoldsLog d disk (history ++ [])
  still_holds disk history log = subst (HoldsLog d disk) (sym (append-nil history)) log

  -- a beginning of a text was printed
  stops_in : MayStay D d → OnlyNow D d → (disk : D) (history : List Record) (h0 h1 : Option (List ℕ)) (why : Halt) (text : List ℕ) (p : PutsFront text h0 h1) → Stopped d disk why (Prints text ∷ []) p.put [] → StopsBetween is_run d disk disk history h0 h1 why [] (Prints text ∷ [])
  stops_in stays only_now disk history h0 h1 why text p stopped = record {
    part = p.put;
    next = [];
    stopped = stopped;
    put = p.printed;
    keeps = λ was. Keeps-none stays only_now disk history [] [] refl was;
    holds_log = λ none log. still_holds disk history log;
    adds = λ none. AddsFrames-none d disk [] refl;
    rests = λ none was. still_rests disk history was;
  }

  in_text : (text put left : List ℕ) → text ≡ put ++ left → IsInText (Prints text ∷ []) put left
  in_text text put left is = record { more = []; is_text = ap (λ (x : List ℕ). Prints x ∷ []) is }

  pub halts-text : MayStay D d → OnlyNow D d → (disk : D) (history : List Record) (h0 h1 : Option (List ℕ)) (why : Halt) (text : List ℕ) → StopsPut why text h0 h1 → StopsBetween is_run d disk disk history h0 h1 why [] (Prints text ∷ [])
  halts-text stays only_now disk history h0 h1 halt.Sink text p = stops_in stays only_now disk history h0 h1 halt.Sink text p.front (p.front.left, in_text text p.front.put p.front.left p.front.are_bytes, p.some_left, refl)
  halts-text stays only_now disk history h0 h1 halt.NoMemory text p = stops_in stays only_now disk history h0 h1 halt.NoMemory text p (inr (p.left, in_text text p.put p.left p.are_bytes), inl refl)
  halts-text stays only_now disk history h0 h1 _ text p = absurd p

  pub StopsAt-text : MayStay D d → OnlyNow D d → (disk : D) (history : List Record) (h0 h1 : Option (List ℕ)) (why : Halt) (text : List ℕ) → StopsPut why text h0 h1 → StopsAt is_run d disk disk history h0 h1 why [] (Prints text ∷ [])
  StopsAt-text stays only_now disk history h0 h1 why text p = stops-of is_run d disk disk history h0 h1 why [] (Prints text ∷ []) (halts-text stays only_now disk history h0 h1 why text p)

  -- nothing was carried out before memory ran out, or records turned out to be others
  pub halts-nothing : MayStay D d → OnlyNow D d → (disk : D) (history : List Record) (held : Option (List ℕ)) (why : Halt) (effects : List Effect) → Stopped d disk why effects [] [] → StopsBetween is_run d disk disk history held held why [] effects
  halts-nothing stays only_now disk history held why effects stopped = record {
    part = [];
    next = [];
    stopped = stopped;
    put = held-none held;
    keeps = λ was. Keeps-none stays only_now disk history [] [] refl was;
    holds_log = λ none log. still_holds disk history log;
    adds = λ none. AddsFrames-none d disk [] refl;
    rests = λ none was. still_rests disk history was;
  }

  pub StopsAt-nothing : MayStay D d → OnlyNow D d → (disk : D) (history : List Record) (held : Option (List ℕ)) (why : Halt) (effects : List Effect) → Stopped d disk why effects [] [] → StopsAt is_run d disk disk history held held why [] effects
  StopsAt-nothing stays only_now disk history held why effects stopped = stops-of is_run d disk disk history held held why [] effects (halts-nothing stays only_now disk history held why effects stopped)

  -- what a commit leaves
  commit-keeps : (old new : D) (history entries : List Record) (done next : List Effect) → done ++ next ≡ Commits entries ∷ [] → (is_run history → is_run (history ++ entries)) → (is_run history → is_run (history ++ committed done)) → ((bytes : List ℕ) → d.may_leave new bytes → HoldsAll history done next bytes) → MayLeaveLog (d.may_leave new) (history ++ committed done) → LeavesOnly d.moment d.left_since old new (IsBeforeOrAfter history entries) → Keeps is_run d old new history done next
  commit-keeps old new history entries done next is run still now may any = record {
    any_moment = leaves-weaker d.moment d.left_since old new (IsBeforeOrAfter history entries) (HoldsFirst is_run history (done ++ next)) any (λ bytes left. subst (λ (x : List Effect). HoldsFirst is_run history x bytes) (sym is) (commit-first is_run history entries bytes run left));
    now = now;
    may_leave = may;
    still_run = still;
  }

  -- records were committed
  pub CarriesOut-commit : MayStay D d → CountsNow D d → ClosedAreLogs → (old new : D) (store store' : StoreState) (entries : List Record) (held : Option (List ℕ)) → (is_run store.entries → is_run (store.entries ++ entries)) → store'.entries ≡ store.entries ++ entries → is_some (d.image new) ≡ is_some (d.image old) → IfSome (d.image new) (IsLeftBy store') → NothingPending d.image d.may_leave new → IfSome (d.image old) (λ bytes. Only bytes (d.may_leave old) → LeavesOnly d.moment d.left_since old new (IsBeforeOrAfter store.entries entries)) → AddsFrames d old new (Commits entries ∷ []) → CarriesOut is_run d old new store.entries held held (Commits entries ∷ [])
  CarriesOut-commit stays counts closed old new store store' entries held run added tells left pending any adds =
      let one : store.entries ++ entries ≡ store.entries ++ committed (Commits entries ∷ []) = ap (λ (x : List Record). store.entries ++ x) (sym (committed-one entries)) in
      record {
        put = held-none held;
        holds_log = λ log.
            let told = told-too (d.image new) (d.image old) log.bytes log.is_image tells in
            let is_left = told-at (d.image new) told.0 (IsLeftBy store') told.1 left in
            record { bytes = told.0; is_image = told.1; is_log = subst (IsLog told.0) (added ∙ one) (closed told.0 store'.entries is_left.is_log) };
        adds = adds;
        rests = λ was.
            let told = told-too (d.image new) (d.image old) was.bytes was.is_image tells in
            let is_left = told-at (d.image new) told.0 (IsLeftBy store') told.1 left in
            let moments = told-at (d.image old) was.bytes (λ bytes. Only bytes (d.may_leave old) → LeavesOnly d.moment d.left_since old new (IsBeforeOrAfter store.entries entries)) was.is_image any was.only in
            let here = moments.each told.0 (counts new (d.moment old) told.0 moments.later (told-at (d.image new) told.0 (d.may_leave new) told.1 (stays new))) in
            record {
              bytes = told.0;
              is_image = told.1;
              is_log = subst (IsLog told.0) (added ∙ one) (closed told.0 store'.entries is_left.is_log);
              fits = here.fits;
              only = told-at (d.image new) told.0 (λ bytes. Only bytes (d.may_leave new)) told.1 pending;
            };
        keeps = λ was.
            let told = told-too (d.image new) (d.image old) was.bytes was.is_image tells in
            let is_left = told-at (d.image new) told.0 (IsLeftBy store') told.1 left in
            let moments = told-at (d.image old) was.bytes (λ bytes. Only bytes (d.may_leave old) → LeavesOnly d.moment d.left_since old new (IsBeforeOrAfter store.entries entries)) was.is_image any was.only in
            let only = told-at (d.image new) told.0 (λ bytes. Only bytes (d.may_leave new)) told.1 pending in
            commit-keeps old new store.entries entries (Commits entries ∷ []) [] refl run (λ r. subst is_run one (run r))
            (λ bytes may. inl (subst (λ x. IsLog x (store.entries ++ committed (Commits entries ∷ []))) (sym (only bytes may)) (subst (IsLog told.0) (added ∙ one) (closed told.0 store'.entries is_left.is_log))))
            (record { left = told.0; may_be = told-at (d.image new) told.0 (d.may_leave new) told.1 (stays new); is_log = subst (IsLog told.0) (added ∙ one) (closed told.0 store'.entries is_left.is_log) })
            moments;
      }

  -- a commit may be there or not
  pub halts-commit : CountsNow D d → (old new : D) (history entries : List Record) (held : Option (List ℕ)) (why : Halt) → (is_run history → is_run (history ++ entries)) → Stopped d new why (Commits entries ∷ []) [] (Commits entries ∷ []) → IfSome (d.image old) (λ bytes. Only bytes (d.may_leave old) → LeavesOnly d.moment d.left_since old new (IsBeforeOrAfter history entries)) → IfSome (d.image old) (λ _. MayLeaveLog (d.may_leave new) history) → StopsBetween is_run d old new history held held why [] (Commits entries ∷ [])
  halts-commit counts old new history entries held why run stopped any before = record {
    part = [];
    next = Commits entries ∷ [];
    stopped = stopped;
    put = held-none held;
    keeps = λ was.
        let moments = told-at (d.image old) was.bytes (λ bytes. Only bytes (d.may_leave old) → LeavesOnly d.moment d.left_since old new (IsBeforeOrAfter history entries)) was.is_image any was.only in
        commit-keeps old new history entries [] (Commits entries ∷ []) refl run (λ r. subst is_run (sym (append-nil history)) r)
        (λ bytes may. commit-all history entries bytes (moments.each bytes (counts new (d.moment old) bytes moments.later may)))
        (subst (MayLeaveLog (d.may_leave new)) (sym (append-nil history)) (told-at (d.image old) was.bytes (λ _. MayLeaveLog (d.may_leave new) history) was.is_image before))
        moments;
    holds_log = λ none log. absurd (no_commit none);
    adds = λ none. absurd (no_commit none);
    rests = λ none was. absurd (no_commit none);
  }
