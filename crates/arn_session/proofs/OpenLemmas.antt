-- A session behind the opening of its log.
use Rattle.std.proofs.Common.{◌≡◌, ◌≢◌, inl, ℕ, ◌≤◌, ◌++◌, List, [], length, Option, inr, Some, None, IfSome, refl, sym, subst, append-nil, arith, ◌<◌, ◌⊎◌}
use Rattle.std.proofs.lemmas.Option.{IfSome_then}
use Rattle.arn_base.specs.declared.disk.Disk.{Ghosts}
use Rattle.arn_base.specs.declared.records.Record.{Record}
use Rattle.arn_commands.specs.Parts.{Part, text_parts, whole_parts}
use Rattle.log_model.specs.Records.{IsRun}
use Rattle.log_store.specs.Causes.{IsCauseOf}
use Rattle.log_store.specs.Log.{IsLog}
use Rattle.log_store.specs.Refused.{IsNoLog}
use Rattle.log_store.specs.Stops.{GoesOn}
use Rattle.log_store.specs.Stores.{StoreState, IsLeftBy}
use Rattle.log_store.specs.declared.errors.OpenError.{OpenError}
use Rattle.log_store.specs.declared.errors.OpenError.TheVariants as opening
use Rattle.log_store.specs.declared.size.TheConstants.{MOST_LOG}
use Rattle.session_effects.specs.Carrying.{HoldsLog, IsAtRest, IsShut, CarriesOut, RestsMore}
use Rattle.session_effects.specs.Laws.{BehindHalts, OpenedCarries, OpenedLeaves, OpenedRests, OpensLog}
use Rattle.session_effects.specs.declared.halt.Halt.{Halt}
use Rattle.session_effects.specs.declared.halt.Halt.TheVariants as halt
use Rattle.session_runs.specs.Points.{Advances, Stops, Surroundings}
use Rattle.session_runs.specs.Touches.{Answering}
use Rattle.session_runs.specs.Turns.{Point}
use Rattle.session_commands.specs.Given.{Given}
use Rattle.session_text.specs.Answered.{AnswersParts, TookAtMost}
use Rattle.session_text.specs.Begun.{BeginsOn, FindsOn, standing}
use Rattle.arn_session.proofs.FaultLemmas.{Rose-after, goes-both}
use Rattle.arn_session.proofs.ToldLemmas.{Told}
use Rattle.arn_session.specs.Opening.{HasBegun, HasOpened, IsOpened}
use Rattle.arn_session.specs.Status.{open_status_of}
use Rattle.arn_session.specs.declared.status.Status.{Status}
use Rattle.arn_session.specs.declared.status.Status.TheVariants as status

-- the bytes of a log that was opened
pub told-both : (o : Option (List ℕ)) (history : List Record) (s : Status) → IfSome o (λ bytes. IsLog bytes history) → IfSome o (λ bytes. length bytes ≤ MOST_LOG) → IfSome o (IsOpened s)
told-both None history s log fits = tt
told-both (Some bytes) history s log fits = λ may. (history, log, fits)

-- what is no log or too long is none that was opened
pub not-opened : (P : Type 0) (o : Option (List ℕ)) (history : List Record) → IfSome o (λ bytes. IsLog bytes history) → IfSome o (λ bytes. length bytes ≤ MOST_LOG) → IfSome o (λ bytes. IsNoLog bytes ⊎ (MOST_LOG < length bytes) → P)
not-opened P None history log fits = tt
not-opened P (Some bytes) history log fits = λ bad. elim bad [
  | inl none ↦ absurd (none history log)
  | inr long ↦ absurd (omega (arith, long, fits))
]

-- a log that wasn't opened
pub never-opened : (error : OpenError) → HasOpened (open_status_of error) → ⊥
never-opened (opening.TooLong len) has = has
never-opened _ has = has

-- a session that wasn't opened
pub unopened : (s : Status) (o : Option (List ℕ)) → (HasOpened s → ⊥) → IfSome o (IsOpened s)
unopened s None never = tt
unopened s (Some bytes) never = λ has. absurd (never has)

pub never-begun : (error : OpenError) → HasBegun (open_status_of error) → ⊥
never-begun (opening.TooLong len) has = has
never-begun _ has = has

-- nothing was taken of a source with which nothing was done
pub took-none : (most : ℕ) (o : Option (List ℕ)) → TookAtMost most o o
took-none most None = tt
took-none most (Some text) = omega arith

-- in any case
pub for-any : (P : Type 0) (o : Option (List ℕ)) (Q : List ℕ → Type 0) → P → IfSome o (λ bytes. Q bytes → P)
for-any P None Q p = tt
for-any P (Some bytes) Q p = λ q. p

pub with-never : (P : Type 0) (o : Option (List ℕ)) (Q R : List ℕ → Type 0) → P → IfSome o (λ bytes. Q bytes → R bytes) → IfSome o (λ bytes. Q bytes → P × R bytes)
with-never P None Q R p r = tt
with-never P (Some bytes) Q R p r = λ q. (p, r q)

-- what is told of an option that is there
told-at : {X : Type 0} (o : Option X) (x : X) (P : X → Type 0) → o ≡ Some x → IfSome o P → P x
told-at o x P is p = subst (λ t. IfSome t P) is p

module _ {D : Type 0} (d : Ghosts D) where
  -- what a store leaves ends with its closed gate
  pub left-shut : (disk : D) (store : StoreState) → IfSome (d.image disk) (IsLeftBy store) → IsShut d disk
  left-shut disk store left = IfSome_then (d.image disk) left (λ bytes is. (is.is_log.commits, is.is_log.is_closed))

  -- a disk at rest holds a log
  pub rest-log : (disk : D) (history : List Record) → IsAtRest d disk history → HoldsLog d disk history
  rest-log disk history was = record { bytes = was.bytes; is_image = was.is_image; is_log = was.is_log }

  -- the disk of an opened log is at rest again
  pub rests-opened : (old new : D) (entries history : List Record) (held : Option (List ℕ)) → entries ≡ history → CarriesOut IsRun d old new entries held held [] → IsAtRest d old history → RestsMore d new history
  rests-opened old new entries history held same opening was =
      record { more = []; at_rest = subst (λ (h : List Record). IsAtRest d new (h ++ [])) same (opening.rests (subst (IsAtRest d old) (sym same) was)) }

  -- a log that isn't too long isn't refused for its bytes
  pub log-is-none : (disk : D) (history : List Record) → IsAtRest d disk history → (error : OpenError) → (open_status_of error ≢ status.Disk) → (open_status_of error ≢ status.NoMemory) → IfSome (d.image disk) (λ bytes. IsCauseOf bytes error) → ⊥
  log-is-none disk history was (opening.TooLong len) not_disk not_memory cause =
      let is = told-at (d.image disk) was.bytes (λ bytes. IsCauseOf bytes (opening.TooLong len)) was.is_image cause in
      absurd (omega (arith, is.0, is.1, was.fits))
  log-is-none disk history was (opening.NotLog at) not_disk not_memory cause =
      let is = told-at (d.image disk) was.bytes (λ bytes. IsCauseOf bytes (opening.NotLog at)) was.is_image cause in
      is.2 history was.is_log
  log-is-none disk history was (opening.Malformed at) not_disk not_memory cause =
      let is = told-at (d.image disk) was.bytes (λ bytes. IsCauseOf bytes (opening.Malformed at)) was.is_image cause in
      is.2 history was.is_log
  log-is-none disk history was opening.Disk not_disk not_memory cause = not_disk refl
  log-is-none disk history was opening.NoMemory not_disk not_memory cause = not_memory refl

module _ {D A : Type 0} (d : Ghosts D) (who : Answering A) (g : Given) (carries : OpenedCarries IsRun d) (halts : BehindHalts IsRun d) (old mid new : D) (h0 h1 : Option (List ℕ)) (u v : Surroundings A) (entries : List Record) (opening : CarriesOut IsRun d old mid entries h0 h0 []) where
  abbrev Advances-opened : (a b : Point) (n : ℕ) → Advances who a b u v n (CarriesOut IsRun d mid new entries h0 h1) → Advances who a b u v n (CarriesOut IsRun d old new entries h0 h1)
  Advances-opened a b n p = record {
    slices = p.slices;
    touches = p.touches;
    effects = p.effects;
    leads = p.leads;
    names = p.names;
    unplugged = p.unplugged;
    begins = p.begins;
    carries = carries old mid new entries h0 h1 opening p.effects p.carries;
    picked = p.picked;
    in_range = p.in_range;
    touched = p.touched;
    executed = p.executed;
  }

  abbrev Stops-opened : (why : Halt) (from : Point) (n : ℕ) → Stops IsRun d who mid new entries h0 h1 why from u v n → Stops IsRun d who old new entries h0 h1 why from u v n
  Stops-opened why from n p = record {
    slices = p.slices;
    lost = p.lost;
    part = p.part;
    touches = p.touches;
    lost_touches = p.lost_touches;
    part_touches = p.part_touches;
    done = p.done;
    undone = p.undone;
    are_effects = p.are_effects;
    are_touches = p.are_touches;
    stopped = halts old mid new entries entries h0 h0 h1 why [] p.done p.undone (sym (append-nil entries)) opening p.stopped;
    names = p.names;
    unplugged = p.unplugged;
    begins = p.begins;
    names_lost = p.names_lost;
    unplugged_lost = p.unplugged_lost;
    without = p.without;
    spent = p.spent;
    many = p.many;
    picked = p.picked;
    in_range = p.in_range;
    touched = p.touched;
    one_part = p.one_part;
    by_memory = p.by_memory;
    unmade = p.unmade;
    executed = p.executed;
  }

  Answers-behind : (parts : List Part) → AnswersParts who g entries parts u v (CarriesOut IsRun d mid new entries h0 h1) → AnswersParts who g entries parts u v (CarriesOut IsRun d old new entries h0 h1)
  Answers-behind parts a = record {
    commands = a.commands;
    each_asks = a.each_asks;
    cost = a.cost;
    answered = Advances-opened _ _ a.cost a.answered;
    costs = a.costs;
    on_run = a.on_run;
    spared = a.spared;
  }

  Begins-behind : (why : Halt) (text : List ℕ) (l : Option (List ℕ)) → BeginsOn d who g entries (standing mid h0 u) (standing new h1 v) why text l → BeginsOn d who g entries (standing old h0 u) (standing new h1 v) why text l
  Begins-behind why text l b = record {
    is_begun = b.is_begun;
    answered = b.answered;
    next = b.next;
    one_at_most = b.one_at_most;
    each_asks = b.each_asks;
    cost = b.cost;
    halted = Stops-opened why _ b.cost b.halted;
    costs = b.costs;
    on_run = b.on_run;
    begun_on_run = λ needed. elim (b.begun_on_run needed) [
      | inl run ↦ inl run
      | inr nothing ↦ inr (Stops-opened why _ b.cost nothing)
    ];
  }

  Finds-behind : (text : List ℕ) (l : Option (List ℕ)) → FindsOn d who g entries (standing mid h0 u) (standing new h1 v) text l → FindsOn d who g entries (standing old h0 u) (standing new h1 v) text l
  Finds-behind text l b = record {
    is_begun = b.is_begun;
    answered = b.answered;
    next = b.next;
    each_asks = b.each_asks;
    needless = b.needless;
    needs = b.needs;
    cost = b.cost;
    done = Advances-opened _ _ b.cost b.done;
    costs = b.costs;
  }

  -- what the status of a session tells that began where its log was opened it tells also from before that
  pub Told-opened : OpenedLeaves IsRun d → OpenedRests IsRun d → OpensLog d old mid → GoesOn d.image d.faults old mid → (history : List Record) → entries ≡ history → {s : Status} {l0 l1 : Option (List ℕ)} {f0 f1 k0 k1 : ℕ} →
      Told d who g s entries (record { stands = standing mid h0 u; left = l0; source_faults = f0; sink_faults = k0 }) (record { stands = standing new h1 v; left = l1; source_faults = f1; sink_faults = k1 }) →
      Told d who g s history (record { stands = standing old h0 u; left = l0; source_faults = f0; sink_faults = k0 }) (record { stands = standing new h1 v; left = l1; source_faults = f1; sink_faults = k1 })
  Told-opened leaves_behind rests_behind opens later history same {s} {l0} {l1} {f0} {f1} {k0} {k1} p =
      let begins : (why : Halt) → IfSome l0 (λ text. BeginsOn d who g entries (standing mid h0 u) (standing new h1 v) why text l1) → IfSome l0 (λ text. BeginsOn d who g entries (standing old h0 u) (standing new h1 v) why text l1) = λ why b. IfSome_then l0 b (λ text begun. Begins-behind why text l1 begun) in
      subst (λ (h : List Record). Told d who g s h (record { stands = standing old h0 u; left = l0; source_faults = f0; sink_faults = k0 }) (record { stands = standing new h1 v; left = l1; source_faults = f1; sink_faults = k1 })) same (record {
        usage = p.usage;
        read = p.read;
        answered = λ is. IfSome_then l0 (p.answered is) (λ text a. Answers-behind (text_parts text) a);
        short = p.short;
        source = p.source;
        sink = p.sink;
        disk = λ is. Rose-after (d.faults old) (d.faults mid) (d.faults new) later.never_falls p.later.never_falls (p.disk is);
        early = p.early;
        cut = λ is. begins halt.Sink (p.cut is);
        stopped = λ is. begins halt.Disk (p.stopped is);
        full = λ log payload is. begins (halt.Full log payload) (p.full log payload is);
        begun = λ is. begins halt.NoMemory (p.begun is);
        refused = p.refused;
        broken = p.broken;
        differs = λ at is. let found = p.differs at is in (found.0, IfSome_then l0 found.1 (λ text f. Finds-behind text l1 f));
        long = p.long;
        taken = λ which. let a = p.taken which in record { taken = a.taken; is_taken = a.is_taken; answered = Answers-behind (whole_parts a.taken) a.answered };
        touched = p.touched;
        any_moment = leaves_behind old mid new entries entries h0 refl opening opens p.any_moment;
        rests = λ not_disk not_memory. rests_behind old mid new entries entries h0 refl opening (p.rests not_disk not_memory);
        shut = p.shut;
        at_most = p.at_most;
        numbers = p.numbers;
        later = goes-both d.image d.faults old mid new later p.later;
      })
