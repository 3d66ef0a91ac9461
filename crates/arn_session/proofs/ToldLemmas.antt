-- What the status of a session tells that began on its history.
use Rattle.std.proofs.Common.{◌≡◌, ◌≢◌, ◌⊎◌, ℕ, List, [], length, drop, Option, Result, Ok, Err, Some, IfSome, inl, inr, sym, ap, subst, ◌∙◌, ◌<◌, ◌≤◌, ◌^◌}
use Rattle.arn_base.specs.declared.boxes.Choice.{Choice}
use Rattle.arn_base.specs.declared.disk.Disk.{Ghosts}
use Rattle.arn_base.specs.declared.records.Differs.{Differs}
use Rattle.arn_base.specs.declared.records.Record.{Record}
use Rattle.arn_base.specs.Faults.{Rose}
use Rattle.arn_commands.specs.Parts.{text_parts, whole_parts}
use Rattle.history_model.specs.Unplugged.{unplugged_in}
use Rattle.log_model.specs.Records.{IsRun}
use Rattle.log_store.specs.Causes.{BlamesBytes}
use Rattle.log_store.specs.Stops.{GoesOn, LeavesOnly}
use Rattle.log_store.specs.declared.errors.OpenError.{OpenError}
use Rattle.session_effects.specs.Carrying.{CarriesOut, HoldsMore, IsAtRest, IsShut, RestsMore}
use Rattle.session_effects.specs.declared.halt.Halt.{Halt}
use Rattle.session_effects.specs.declared.halt.Halt.TheVariants as halt
use Rattle.session_commands.specs.Answering.{IsNoRun}
use Rattle.session_commands.specs.Given.{Given}
use Rattle.session_runs.specs.Points.{around}
use Rattle.session_runs.specs.Touches.{Answering}
use Rattle.session_text.specs.Answered.{AnswersParts, AnswersTaken, TookAtMost, TookFewer}
use Rattle.session_text.specs.Begun.{BeginsOn, FindsOn, standing}
use Rattle.session_text.specs.Gone.{WereSpared}
use Rattle.session_text.specs.Leaves.{Leaves, Scene}
use Rattle.arn_session.specs.Opening.{HasOpened}
use Rattle.arn_session.specs.Status.{NumbersHold, open_status_of, status_of}
use Rattle.arn_session.specs.declared.status.Status.{Status}
use Rattle.arn_session.specs.declared.status.Status.TheVariants as status
use Rattle.arn_session.specs.declared.status.Damage.TheVariants as damage
use Rattle.arn_session.proofs.ResultLemmas.{err-at, ok-at}
use Rattle.arn_session.proofs.StatusLemmas.{alike, blames-log, halt_for, halt-is, halted-as, halted-refused, neither, numbers-of}

module _ {D A : Type 0} (d : Ghosts D) (who : Answering A) (g : Given) where
  -- what a status tells of a session that began, by the clauses that speak of it
  pub record Told (s : Status) (history : List Record) (old new : Scene D A) : Type 0 where
    pub usage : s ≢ status.Usage
    pub read : s ≡ status.Done → IfSome old.left (λ text. new.left ≡ Some [])
    pub answered : s ≡ status.Done → IfSome old.left (λ text. AnswersParts who g history (text_parts text) old.stands.around new.stands.around (CarriesOut IsRun d old.stands.disk new.stands.disk history old.stands.held new.stands.held))
    pub short : s ≡ status.Done → IfSome old.left (λ text. length text < 2 ^ 40)
    pub source : s ≡ status.Source → Rose old.source_faults new.source_faults
    pub sink : s ≡ status.Sink → Rose old.sink_faults new.sink_faults
    pub disk : s ≡ status.Disk → Rose (d.faults old.stands.disk) (d.faults new.stands.disk)
    pub early : s ≡ status.Source → TookFewer (2 ^ 40) old.left new.left
    pub cut : s ≡ status.Sink → IfSome old.left (λ text. BeginsOn d who g history old.stands new.stands halt.Sink text new.left)
    pub stopped : s ≡ status.Disk → IfSome old.left (λ text. BeginsOn d who g history old.stands new.stands halt.Disk text new.left)
    pub full : (log payload : ℕ) → s ≡ status.Full log payload → IfSome old.left (λ text. BeginsOn d who g history old.stands new.stands (halt.Full log payload) text new.left)
    pub begun : s ≡ status.NoMemory → IfSome old.left (λ text. BeginsOn d who g history old.stands new.stands halt.NoMemory text new.left)
    pub refused : (error : OpenError) → BlamesBytes error → s ≢ open_status_of error
    pub broken : (place : ℕ) → s ≢ status.Damaged (damage.Broken place)
    pub differs : (at : Differs) → s ≡ status.Damaged (damage.Differs at) → IsNoRun history at × IfSome old.left (λ text. FindsOn d who g history old.stands new.stands text new.left)
    pub long : s ≡ status.Long → IfSome old.left (λ text. (2 ^ 40 ≤ length text) × (new.left ≡ Some (drop (2 ^ 40) text)))
    pub taken : (s ≡ status.Source) ⊎ (s ≡ status.Long) → AnswersTaken who g history old.left new.left whole_parts old.stands.around new.stands.around (CarriesOut IsRun d old.stands.disk new.stands.disk history old.stands.held new.stands.held)
    pub touched : WereSpared who (unplugged_in history) old.stands.around.answers new.stands.around.answers
    pub any_moment : IsAtRest d old.stands.disk history → LeavesOnly d.moment d.left_since old.stands.disk new.stands.disk (HoldsMore IsRun history)
    pub rests : s ≢ status.Disk → s ≢ status.NoMemory → IsAtRest d old.stands.disk history → RestsMore d new.stands.disk history
    pub shut : HasOpened s → IsShut d new.stands.disk
    pub at_most : TookAtMost (2 ^ 40) old.left new.left
    pub numbers : NumbersHold s
    pub later : GoesOn d.image d.faults old.stands.disk new.stands.disk

module _ {D A : Type 0} {d : Ghosts D} {who : Answering A} {g : Given} {history : List Record} {old new : Scene D A} {r : Result (Unit {0}) Halt} (p : Leaves d who g history r old new) (was_shut : IsShut d old.stands.disk) where
  -- a session that answered all
  pub told-done : (x : Unit {0}) → r ≡ Ok x → Told d who g status.Done history old new
  told-done x ok = record {
    usage = λ is. alike status.Done status.Usage is;
    read = λ is. ok-at r _ x ok p.read;
    answered = λ is. ok-at r _ x ok p.answered;
    short = λ is. ok-at r _ x ok p.short;
    source = λ is. absurd (alike status.Done status.Source is);
    sink = λ is. absurd (alike status.Done status.Sink is);
    disk = λ is. absurd (alike status.Done status.Disk is);
    early = λ is. absurd (alike status.Done status.Source is);
    cut = λ is. absurd (alike status.Done status.Sink is);
    stopped = λ is. absurd (alike status.Done status.Disk is);
    full = λ log payload is. absurd (alike status.Done (status.Full log payload) is);
    begun = λ is. absurd (alike status.Done status.NoMemory is);
    refused = λ error blames is. blames-log error status.Done blames is;
    broken = λ place is. alike status.Done (status.Damaged (damage.Broken place)) is;
    differs = λ at is. absurd (alike status.Done (status.Damaged (damage.Differs at)) is);
    long = λ is. absurd (alike status.Done status.Long is);
    taken = λ which. absurd (neither status.Done status.Source status.Long (λ no. no) (λ no. no) which);
    touched = p.touched;
    any_moment = p.any_moment;
    rests = λ not_disk not_memory. ok-at r _ x ok p.rests;
    shut = λ has. ok-at r _ x ok p.shuts was_shut;
    at_most = p.at_most;
    numbers = tt;
    later = p.later;
  }

  module _ (why : Halt) (s : Status) (err : r ≡ Err why) (of : s ≡ status_of why) where
    halt-told : (h : Halt) → halt_for s ≡ Some h → r ≡ Err h
    halt-told h is = err ∙ ap (λ (x : Halt). Err x) (halt-is why s h of is)

    begins-told : (h : Halt) → halt_for s ≡ Some h → (h ≢ halt.Source) → (h ≢ halt.Long) → IfSome old.left (λ text. BeginsOn d who g history old.stands new.stands h text new.left)
    begins-told h is not_source not_long = err-at r _ h (halt-told h is) p.stops not_source not_long

    -- one that halted
    pub told-halted : Told d who g s history old new
    told-halted = record {
      usage = λ is. halted-as why s status.Usage of is;
      read = λ is. absurd (halted-as why s status.Done of is);
      answered = λ is. absurd (halted-as why s status.Done of is);
      short = λ is. absurd (halted-as why s status.Done of is);
      source = λ is. p.source (halt-told halt.Source (ap halt_for is));
      sink = λ is. p.sink (halt-told halt.Sink (ap halt_for is));
      disk = λ is. p.disk (halt-told halt.Disk (ap halt_for is));
      early = λ is. p.early (halt-told halt.Source (ap halt_for is));
      cut = λ is. begins-told halt.Sink (ap halt_for is) (λ e. cc) (λ e. cc);
      stopped = λ is. begins-told halt.Disk (ap halt_for is) (λ e. cc) (λ e. cc);
      full = λ log payload is. begins-told (halt.Full log payload) (ap halt_for is) (λ e. cc) (λ e. cc);
      begun = λ is. begins-told halt.NoMemory (ap halt_for is) (λ e. cc) (λ e. cc);
      refused = λ error blames is. halted-refused why error s of blames is;
      broken = λ place is. halted-as why s (status.Damaged (damage.Broken place)) of is;
      differs = λ at is. (p.blames at (halt-told (halt.Differs at) (ap halt_for is)), p.finds at (halt-told (halt.Differs at) (ap halt_for is)));
      long = λ is. p.long (halt-told halt.Long (ap halt_for is));
      taken = λ which. p.taken (elim which [
        | inl is ↦ inl (halt-told halt.Source (ap halt_for is))
        | inr is ↦ inr (halt-told halt.Long (ap halt_for is))
      ]);
      touched = p.touched;
      any_moment = p.any_moment;
      rests = λ not_disk not_memory. err-at r _ why err p.still_rests (λ is. not_disk (of ∙ ap status_of is)) (λ is. not_memory (of ∙ ap status_of is));
      shut = λ has. err-at r _ why err p.still_shuts (λ is. subst HasOpened (of ∙ ap status_of is) has) (λ is. subst HasOpened (of ∙ ap status_of is) has) was_shut;
      at_most = p.at_most;
      numbers = numbers-of why s of (λ log payload is. p.full log payload (err ∙ ap (λ (x : Halt). Err x) is));
      later = p.later;
    }

-- the same, where what was lent has other names
pub told-same : {D A : Type 0} {d : Ghosts D} {who : Answering A} {g : Given} {s : Status} {history : List Record} {old new new' : Scene D A} → new' ≡ new → Told d who g s history old new → Told d who g s history old new'
told-same {D} {A} {d} {who} {g} {s} {history} {old} {new} {new'} same told = subst (λ x. Told d who g s history old x) (sym same) told

-- a scene of what was lent
abbrev pub scene_at : {D K C V A : Type 0} → (K → Option (List ℕ)) → (K → ℕ) → (C → ℕ → Option Choice) → (V → A) → Option (List ℕ) → ℕ → D → K → C → V → ℕ → Scene D A
scene_at holds fails choices items left faults disk sink chooser devices steps = record {
  stands = standing disk (holds sink) (around (choices chooser) (items devices) steps);
  left = left;
  source_faults = faults;
  sink_faults = fails sink;
}

pub scene-same : {D K C V A : Type 0} {disk disk' : D} {sink sink' : K} {chooser chooser' : C} {devices devices' : V} {steps steps' : ℕ} →
    disk' ≡ disk → sink' ≡ sink → chooser' ≡ chooser → devices' ≡ devices → steps' ≡ steps →
    (holds : K → Option (List ℕ)) (fails : K → ℕ) (choices : C → ℕ → Option Choice) (items : V → A) (left : Option (List ℕ)) (faults : ℕ) →
    scene_at holds fails choices items left faults disk' sink' chooser' devices' steps' ≡ scene_at holds fails choices items left faults disk sink chooser devices steps
scene-same disk sink chooser devices steps holds fails choices items left faults = λ i. scene_at holds fails choices items left faults (disk i) (sink i) (chooser i) (devices i) (steps i)
