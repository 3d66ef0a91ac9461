-- What a session leaves that began on a history, however it ended.
use Rattle.std.specs.Prelude.{◌≡◌, ◌≢◌, ◌⊎◌, ◌+◌, ◌<◌, ◌≤◌, ◌^◌, ℕ, List, [], length, drop, Option, Some, IfSome, Result, OnOk, IfErr, IsErrOf}
use Rattle.arn_base.specs.declared.boxes.Chooser as choosers
use Rattle.arn_base.specs.declared.disk.Disk.{Ghosts}
use Rattle.arn_base.specs.declared.records.Differs.{Differs}
use Rattle.arn_base.specs.declared.records.Record.{Record}
use Rattle.arn_base.specs.declared.streams.Sink as sinks
use Rattle.arn_base.specs.declared.streams.Source as sources
use Rattle.arn_base.specs.Faults.{Rose}
use Rattle.arn_commands.specs.Parts.{text_parts, whole_parts}
use Rattle.history_model.specs.Unplugged.{unplugged_in}
use Rattle.log_model.specs.Records.{IsRun}
use Rattle.log_store.specs.Stops.{GoesOn, LeavesOnly}
use Rattle.log_store.specs.declared.size.TheConstants.{MOST_LOG}
use Rattle.session_effects.specs.Carrying.{CarriesOut, HoldsMore, IsAtRest, IsShut, RestsMore}
use Rattle.session_effects.specs.declared.halt.Halt.{Halt}
use Rattle.session_effects.specs.declared.halt.Halt.TheVariants as halt
use Rattle.session_effects.specs.declared.outside.Outside.{Outside}
use Rattle.session_commands.specs.Answering.{IsNoRun}
use Rattle.session_runs.specs.Points.{Surroundings, around}
use Rattle.session_runs.specs.Touches.{Answering}
use Rattle.session_commands.specs.Given.{Given}
use Rattle.session_text.specs.Answered.{AnswersParts, AnswersTaken, TookAtMost, TookFewer}
use Rattle.session_text.specs.Begun.{BeginsOn, FindsOn, Standing, standing}
use Rattle.session_text.specs.Gone.{WereSpared}

-- how it stands around a session, what is left of its source if that tells, and how often source and sink have failed
pub record Scene (D A : Type 0) : Type 0 where
  pub stands : Standing D A
  pub left : Option (List ℕ)
  pub source_faults : ℕ
  pub sink_faults : ℕ

-- the same of a source, a sink and a disk, and of what surrounds the machine
abbrev pub scene_of : {S K D A : Type 0} → sources.Ghosts S → sinks.Ghosts K → S → K → D → Surroundings A → Scene D A
scene_of s k source sink disk around = record {
  stands = standing disk (k.holds sink) around;
  left = s.left source;
  source_faults = s.faults source;
  sink_faults = k.faults sink;
}

-- of a source and of what is lent
abbrev pub scene : {S C A D K L : Type 0} → sources.Ghosts S → choosers.Ghosts C → sinks.Ghosts K → S → Outside C A D K L → Scene D A
scene s c k source o = scene_of s k source o.sink.now o.disk.now (around (c.choices o.chooser.now) o.answers.now o.steps.now)

module _ {D A : Type 0} (d : Ghosts D) (who : Answering A) (g : Given) (history : List Record) where
  pub record Leaves (result : Result (Unit {0}) Halt) (old new : Scene D A) : Type 0 where
    -- the source was read to its end, and every line and block of it was answered
    pub read : OnOk result (IfSome old.left (λ text. new.left ≡ Some []))
    pub answered : OnOk result (IfSome old.left (λ text. AnswersParts who g history (text_parts text) old.stands.around new.stands.around (CarriesOut IsRun d old.stands.disk new.stands.disk history old.stands.held new.stands.held)))
    pub short : OnOk result (IfSome old.left (λ text. length text < 2 ^ 40))
    -- it halted before that
    pub stops : IfErr result (λ why. why ≢ halt.Source → why ≢ halt.Long → IfSome old.left (λ text. BeginsOn d who g history old.stands new.stands why text new.left))
    -- the records of the log aren't those of a run, and a command needed the machine
    pub blames : (at : Differs) → IsErrOf result (halt.Differs at) → IsNoRun history at
    pub finds : (at : Differs) → IsErrOf result (halt.Differs at) → IfSome old.left (λ text. FindsOn d who g history old.stands new.stands text new.left)
    -- the source failed, or as many bytes were taken as a session takes at most: every line that was taken with its LF was answered, and
    -- nothing else
    pub early : IsErrOf result halt.Source → TookFewer (2 ^ 40) old.left new.left
    pub long : IsErrOf result halt.Long → IfSome old.left (λ text. (2 ^ 40 ≤ length text) × (new.left ≡ Some (drop (2 ^ 40) text)))
    pub taken : IsErrOf result halt.Source ⊎ IsErrOf result halt.Long → AnswersTaken who g history old.left new.left whole_parts old.stands.around new.stands.around (CarriesOut IsRun d old.stands.disk new.stands.disk history old.stands.held new.stands.held)
    pub at_most : TookAtMost (2 ^ 40) old.left new.left
    -- a stop of the machine at any moment leaves the history and more
    pub any_moment : IsAtRest d old.stands.disk history → LeavesOnly d.moment d.left_since old.stands.disk new.stands.disk (HoldsMore IsRun history)
    pub rests : OnOk result (IsAtRest d old.stands.disk history → RestsMore d new.stands.disk history)
    pub still_rests : IfErr result (λ why. why ≢ halt.Disk → why ≢ halt.NoMemory → IsAtRest d old.stands.disk history → RestsMore d new.stands.disk history)
    -- a log that ended with its closed gate does so again
    pub shuts : OnOk result (IsShut d old.stands.disk → IsShut d new.stands.disk)
    pub still_shuts : IfErr result (λ why. why ≢ halt.Disk → why ≢ halt.NoMemory → IsShut d old.stands.disk → IsShut d new.stands.disk)
    -- what failed did fail, and what is full has no room
    pub source : IsErrOf result halt.Source → Rose old.source_faults new.source_faults
    pub sink : IsErrOf result halt.Sink → Rose old.sink_faults new.sink_faults
    pub disk : IsErrOf result halt.Disk → Rose (d.faults old.stands.disk) (d.faults new.stands.disk)
    pub full : (log payload : ℕ) → IsErrOf result (halt.Full log payload) → MOST_LOG < log + 5 + payload
    -- the disk goes on, and what was unplugged in the history or since isn't asked any more
    pub later : GoesOn d.image d.faults old.stands.disk new.stands.disk
    pub touched : WereSpared who (unplugged_in history) old.stands.around.answers new.stands.around.answers
