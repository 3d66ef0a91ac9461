-- What a session answered of its text.
use Rattle.std.specs.Prelude.{◌≡◌, ◌≤◌, ◌<◌, ℕ, ◌+◌, ◌++◌, true, List, length, Option, IfSome, option_map}
use Rattle.arn_base.specs.declared.records.Record.{Record}
use Rattle.arn_commands.specs.declared.command.Command.{Command}
use Rattle.arn_commands.specs.Commands.{EachAsks}
use Rattle.arn_commands.specs.Parts.{Part}
use Rattle.history_model.specs.Unplugged.{unplugged_in}
use Rattle.log_model.specs.Records.{IsRun}
use Rattle.session_effects.specs.Effects.{Effect}
use Rattle.session_runs.specs.Points.{Advances, Surroundings}
use Rattle.session_runs.specs.Touches.{Answering, named_at}
use Rattle.session_runs.specs.Turns.{finished}
use Rattle.session_commands.specs.Given.{Given}
use Rattle.session_text.specs.Gone.{GoneBefore}
use Rattle.session_text.specs.Transcript.{needs_any, total_cost, transcript}

module _ {A : Type 0} (who : Answering A) (g : Given) (history : List Record) where
  -- These parts and no others were answered by a session that began on a history: all that they ask for was carried out, with slices that
  -- were picked for it, and no more instructions were executed than these and the parts cost. Where one of them needs the machine, the
  -- history is that of a run. No device was asked that the history had unplugged, or a part before.
  pub record AnswersParts (parts : List Part) (old new : Surroundings A) (carried : List Effect → Type 0) : Type 0 where
    pub commands : List Command
    pub each_asks : EachAsks parts commands
    pub cost : ℕ
    pub answered : Advances who (transcript g history commands) finished old new cost carried
    pub costs : cost ≤ total_cost g history commands (named_at answered.touches answered.slices)
    pub on_run : needs_any g history commands ≡ true → IsRun history
    pub spared : GoneBefore (unplugged_in history) answered.touches

  -- The same for the parts of a text that a source gave in some part.
  pub record AnswersTaken (left left' : Option (List ℕ)) (parts : List ℕ → List Part) (old new : Surroundings A) (carried : List Effect → Type 0) : Type 0 where
    pub taken : List ℕ
    pub is_taken : left ≡ option_map (λ rest. taken ++ rest) left'
    pub answered : AnswersParts (parts taken) old new carried

-- of a told text fewer bytes than so many were taken
abbrev pub TookFewer : ℕ → Option (List ℕ) → Option (List ℕ) → Type 0
TookFewer most left left' = IfSome left (λ text. IfSome left' (λ rest. length text < most + length rest))

-- of a told text no more bytes than so many were taken
abbrev pub TookAtMost : ℕ → Option (List ℕ) → Option (List ℕ) → Type 0
TookAtMost most left left' = IfSome left (λ text. IfSome left' (λ rest. length text ≤ most + length rest))
