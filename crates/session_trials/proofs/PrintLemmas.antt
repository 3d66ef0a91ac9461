-- What a session printed into an empty sink.
use Rattle.std.proofs.Common.{◌≡◌, ℕ, List, [], ◌++◌, Option, Some, None, IfSome, append-nil, ap, subst, sym, ◌∙◌}
use Rattle.arn_base.specs.declared.disk.Disk.{Ghosts}
use Rattle.arn_base.specs.declared.records.Record.{Record}
use Rattle.arn_commands.specs.Commands.{EachAsks}
use Rattle.arn_commands.specs.Parts.{text_parts}
use Rattle.session_effects.specs.Carrying.{CarriesOut}
use Rattle.session_effects.specs.Effects.{printed as printed_by}
use Rattle.session_runs.specs.Points.{Surroundings}
use Rattle.session_runs.specs.Touches.{Answering, named_at}
use Rattle.session_runs.specs.Turns.{Turn}
use Rattle.session_commands.specs.Given.{Given}
use Rattle.session_text.specs.Answered.{AnswersParts}
use Rattle.session_text.specs.Transcript.{text_of}
use Rattle.session_trials.specs.Sessions.{Prints}

-- the bytes that are told, or else none
abbrev told_bytes : Option (List ℕ) → List ℕ
told_bytes (Some bytes) = bytes
told_bytes None = []

-- what was put into an empty sink is the text of the session
pub Answers-Prints : {D A : Type 0} (who : Answering A) (g : Given) (is_run : List Record → Type 0) (d : Ghosts D) (old new : D) (history : List Record) (source text held printed : List ℕ) {u v : Surroundings A}
    → source ≡ text → held ≡ []
    → IfSome (Some source) (λ all. AnswersParts who g history (text_parts all) u v (CarriesOut is_run d old new history (Some held) (Some printed)))
    → Prints g history text printed
Answers-Prints who g is_run d old new history source text held printed is_text is_empty answers =
    let a = answers.answered in
    let slices = named_at a.touches a.slices ++ [] in
    let same : text_of g history answers.commands slices ≡ printed_by a.effects = ap (λ (t : Turn). printed_by t.effects) (a.leads []) ∙ ap printed_by (append-nil a.effects) in
    record {
      commands = answers.commands;
      each_asks = subst (λ (all : List ℕ). EachAsks (text_parts all) answers.commands) is_text answers.each_asks;
      slices = slices;
      all = ap told_bytes a.carries.put ∙ ap (λ (before : List ℕ). before ++ printed_by a.effects) is_empty ∙ sym same;
    }
