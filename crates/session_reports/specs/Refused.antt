-- What is printed where a past state can't be shown.
use Rattle.std.specs.Prelude.{ℕ, List, []}
use Rattle.arn_lines.specs.declared.answer.Refusal.TheVariants.{NoPoint}
use Rattle.arn_lines.specs.Texts.{damaged_text, refusal_text}
use Rattle.replay_steps.specs.declared.errors.QueryError.{QueryError}
use Rattle.replay_steps.specs.declared.errors.QueryError.TheVariants as error

-- nothing where memory ran out
abbrev pub error_text : QueryError → List ℕ
error_text error.NoPoint = refusal_text NoPoint
error_text (error.Disagrees d) = damaged_text d.event d.said d.found
error_text error.NoMemory = []
