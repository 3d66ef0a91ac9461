-- How questions about a history are answered.
use Rattle.std.specs.Prelude.{ℕ, List}
use Rattle.arn_base.specs.declared.records.Record.{Record}
use Rattle.arn_lines.specs.declared.line.Question.{Question}

-- what is printed for a question, and how many instructions are executed for it at most
pub record Told : Type 0 where
  pub text : List Record → Question → List ℕ
  pub cost : List Record → Question → ℕ
  -- the same of what the generator did with so many processes
  pub generated : List Record → ℕ → List ℕ
  pub generated_cost : List Record → ℕ
