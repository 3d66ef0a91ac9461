-- What comes of queries about writes to the console.
use Rattle.std.specs.Prelude.{◌≡◌, ◌≢◌, ℕ, List, sum_by}
use Rattle.arn_base.specs.declared.records.Record.{Record}
use Rattle.replay_steps.specs.declared.errors.QueryError.{QueryError}
use Rattle.replay_steps.specs.declared.errors.QueryError.TheVariants as error
use Rattle.session_questions.specs.Generated.{Write, pairs_of, unless_one_refused}
use Rattle.session_reports.specs.Refused.{error_text}

-- all of them are answered, by so many pairs
pub record AreAnswered (entries : List Record) (asked : List Write) (pairs : ℕ) : Type 0 where
  pub told : (text : List ℕ) → unless_one_refused entries asked text ≡ text
  pub counted : pairs ≡ sum_by (pairs_of entries) asked

-- one isn't, and so it is told, unless memory ran out
abbrev pub IsRefused : List Record → List Write → QueryError → Type 0
IsRefused entries asked why = why ≢ error.NoMemory → (text : List ℕ) → unless_one_refused entries asked text ≡ error_text why
