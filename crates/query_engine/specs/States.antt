-- What is answered of bytes that a process holds at a moment.
use Rattle.std.specs.Prelude.{◌≡◌, true, false, List, None}
use Rattle.arn_base.specs.declared.records.Record.{Record}
use Rattle.rv64_model.specs.Carries.{operands}
use Rattle.rv64_model.specs.declared.linkage.Linkage.{Linkage}
use Rattle.query_model.specs.Answers.{count_in}
use Rattle.query_model.specs.States.{held_disagreement, held_pairs, process_groups}
use Rattle.query_model.specs.declared.held.Held.{Held}
use Rattle.replay_steps.specs.declared.errors.QueryError.{QueryError}
use Rattle.replay_steps.specs.declared.errors.QueryError.TheVariants as error
use Rattle.followed_groups.specs.Follows.{Explains}
use Rattle.followed_groups.specs.Parts.{IsPart}
use Rattle.followed_pairs.specs.States.{is_held}
use Rattle.query_engine.specs.declared.engine.Answer.{Answer}

-- the bytes are there, no group that is asked disagrees, these pairs, groups and counts are the answer, and some of the groups were replayed
pub record AnswersHeld (linkage : Linkage) (entries : List Record) (held : Held) (answer : Answer) : Type 0 where
  pub there : is_held entries held ≡ true
  pub agree : held_disagreement entries held ≡ None
  pub pairs : answer.pairs ≡ held_pairs (operands linkage) entries held
  pub groups : answer.groups ≡ process_groups entries held.pid
  pub replayed : IsPart answer.replayed (process_groups entries held.pid)
  pub instructions : answer.instructions ≡ count_in entries (process_groups entries held.pid)

-- there are no such bytes; or a group that is asked disagrees, or memory ran out
abbrev pub FailsHeld : List Record → Held → QueryError → Type 0
FailsHeld entries held error.NoPoint = is_held entries held ≡ false
FailsHeld entries held (error.Disagrees d) = (is_held entries held ≡ true) × Explains (held_disagreement entries held) (error.Disagrees d)
FailsHeld entries held error.NoMemory = is_held entries held ≡ true
