-- What is answered of the bytes that bytes of an event reach.
use Rattle.std.specs.Prelude.{◌≡◌, ℕ, true, false, List, None}
use Rattle.arn_base.specs.declared.records.Record.{Record}
use Rattle.rv64_model.specs.Carries.{operands}
use Rattle.rv64_model.specs.declared.linkage.Linkage.{Linkage}
use Rattle.history_model.specs.Events.{event_at, is_range}
use Rattle.history_model.specs.Moments.{total}
use Rattle.query_model.specs.Answers.{count_in}
use Rattle.query_model.specs.Forth.{forth_groups}
use Rattle.query_model.specs.Sinks.{forth_disagreement, forth_pairs}
use Rattle.replay_steps.specs.declared.errors.QueryError.{QueryError}
use Rattle.replay_steps.specs.declared.errors.QueryError.TheVariants as error
use Rattle.followed_groups.specs.Follows.{Explains}
use Rattle.followed_groups.specs.Parts.{IsPart, ran_in}
use Rattle.query_engine.specs.declared.engine.Answer.{Answer}

-- how many instructions the groups ran to which these bytes can have come
abbrev pub ran_forth : List Record → ℕ → ℕ → ℕ → ℕ
ran_forth entries event from len = ran_in entries (total entries) (forth_groups entries event from len)

-- the bytes are there, no group to which they can have come disagrees, these pairs, groups and counts are the answer, and some of the groups
-- were replayed
pub record AnswersForth (linkage : Linkage) (entries : List Record) (event from len : ℕ) (answer : Answer) : Type 0 where
  pub range : is_range (event_at entries event) from len ≡ true
  pub agree : forth_disagreement entries event from len ≡ None
  pub pairs : answer.pairs ≡ forth_pairs (operands linkage) entries event from len
  pub groups : answer.groups ≡ forth_groups entries event from len
  pub replayed : IsPart answer.replayed (forth_groups entries event from len)
  pub instructions : answer.instructions ≡ count_in entries (forth_groups entries event from len)

-- there are no such bytes; or a group to which they can have come disagrees, or memory ran out
abbrev pub FailsForth : List Record → ℕ → ℕ → ℕ → QueryError → Type 0
FailsForth entries event from len error.NoPoint = is_range (event_at entries event) from len ≡ false
FailsForth entries event from len (error.Disagrees d) =
    (is_range (event_at entries event) from len ≡ true) × Explains (forth_disagreement entries event from len) (error.Disagrees d)
FailsForth entries event from len error.NoMemory = is_range (event_at entries event) from len ≡ true
