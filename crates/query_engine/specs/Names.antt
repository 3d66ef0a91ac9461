-- What is answered of bytes of a file at a moment.
use Rattle.std.specs.Prelude.{◌≡◌, ℕ, List, Option, Some, None}
use Rattle.arn_base.specs.declared.records.Record.{Record}
use Rattle.parts_model.specs.declared.tagged.TaggedByte.{TaggedByte}
use Rattle.query_model.specs.Answers.{count_in}
use Rattle.query_model.specs.Names.{Named, named_bytes, written_disagreement, written_groups, written_pairs}
use Rattle.replay_steps.specs.declared.errors.QueryError.{QueryError}
use Rattle.replay_steps.specs.declared.errors.QueryError.TheVariants as error
use Rattle.rv64_model.specs.Carries.{operands}
use Rattle.rv64_model.specs.declared.linkage.Linkage.{Linkage}
use Rattle.followed_groups.specs.Follows.{Explains}
use Rattle.followed_groups.specs.Parts.{IsPart}
use Rattle.query_engine.specs.declared.engine.Answer.{Answer}

-- no group that is asked disagrees, these pairs, groups and counts are the answer, and some of the groups were replayed
pub record AnswersWritten (linkage : Linkage) (entries : List Record) (moment : ℕ) (bytes : List TaggedByte) (answer : Answer) : Type 0 where
  pub agree : written_disagreement entries moment bytes ≡ None
  pub pairs : answer.pairs ≡ written_pairs (operands linkage) entries moment bytes
  pub groups : answer.groups ≡ written_groups entries bytes
  pub replayed : IsPart answer.replayed (written_groups entries bytes)
  pub instructions : answer.instructions ≡ count_in entries (written_groups entries bytes)

-- the bytes are there, and this answers of them
abbrev pub AnswersBytes : Linkage → List Record → ℕ → Option (List TaggedByte) → Answer → Type 0
AnswersBytes linkage entries moment None answer = ⊥
AnswersBytes linkage entries moment (Some bytes) answer = AnswersWritten linkage entries moment bytes answer

abbrev pub AnswersNamed : Linkage → List Record → Named → Answer → Type 0
AnswersNamed linkage entries n answer = AnswersBytes linkage entries n.moment (named_bytes entries n) answer

-- there are no such bytes; or a group that is asked disagrees, or memory ran out
abbrev pub FailsBytes : List Record → ℕ → Option (List TaggedByte) → QueryError → Type 0
FailsBytes entries moment bytes error.NoPoint = bytes ≡ None
FailsBytes entries moment None (error.Disagrees d) = ⊥
FailsBytes entries moment (Some bytes) (error.Disagrees d) = Explains (written_disagreement entries moment bytes) (error.Disagrees d)
FailsBytes entries moment bytes error.NoMemory = Unit {0}

abbrev pub FailsNamed : List Record → Named → QueryError → Type 0
FailsNamed entries n why = FailsBytes entries n.moment (named_bytes entries n) why
