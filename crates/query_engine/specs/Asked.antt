-- What is answered of a target.
use Rattle.std.specs.Prelude.{◌≡◌, ℕ, true, false, List, Option, Some, None}
use Rattle.arn_base.specs.declared.records.Record.{Record}
use Rattle.rv64_model.specs.Carries.{operands}
use Rattle.rv64_model.specs.declared.linkage.Linkage.{Linkage}
use Rattle.history_model.specs.Events.{event_at, is_range}
use Rattle.query_model.specs.Answers.{count_in, event_disagreement, event_groups, event_pairs, moment_of}
use Rattle.parts_model.specs.declared.tagged.TaggedByte.{TaggedByte}
use Rattle.query_model.specs.Names.{Named, named_bytes, written_groups}
use Rattle.query_model.specs.States.{process_groups}
use Rattle.query_model.specs.declared.held.Held.{Held}
use Rattle.query_model.specs.declared.held.Part.TheVariants as part
use Rattle.replay_steps.specs.declared.errors.QueryError.{QueryError}
use Rattle.replay_steps.specs.declared.errors.QueryError.TheVariants as error
use Rattle.followed_groups.specs.Follows.{Explains}
use Rattle.query_engine.specs.Names.{AnswersNamed, FailsNamed}
use Rattle.followed_groups.specs.Parts.{IsPart, ran_in}
use Rattle.query_engine.specs.States.{AnswersHeld, FailsHeld}
use Rattle.query_engine.specs.declared.engine.Answer.{Answer}
use Rattle.query_engine.specs.declared.engine.Target.{Target}
use Rattle.query_engine.specs.declared.engine.Target.TheVariants as target

-- those that are asked about an event, before it
abbrev pub ran_for : List Record → ℕ → ℕ
ran_for entries event = ran_in entries (moment_of entries event) (event_groups entries event)

-- the bytes are there, no group that is asked disagrees, these pairs, groups and counts are the answer, and some of the groups were replayed
pub record AnswersEvent (linkage : Linkage) (entries : List Record) (event from len : ℕ) (answer : Answer) : Type 0 where
  pub range : is_range (event_at entries event) from len ≡ true
  pub agree : event_disagreement entries event ≡ None
  pub pairs : answer.pairs ≡ event_pairs (operands linkage) entries event from len
  pub groups : answer.groups ≡ event_groups entries event
  pub replayed : IsPart answer.replayed (event_groups entries event)
  pub instructions : answer.instructions ≡ count_in entries (event_groups entries event)

-- there are no such bytes; or a group that is asked disagrees, or memory ran out
abbrev pub FailsEvent : List Record → ℕ → ℕ → ℕ → QueryError → Type 0
FailsEvent entries event from len error.NoPoint = is_range (event_at entries event) from len ≡ false
FailsEvent entries event from len (error.Disagrees d) =
    (is_range (event_at entries event) from len ≡ true) × Explains (event_disagreement entries event) (error.Disagrees d)
FailsEvent entries event from len error.NoMemory = is_range (event_at entries event) from len ≡ true

-- those that are asked about bytes of a process, before their moment
abbrev pub ran_for_held : List Record → Held → ℕ
ran_for_held entries held = ran_in entries held.moment (process_groups entries held.pid)

-- the bytes of memory, and those of a register, that targets name
abbrev pub in_memory : ℕ → ℕ → ℕ → ℕ → Held
in_memory moment pid at len = record { moment = moment; pid = pid; part = part.Memory at len }

abbrev pub in_register : ℕ → ℕ → ℕ → Held
in_register moment pid reg = record { moment = moment; pid = pid; part = part.Register reg }

-- those that are asked about bytes of a file, before their moment: none, where it hasn't these
abbrev pub ran_for_bytes : List Record → ℕ → Option (List TaggedByte) → ℕ
ran_for_bytes entries moment None = 0
ran_for_bytes entries moment (Some bytes) = ran_in entries moment (written_groups entries bytes)

abbrev pub ran_for_named : List Record → Named → ℕ
ran_for_named entries n = ran_for_bytes entries n.moment (named_bytes entries n)

-- the bytes of a file that a target names
abbrev pub in_file : ℕ → List ℕ → ℕ → ℕ → Named
in_file moment name from len = record { moment = moment; name = name; from = from; len = len }

abbrev pub Answers : Linkage → List Record → Target → Answer → Type 0
Answers linkage entries (target.Event event from len) answer = AnswersEvent linkage entries event from len answer
Answers linkage entries (target.Mem moment pid at len) answer = AnswersHeld linkage entries (in_memory moment pid at len) answer
Answers linkage entries (target.Reg moment pid reg) answer = AnswersHeld linkage entries (in_register moment pid reg) answer
Answers linkage entries (target.Name moment name from len) answer = AnswersNamed linkage entries (in_file moment name from len) answer

abbrev pub Fails : List Record → Target → QueryError → Type 0
Fails entries (target.Event event from len) why = FailsEvent entries event from len why
Fails entries (target.Mem moment pid at len) why = FailsHeld entries (in_memory moment pid at len) why
Fails entries (target.Reg moment pid reg) why = FailsHeld entries (in_register moment pid reg) why
Fails entries (target.Name moment name from len) why = FailsNamed entries (in_file moment name from len) why

-- the moment up to which groups are followed
abbrev pub moment_asked : List Record → Target → ℕ
moment_asked entries (target.Event event from len) = moment_of entries event
moment_asked entries (target.Mem moment pid at len) = moment
moment_asked entries (target.Reg moment pid reg) = moment
moment_asked entries (target.Name moment name from len) = moment

-- how many instructions a query runs at most
abbrev pub ran_about : List Record → Target → ℕ
ran_about entries (target.Event event from len) = ran_for entries event
ran_about entries (target.Mem moment pid at len) = ran_for_held entries (in_memory moment pid at len)
ran_about entries (target.Reg moment pid reg) = ran_for_held entries (in_register moment pid reg)
ran_about entries (target.Name moment name from len) = ran_for_named entries (in_file moment name from len)

-- what isn't there runs nothing
abbrev pub RunsNothing : QueryError → ℕ → ℕ → Type 0
RunsNothing error.NoPoint before after = after ≡ before
RunsNothing other before after = Unit {0}
