-- What is printed for a question about a history, and what it costs.
use Rattle.std.specs.Prelude.{ℕ, if◌then◌else◌, List, ◌++◌, codes, length, flat_map, Option, Some, None}
use Rattle.arn_base.specs.declared.records.Pair.{Pair}
use Rattle.arn_base.specs.declared.records.Record.{Record}
use Rattle.rv64_model.specs.Carries.{Table, operands}
use Rattle.rv64_model.specs.declared.linkage.Linkage.{Linkage}
use Rattle.arn_lines.specs.declared.answer.Refusal.TheVariants.{NoPoint}
use Rattle.arn_lines.specs.declared.line.Aspect.{Aspect}
use Rattle.arn_lines.specs.declared.line.Aspect.TheVariants as aspect
use Rattle.arn_lines.specs.declared.line.Question.{Question}
use Rattle.arn_lines.specs.declared.line.Question.TheVariants as question
use Rattle.arn_lines.specs.declared.line.Sought.{Sought}
use Rattle.arn_lines.specs.declared.line.Sought.TheVariants as sought
use Rattle.arn_lines.specs.Texts.{count_text, pair_text, refusal_text}
use Rattle.guest_machine.specs.Again.{rebuild_cost}
use Rattle.history_model.specs.Events.{event_at, is_range}
use Rattle.parts_model.specs.declared.tagged.TaggedByte.{TaggedByte}
use Rattle.query_model.specs.Answers.{count_in, event_groups, event_pairs}
use Rattle.query_model.specs.Forth.{forth_groups}
use Rattle.query_model.specs.Names.{Named, named_bytes, written_disagreement, written_groups, written_pairs}
use Rattle.query_model.specs.Sinks.{forth_disagreement, forth_pairs}
use Rattle.query_model.specs.States.{held_disagreement, held_pairs, process_groups}
use Rattle.query_model.specs.declared.held.Held.{Held}
use Rattle.query_engine.specs.Asked.{in_file, in_memory, in_register, ran_for_held, ran_for_named}
use Rattle.query_engine.specs.Forth.{ran_forth}
use Rattle.followed_pairs.specs.States.{is_held}
use Rattle.query_engine.specs.declared.engine.Target.{Target}
use Rattle.query_engine.specs.declared.engine.Target.TheVariants as target
use Rattle.session_reports.specs.Events.{events_text}
use Rattle.session_reports.specs.Files.{show_file_text}
use Rattle.session_reports.specs.Groups.{groups_text}
use Rattle.session_reports.specs.Processes.{show_procs_text}
use Rattle.session_reports.specs.States.{show_mem_cost, show_mem_text, show_regs_cost, show_regs_text}
use Rattle.session_model.specs.Questions.{Told}
use Rattle.session_questions.specs.Asked.{event_cost, unless_damaged, unless_refused}
use Rattle.session_questions.specs.Generated.{generated_cost, generated_text}
use Rattle.session_questions.specs.Verify.{verify_text}

-- what is printed for a question, and how many instructions are executed for it at most
pub record Telling : Type 0 where
  pub text : List ℕ
  pub cost : ℕ

-- the pairs, and behind them how many there are, what the groups have run that were asked, and which these are
abbrev pub pairs_text : List ℕ → List Pair → ℕ → List ℕ → List ℕ
pairs_text word pairs instructions groups = flat_map pair_text pairs ++ count_text word (length pairs) instructions groups

-- backward and forward
abbrev pub answer_text : List Pair → ℕ → List ℕ → List ℕ
answer_text = pairs_text (codes "back")

abbrev pub reached_text : List Pair → ℕ → List ℕ → List ℕ
reached_text = pairs_text (codes "forth")

-- the source bytes of bytes of an event
abbrev pub sources_text : Table → List Record → ℕ → ℕ → ℕ → List ℕ
sources_text table entries event from len =
    answer_text (event_pairs table entries event from len) (count_in entries (event_groups entries event)) (event_groups entries event)

-- bytes of an event: the groups that are asked run again up to it. Bytes that aren't there are refused
abbrev pub event_telling : Table → List Record → ℕ → ℕ → ℕ → Telling
event_telling table entries event from len = record {
  text = unless_refused entries event from len (sources_text table entries event from len);
  cost = event_cost entries event from len;
}

-- bytes that a process holds at a moment: the groups that are asked run again up to it
abbrev pub held_text : Table → List Record → Held → List ℕ
held_text table entries held =
    answer_text (held_pairs table entries held) (count_in entries (process_groups entries held.pid)) (process_groups entries held.pid)

abbrev pub held_telling : Table → List Record → Held → Telling
held_telling table entries held = record {
  text =
      if is_held entries held
      then unless_damaged (held_disagreement entries held) (held_text table entries held)
      else refusal_text NoPoint;
  cost = if is_held entries held then ran_for_held entries held else 0;
}

-- bytes that a file has at a moment: the groups that are asked run again up to it. Where it hasn't these, that is refused
abbrev pub written_text : Table → List Record → ℕ → List TaggedByte → List ℕ
written_text table entries moment bytes =
    answer_text (written_pairs table entries moment bytes) (count_in entries (written_groups entries bytes)) (written_groups entries bytes)

abbrev pub bytes_answer : Table → List Record → ℕ → Option (List TaggedByte) → List ℕ
bytes_answer table entries moment None = refusal_text NoPoint
bytes_answer table entries moment (Some bytes) = unless_damaged (written_disagreement entries moment bytes) (written_text table entries moment bytes)

abbrev pub named_telling : Table → List Record → Named → Telling
named_telling table entries n = record { text = bytes_answer table entries n.moment (named_bytes entries n); cost = ran_for_named entries n }

-- which bytes that went out bytes of an event reach: the groups to which they can have come run again to their end
abbrev pub sinks_text : Table → List Record → ℕ → ℕ → ℕ → List ℕ
sinks_text table entries event from len =
    reached_text (forth_pairs table entries event from len) (count_in entries (forth_groups entries event from len)) (forth_groups entries event from len)

abbrev pub forth_telling : Table → List Record → ℕ → ℕ → ℕ → Telling
forth_telling table entries event from len = record {
  text =
      if is_range (event_at entries event) from len
      then unless_damaged (forth_disagreement entries event from len) (sinks_text table entries event from len)
      else refusal_text NoPoint;
  cost = if is_range (event_at entries event) from len then ran_forth entries event from len else 0;
}

-- where bytes come from
abbrev pub back_telling : List Record → Linkage → Sought → Telling
back_telling entries linkage (sought.Event event from len) = event_telling (operands linkage) entries event from len
back_telling entries linkage (sought.Memory moment pid at len) = held_telling (operands linkage) entries (in_memory moment pid at len)
back_telling entries linkage (sought.Register moment pid register) = held_telling (operands linkage) entries (in_register moment pid register)
back_telling entries linkage (sought.Name moment name from len) = named_telling (operands linkage) entries (in_file moment name from len)

-- where those of a target of the engine come from, and what is told where none has such bytes
abbrev pub target_telling : Linkage → List Record → Option Target → Telling
target_telling linkage entries None = record { text = refusal_text NoPoint; cost = 0 }
target_telling linkage entries (Some (target.Event event from len)) = event_telling (operands linkage) entries event from len
target_telling linkage entries (Some (target.Mem moment pid at len)) = held_telling (operands linkage) entries (in_memory moment pid at len)
target_telling linkage entries (Some (target.Reg moment pid reg)) = held_telling (operands linkage) entries (in_register moment pid reg)
target_telling linkage entries (Some (target.Name moment name from len)) = named_telling (operands linkage) entries (in_file moment name from len)

-- what was held at a moment: for what a process held its group runs again up to it
abbrev pub show_telling : List Record → ℕ → Aspect → Telling
show_telling entries moment (aspect.Registers pid) = record { text = show_regs_text entries moment pid; cost = show_regs_cost entries moment pid }
show_telling entries moment (aspect.Memory pid at len) = record { text = show_mem_text entries moment pid at len; cost = show_mem_cost entries moment pid at len }
show_telling entries moment (aspect.File name) = record { text = show_file_text entries moment name; cost = 0 }
show_telling entries moment aspect.Processes = record { text = show_procs_text entries moment; cost = 0 }

-- each question
abbrev pub telling : List Record → Question → Telling
telling entries (question.Show moment shown) = show_telling entries moment shown
telling entries (question.Back linkage bytes) = back_telling entries linkage bytes
telling entries (question.Forth linkage event from len) = forth_telling (operands linkage) entries event from len
telling entries question.Groups = record { text = groups_text entries; cost = 0 }
telling entries question.Events = record { text = events_text entries; cost = 0 }
telling entries question.Verify = record { text = verify_text entries; cost = rebuild_cost entries }

abbrev pub question_text : List Record → Question → List ℕ
question_text entries q = (telling entries q).text

abbrev pub question_cost : List Record → Question → ℕ
question_cost entries q = (telling entries q).cost

-- how questions are answered
abbrev pub told : Told
told = record { text = question_text; cost = question_cost; generated = generated_text; generated_cost = generated_cost }
