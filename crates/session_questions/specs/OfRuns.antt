-- What is printed for a question on the records of a run.
use Rattle.std.specs.Prelude.{◌≡◌, ◌↔◌, ℕ, ◌+◌, ◌≤◌, if◌then◌else◌, List, [], ◌∷◌, ◌++◌, Contains, filter, flat_map, length, sum_by, Option, Some, None}
use Rattle.std.specs.List.{range_with_len, sum}
use Rattle.arn_base.specs.declared.records.Pair.{Pair}
use Rattle.arn_base.specs.declared.records.Record.{Record}
use Rattle.rv64_model.specs.Carries.{Table, operands}
use Rattle.rv64_model.specs.declared.linkage.Linkage.{Linkage}
use Rattle.rv64_model.specs.declared.linkage.Linkage.TheVariants.{Data}
use Rattle.acts_model.specs.Bodies.{seen}
use Rattle.arn_lines.specs.declared.answer.Refusal.TheVariants.{NoPoint}
use Rattle.arn_lines.specs.declared.line.Aspect.{Aspect}
use Rattle.arn_lines.specs.declared.line.Aspect.TheVariants as aspect
use Rattle.arn_lines.specs.declared.line.Question.{Question}
use Rattle.arn_lines.specs.declared.line.Question.TheVariants as question
use Rattle.arn_lines.specs.declared.line.Sought.{Sought}
use Rattle.arn_lines.specs.declared.line.Sought.TheVariants as sought
use Rattle.arn_lines.specs.Texts.{refusal_text}
use Rattle.arn_model.specs.Run.{Input, machine_after, state_at}
use Rattle.arn_model.specs.Tells.{lives}
use Rattle.generator.specs.Sums.{gen_text, written}
use Rattle.history_index.specs.Lookups.{groups_in, members_of, processes_in}
use Rattle.history_model.specs.Events.{event_at, is_range}
use Rattle.lineage_model.specs.Flow.{Byte}
use Rattle.lineage_model.specs.Pairs.{pairs_from}
use Rattle.log_model.specs.Records.{IsRun, records}
use Rattle.log_store.specs.Log.{spellings}
use Rattle.log_store.specs.declared.size.TheConstants.{MOST_LOG}
use Rattle.parts_model.specs.declared.tagged.TaggedByte.{TaggedByte}
use Rattle.past_lives.specs.Members.{is_member, is_memory_range, is_moment}
use Rattle.query_engine.specs.Asked.{in_file, in_memory, in_register}
use Rattle.followed_pairs.specs.States.{is_held}
use Rattle.query_laws.specs.ForthOfRuns.{IsSinkPair}
use Rattle.query_laws.specs.Names.{run_bytes, whole_file}
use Rattle.query_laws.specs.OfRuns.{whole_points}
use Rattle.query_laws.specs.States.{whole_set}
use Rattle.query_model.specs.Answers.{count_in, event_disagreement, event_groups}
use Rattle.query_model.specs.Names.{Named, written_groups}
use Rattle.query_model.specs.Sinks.{forth_pairs}
use Rattle.query_model.specs.States.{part_len, process_groups}
use Rattle.query_model.specs.declared.held.Held.{Held}
use Rattle.report_texts.specs.Totals.{events_line, group_line, groups_line, verify_line}
use Rattle.session_questions.specs.Generated.{Write, generated_text, writes}
use Rattle.session_questions.specs.Texts.{answer_text, question_text, sinks_text}
use Rattle.session_reports.specs.Events.{event_there}
use Rattle.session_reports.specs.Files.{file_of}
use Rattle.session_reports.specs.Processes.{processes_text}
use Rattle.session_reports.specs.States.{mem_of, regs_of}
use Rattle.version_laws.specs.OfRuns.{version_in}
use Rattle.view_laws.specs.Counts.{done_by, happened_at, recorded_at}

-- the pairs of bytes of an event, by the tracking of every step of the whole machine
abbrev pub run_pairs : Table → List Input → ℕ → ℕ → ℕ → List Pair
run_pairs table inputs event from len = pairs_from (λ k. whole_points table inputs event (Byte (from + k))) 0 len

-- these are printed, with the groups that are asked and what they ran; or that there are no such bytes
abbrev pub run_sources_text : Table → List Input → ℕ → ℕ → ℕ → List ℕ
run_sources_text table inputs event from len =
    if is_range (event_at (records inputs) event) from len
    then answer_text (run_pairs table inputs event from len) (count_in (records inputs) (event_groups (records inputs) event)) (event_groups (records inputs) event)
    else refusal_text NoPoint

-- the same of bytes that a process holds at a moment
abbrev pub run_held_text : Table → List Input → Held → List ℕ
run_held_text table inputs held =
    if is_held (records inputs) held
    then answer_text (pairs_from (whole_set table inputs held) 0 (part_len held.part)) (count_in (records inputs) (process_groups (records inputs) held.pid)) (process_groups (records inputs) held.pid)
    else refusal_text NoPoint

-- and of bytes that the machine's file has
abbrev pub run_bytes_text : Table → List Input → Named → Option (List TaggedByte) → List ℕ
run_bytes_text table inputs n None = refusal_text NoPoint
run_bytes_text table inputs n (Some bytes) =
    answer_text (pairs_from (whole_file table inputs n) 0 n.len) (count_in (records inputs) (written_groups (records inputs) bytes)) (written_groups (records inputs) bytes)

abbrev pub run_named_text : Table → List Input → Named → List ℕ
run_named_text table inputs n = run_bytes_text table inputs n (run_bytes inputs n)

-- where bytes come from
abbrev pub run_back_text : List Input → Linkage → Sought → List ℕ
run_back_text inputs linkage (sought.Event event from len) = run_sources_text (operands linkage) inputs event from len
run_back_text inputs linkage (sought.Memory moment pid at len) = run_held_text (operands linkage) inputs (in_memory moment pid at len)
run_back_text inputs linkage (sought.Register moment pid register) = run_held_text (operands linkage) inputs (in_register moment pid register)
run_back_text inputs linkage (sought.Name moment name from len) = run_named_text (operands linkage) inputs (in_file moment name from len)

-- which bytes that went out they reach
abbrev pub run_forth_text : Table → List Input → ℕ → ℕ → ℕ → List ℕ
run_forth_text table inputs event from len =
    if is_range (event_at (records inputs) event) from len then sinks_text table (records inputs) event from len else refusal_text NoPoint

-- the processes that live in the machine at a moment
abbrev pub living : List Input → ℕ → List ℕ
living inputs moment = filter (lives (state_at inputs moment).kernel) (processes_in (records inputs))

-- what the machine held at a moment
abbrev pub run_show_text : List Input → ℕ → Aspect → List ℕ
run_show_text inputs moment (aspect.Registers pid) =
    if is_member (records inputs) moment pid then regs_of (seen (state_at inputs moment).bodies pid) else refusal_text NoPoint
run_show_text inputs moment (aspect.Memory pid at len) =
    if is_memory_range (records inputs) moment pid at len then mem_of at len (seen (state_at inputs moment).bodies pid) else refusal_text NoPoint
run_show_text inputs moment (aspect.File name) =
    if is_moment (records inputs) moment then file_of (version_in (state_at inputs moment).kernel.files name) else refusal_text NoPoint
run_show_text inputs moment aspect.Processes =
    if is_moment (records inputs) moment then processes_text (records inputs) (living inputs moment) else refusal_text NoPoint

-- a group, with the number of its processes and how many instructions they did in the run
abbrev pub run_group_text : List Input → ℕ → List ℕ
run_group_text inputs group = group_line group (length (members_of (records inputs) group)) (done_by inputs group)

-- each group, in order of number, and behind them how many there are
abbrev pub run_groups_text : List Input → List ℕ
run_groups_text inputs = flat_map (run_group_text inputs) (groups_in (records inputs)) ++ groups_line (length (groups_in (records inputs)))

-- an event, with how many instructions the run had done when it had happened
abbrev pub run_event_text : List Input → ℕ → List ℕ
run_event_text inputs n = event_there n (happened_at inputs n) (recorded_at inputs n)

-- so many events, in order, and behind them how many there are
abbrev pub run_first_events : List Input → ℕ → List ℕ
run_first_events inputs many = flat_map (run_event_text inputs) (range_with_len 0 many) ++ events_line many

-- each question
abbrev pub run_text : List Input → Question → List ℕ
run_text inputs (question.Show moment shown) = run_show_text inputs moment shown
run_text inputs (question.Back linkage bytes) = run_back_text inputs linkage bytes
run_text inputs (question.Forth linkage event from len) = run_forth_text (operands linkage) inputs event from len
run_text inputs question.Groups = run_groups_text inputs
run_text inputs question.Events = run_first_events inputs (machine_after inputs).events
run_text inputs question.Verify = verify_line None

-- so it is for every question on the records of a run that are those of a log
abbrev pub AnswersAreOfRuns : Type 0
AnswersAreOfRuns =
    (inputs : List Input) (q : Question) → length (spellings (records inputs)) ≤ MOST_LOG → question_text (records inputs) q ≡ run_text inputs q

-- how many pairs say where the bytes of a write come from, by that tracking
abbrev pub run_pairs_of : List Input → Write → ℕ
run_pairs_of inputs w = length (run_pairs (operands Data) inputs w.event 0 w.len)

-- a text, unless a write has more bytes than may be asked for
abbrev pub unless_one_long : List Record → List Write → List ℕ → List ℕ
unless_one_long entries [] text = text
unless_one_long entries (w ∷ more) text = if is_range (event_at entries w.event) 0 w.len then unless_one_long entries more text else refusal_text NoPoint

-- what is told of the generator
abbrev pub run_generated_text : List Input → ℕ → List ℕ
run_generated_text inputs processes =
    unless_one_long (records inputs) (writes (records inputs)) (gen_text processes (sum (written (records inputs))) (sum_by (run_pairs_of inputs) (writes (records inputs))))

abbrev pub GeneratedIsOfRuns : Type 0
GeneratedIsOfRuns =
    (inputs : List Input) (processes : ℕ) → length (spellings (records inputs)) ≤ MOST_LOG → generated_text (records inputs) processes ≡ run_generated_text inputs processes

-- and they disagree in nothing that a question asks
abbrev pub RunsAreUndamaged : Type 0
RunsAreUndamaged =
    (inputs : List Input) (event : ℕ) → length (spellings (records inputs)) ≤ MOST_LOG → event_disagreement (records inputs) event ≡ None

-- The pairs of a question forward are exactly those whose byte that went out has the source byte, by the tracking of every step.
abbrev pub SinksAreOfRuns : Type 0
SinksAreOfRuns =
    (linkage : Linkage) (inputs : List Input) (event from len : ℕ) → length (spellings (records inputs)) ≤ MOST_LOG → (pair : Pair)
    → Contains (forth_pairs (operands linkage) (records inputs) event from len) pair ↔ IsSinkPair (records inputs) (whole_points (operands linkage) inputs) event from len pair

-- That they are a run's is said of a run's records, and of no others.
abbrev pub VerifyTellsRuns : Type 0
VerifyTellsRuns = (entries : List Record) → (question_text entries question.Verify ≡ verify_line None) ↔ IsRun entries
