-- Answers on the records of a run.
use Rattle.std.proofs.Common.{◌≡◌, ◌∙◌, ℕ, zero, suc, ◌<◌, ◌≤◌, ◌&&◌, nat_le, nat_lt, Bool, true, false, if◌then◌else◌, List, [], ◌∷◌, ◌++◌, length, filter, Option, Some, None, is_some, refl, ap, ap₂, arith, sum_by, ◌↔◌, Contains, slice_get}
use Rattle.std.proofs.lemmas.List.Elements.{All-cons, All-head, All-nil, All-tail}
use Rattle.std.proofs.lemmas.List.Sums.{sum_by-cons}
use Rattle.std.specs.List.{All, flat_map, range_with_len, sum}
use Rattle.acts_model.specs.Bodies.{View, seen}
use Rattle.arn_base.specs.declared.records.Pair.{Pair}
use Rattle.arn_base.specs.declared.records.Record.{Record}
use Rattle.rv64_model.specs.Carries.{operands}
use Rattle.rv64_model.specs.declared.linkage.Linkage.{Linkage}
use Rattle.rv64_model.specs.declared.linkage.Linkage.TheVariants.{Data}
use Rattle.arn_lines.specs.declared.answer.Refusal.TheVariants.{NoPoint}
use Rattle.arn_lines.specs.declared.line.Aspect.{Aspect}
use Rattle.arn_lines.specs.declared.line.Aspect.TheVariants as aspect
use Rattle.arn_lines.specs.declared.line.Question.{Question}
use Rattle.arn_lines.specs.declared.line.Question.TheVariants as question
use Rattle.arn_lines.specs.Texts.{refusal_text}
use Rattle.arn_lines.specs.declared.line.Sought.{Sought}
use Rattle.arn_lines.specs.declared.line.Sought.TheVariants as sought
use Rattle.arn_model.specs.Run.{Input, machine_after, state_at}
use Rattle.arn_model.specs.Tells.{lives}
use Rattle.history_index.specs.Lookups.{groups_in, members_of, processes_in}
use Rattle.history_model.specs.Alone.{Disagrees, Made}
use Rattle.history_model.specs.Events.{event_at, events, how_many, is_range}
use Rattle.history_model.specs.Moments.{lives_at, segment_at}
use Rattle.log_model.specs.Laws.{RecordsAreRun}
use Rattle.log_model.specs.Records.{records}
use Rattle.log_store.specs.Log.{spellings}
use Rattle.log_store.specs.declared.size.TheConstants.{MOST_LOG}
use Rattle.past_lives.specs.Members.{is_member, is_memory_range, is_moment, is_present}
use Rattle.parts_model.specs.declared.limits.TheConstants.{MOST_ASKED}
use Rattle.parts_model.specs.declared.tagged.TaggedByte.{TaggedByte}
use Rattle.query_engine.specs.Asked.{in_file}
use Rattle.followed_pairs.specs.States.{is_held}
use Rattle.query_laws.specs.ForthOfRuns.{ForthIsOfRuns, IsSinkPair}
use Rattle.query_laws.specs.Names.{NamesAreOfRuns}
use Rattle.query_laws.specs.OfRuns.{AnswersRun, QueriesAreOfRuns, whole_points}
use Rattle.query_laws.specs.States.{StatesAreOfRuns}
use Rattle.query_model.specs.Answers.{count_in, event_disagreement, event_groups, moment_of}
use Rattle.query_model.specs.Names.{Named, named_bytes, written_groups}
use Rattle.query_model.specs.Sinks.{forth_pairs}
use Rattle.query_model.specs.States.{process_groups}
use Rattle.query_model.specs.declared.held.Held.{Held}
use Rattle.query_model.specs.declared.held.Part.{Part}
use Rattle.query_model.specs.declared.held.Part.TheVariants as part
use Rattle.generator.specs.Sums.{gen_text, written}
use Rattle.report_texts.specs.Totals.{events_line, group_line, groups_line}
use Rattle.session_questions.specs.Asked.{unless_damaged, unless_refused}
use Rattle.session_questions.specs.Generated.{Write, generated_text, pairs_of, unless_one_refused, writes}
use Rattle.session_questions.specs.OfRuns.{run_back_text, run_bytes_text, run_event_text, run_first_events, run_forth_text, run_generated_text, run_group_text, run_groups_text, run_held_text, run_named_text, run_pairs_of, run_show_text, run_sources_text, run_text, unless_one_long}
use Rattle.session_questions.specs.Short.{ShortRunsHaveNumbers}
use Rattle.session_questions.specs.Texts.{answer_text, back_telling, bytes_answer, event_telling, forth_telling, held_telling, held_text, named_telling, question_text, show_telling, sinks_text, sources_text, written_text}
use Rattle.session_reports.specs.Events.{event_text, event_there, events_text}
use Rattle.session_reports.specs.Files.{file_of}
use Rattle.session_reports.specs.Groups.{group_text, groups_text}
use Rattle.session_reports.specs.Processes.{processes_text}
use Rattle.session_reports.specs.States.{mem_of, regs_of, seen_text}
use Rattle.state_viewer.specs.Views.{made_of}
use Rattle.session_questions.specs.Verify.{VerifiesRuns}
use Rattle.version_laws.specs.OfRuns.{VersionsAreOfRuns}
use Rattle.view_laws.specs.Counts.{CountsAreOfRuns}
use Rattle.view_laws.specs.OfRuns.{ViewsAreOfRuns, ViewsRun}

-- an event that has bytes is there
range-there : (entries : List Record) (n from len : ℕ) → is_range (slice_get entries n) from len ≡ true → n < length entries
range-there [] n from len is = absurd cc
range-there (e ∷ entries) zero from len is = omega arith
range-there (e ∷ entries) (suc n) from len is = omega (arith, range-there entries n from len is)

-- what is printed on either side of a test is the same, if it is where the test holds
if-same : (b : Bool) (x y n : List ℕ) → (b ≡ true → x ≡ y) → (if b then x else n) ≡ (if b then y else n)
if-same true x y n same = same refl
if-same false x y n same = refl

-- of two that hold the first does, and the second
first : (a b : Bool) → (a && b) ≡ true → a ≡ true
first true b is = refl
first false b is = is

second : (a b : Bool) → (a && b) ≡ true → b ≡ true
second true b is = is
second false b is = absurd (cc)

member-lives : (entries : List Record) (moment pid : ℕ) → is_member entries moment pid ≡ true → lives_at entries moment pid ≡ true
member-lives entries moment pid is = second (is_moment entries moment) (lives_at entries moment pid) is

range-member : (entries : List Record) (moment pid at len : ℕ) → is_memory_range entries moment pid at len ≡ true → is_member entries moment pid ≡ true
range-member entries moment pid at len is =
    first (is_member entries moment pid) (nat_le len MOST_ASKED && is_present (is_some (segment_at entries moment pid)) at len) is

-- bytes that are held are those of a process that lives
part-lives : (entries : List Record) (moment pid : ℕ) (p : Part) → is_held entries (record { moment = moment; pid = pid; part = p }) ≡ true → lives_at entries moment pid ≡ true
part-lives entries moment pid (part.Register r) is = member-lives entries moment pid (first (is_member entries moment pid) (nat_lt r 32) is)
part-lives entries moment pid (part.Memory at len) is = member-lives entries moment pid (range-member entries moment pid at len is)

-- the same tests keep the same elements
filter-same : (f g : ℕ → Bool) (xs : List ℕ) → ((x : ℕ) → f x ≡ g x) → filter f xs ≡ filter g xs
filter-same f g [] same = refl
filter-same f g (x ∷ xs) same = ap (λ (b : Bool). if b then x ∷ filter f xs else filter f xs) (same x) ∙ ap (λ (rest : List ℕ). if g x then x ∷ rest else rest) (filter-same f g xs same)

-- and the same lines print the same
flat-same : (f g : ℕ → List ℕ) → ((x : ℕ) → f x ≡ g x) → (xs : List ℕ) → flat_map f xs ≡ flat_map g xs
flat-same f g same [] = refl
flat-same f g same (x ∷ xs) = ap₂ (λ (first rest : List ℕ). first ++ rest) (same x) (flat-same f g same xs)

module _ (numbers : ShortRunsHaveNumbers) (queries : QueriesAreOfRuns) (states : StatesAreOfRuns) (names : NamesAreOfRuns) (sinks : ForthIsOfRuns) (views : ViewsAreOfRuns) (versions : VersionsAreOfRuns) (verified : VerifiesRuns) (own : RecordsAreRun) (counted : CountsAreOfRuns) (inputs : List Input) (short : length (spellings (records inputs)) ≤ MOST_LOG) where
  answers : (linkage : Linkage) → AnswersRun (operands linkage) inputs
  answers linkage = queries (operands linkage) inputs (numbers inputs short)

  pub agrees : (linkage : Linkage) (event : ℕ) → event_disagreement (records inputs) event ≡ None
  agrees linkage event = (answers linkage).agree (moment_of (records inputs) event) (event_groups (records inputs) event)

  of-event : (linkage : Linkage) (event from len : ℕ) → (event_telling (operands linkage) (records inputs) event from len).text ≡ run_sources_text (operands linkage) inputs event from len
  of-event linkage event from len =
      if-same (is_range (event_at (records inputs) event) from len) _ _ (refusal_text NoPoint) (λ is.
      ap (λ (o : Option Disagrees). unless_damaged o (sources_text (operands linkage) (records inputs) event from len)) (agrees linkage event)
      ∙ ap (λ (pairs : List Pair). answer_text pairs (count_in (records inputs) (event_groups (records inputs) event)) (event_groups (records inputs) event))
      ((answers linkage).pairs event from len (range-there (events (records inputs)) event from len is)))

  of-part : (linkage : Linkage) (moment pid : ℕ) (p : Part) → (held_telling (operands linkage) (records inputs) (record { moment = moment; pid = pid; part = p })).text ≡ run_held_text (operands linkage) inputs (record { moment = moment; pid = pid; part = p })
  of-part linkage moment pid p =
      let held : Held = record { moment = moment; pid = pid; part = p } in
      let of-run = states (operands linkage) inputs held (numbers inputs short) in
      if-same (is_held (records inputs) held) _ _ (refusal_text NoPoint) (λ is.
      ap (λ (o : Option Disagrees). unless_damaged o (held_text (operands linkage) (records inputs) held)) of-run.agree
      ∙ ap (λ (pairs : List Pair). answer_text pairs (count_in (records inputs) (process_groups (records inputs) pid)) (process_groups (records inputs) pid))
      (of-run.pairs (part-lives (records inputs) moment pid p is)))

  of-bytes : (linkage : Linkage) (n : Named) (o : Option (List TaggedByte)) → named_bytes (records inputs) n ≡ o → bytes_answer (operands linkage) (records inputs) n.moment o ≡ run_bytes_text (operands linkage) inputs n o
  of-bytes linkage n None is = refl
  of-bytes linkage n (Some bytes) is =
      let of-run = names (operands linkage) inputs n (numbers inputs short) in
      ap (λ (o : Option Disagrees). unless_damaged o (written_text (operands linkage) (records inputs) n.moment bytes)) (of-run.agree bytes)
      ∙ ap (λ (pairs : List Pair). answer_text pairs (count_in (records inputs) (written_groups (records inputs) bytes)) (written_groups (records inputs) bytes)) (of-run.pairs bytes is)

  of-named : (linkage : Linkage) (n : Named) → (named_telling (operands linkage) (records inputs) n).text ≡ run_named_text (operands linkage) inputs n
  of-named linkage n =
      of-bytes linkage n (named_bytes (records inputs) n) refl ∙ ap (run_bytes_text (operands linkage) inputs n) (names (operands linkage) inputs n (numbers inputs short)).bytes

  of-back : (linkage : Linkage) (s : Sought) → (back_telling (records inputs) linkage s).text ≡ run_back_text inputs linkage s
  of-back linkage (sought.Event event from len) = of-event linkage event from len
  of-back linkage (sought.Memory moment pid at len) = of-part linkage moment pid (part.Memory at len)
  of-back linkage (sought.Register moment pid register) = of-part linkage moment pid (part.Register register)
  of-back linkage (sought.Name moment name from len) = of-named linkage (in_file moment name from len)

  of-forth : (linkage : Linkage) (event from len : ℕ) → (forth_telling (operands linkage) (records inputs) event from len).text ≡ run_forth_text (operands linkage) inputs event from len
  of-forth linkage event from len =
      if-same (is_range (event_at (records inputs) event) from len) _ _ (refusal_text NoPoint) (λ is.
      ap (λ (o : Option Disagrees). unless_damaged o (sinks_text (operands linkage) (records inputs) event from len)) (sinks (operands linkage) inputs event from len (numbers inputs short)).agree)

  seen-by : (moment pid : ℕ) → ViewsRun inputs moment pid
  seen-by moment pid = views inputs moment pid (numbers inputs short)

  shown : (line : Option View → List ℕ) (moment pid : ℕ) → is_member (records inputs) moment pid ≡ true
      → seen_text line pid (made_of (records inputs) moment pid) ≡ line (seen (state_at inputs moment).bodies pid)
  shown line moment pid is = ap (λ (made : Made). seen_text line pid made) (seen-by moment pid).agrees ∙ ap line ((seen-by moment pid).sees is)

  of-show : (moment : ℕ) (a : Aspect) → (show_telling (records inputs) moment a).text ≡ run_show_text inputs moment a
  of-show moment (aspect.Registers pid) = if-same (is_member (records inputs) moment pid) _ _ (refusal_text NoPoint) (shown regs_of moment pid)
  of-show moment (aspect.Memory pid at len) =
      if-same (is_memory_range (records inputs) moment pid at len) _ _ (refusal_text NoPoint) (λ is.
      shown (mem_of at len) moment pid (range-member (records inputs) moment pid at len is))
  of-show moment (aspect.File name) =
      if-same (is_moment (records inputs) moment) _ _ (refusal_text NoPoint) (λ is.
      ap (λ (held : Option (List TaggedByte)). file_of held) (versions inputs moment name (numbers inputs short)).version)
  of-show moment aspect.Processes =
      if-same (is_moment (records inputs) moment) _ _ (refusal_text NoPoint) (λ is.
      ap (processes_text (records inputs)) (filter-same (lives_at (records inputs) moment) (lives (state_at inputs moment).kernel) (processes_in (records inputs)) (λ pid. (seen-by moment pid).lives)))

  of-groups : groups_text (records inputs) ≡ run_groups_text inputs
  of-groups =
      ap (λ (lines : List ℕ). lines ++ groups_line (length (groups_in (records inputs))))
      (flat-same (group_text (records inputs)) (run_group_text inputs)
      (λ group. ap (group_line group (length (members_of (records inputs) group))) ((counted inputs (numbers inputs short)).counts group))
      (groups_in (records inputs)))

  of-events : events_text (records inputs) ≡ run_first_events inputs (machine_after inputs).events
  of-events =
      let run = counted inputs (numbers inputs short) in
      ap (λ (lines : List ℕ). lines ++ events_line (how_many (records inputs)))
      (flat-same (event_text (records inputs)) (run_event_text inputs) (λ n. ap₂ (event_there n) (run.moments n) (run.entries n)) (range_with_len 0 (how_many (records inputs))))
      ∙ ap (run_first_events inputs) run.events

  pub of-runs : (q : Question) → question_text (records inputs) q ≡ run_text inputs q
  of-runs (question.Show moment a) = of-show moment a
  of-runs (question.Back linkage bytes) = of-back linkage bytes
  of-runs (question.Forth linkage event from len) = of-forth linkage event from len
  of-runs question.Groups = of-groups
  of-runs question.Events = of-events
  of-runs question.Verify = (verified (records inputs)).1 (own inputs)

  pub sunk : (linkage : Linkage) (event from len : ℕ) (pair : Pair)
      → Contains (forth_pairs (operands linkage) (records inputs) event from len) pair ↔ IsSinkPair (records inputs) (whole_points (operands linkage) inputs) event from len pair
  sunk linkage event from len = (sinks (operands linkage) inputs event from len (numbers inputs short)).pairs

  -- a write that may be asked for
  IsAsked : Write → Type 0
  IsAsked w = is_range (event_at (records inputs) w.event) 0 w.len ≡ true

  of-write : (w : Write) (x y : List ℕ) → (IsAsked w → x ≡ y)
      → unless_refused (records inputs) w.event 0 w.len x ≡ (if is_range (event_at (records inputs) w.event) 0 w.len then y else refusal_text NoPoint)
  unfolding IsAsked
  of-write w x y same =
      if-same (is_range (event_at (records inputs) w.event) 0 w.len) _ _ (refusal_text NoPoint) (λ is.
      ap (λ (o : Option Disagrees). unless_damaged o x) (agrees Data w.event) ∙ same is)

  of-writes : (asked : List Write) (x y : List ℕ) → (All IsAsked asked → x ≡ y) → unless_one_refused (records inputs) asked x ≡ unless_one_long (records inputs) asked y
  of-writes [] x y same = same (All-nil IsAsked)
  of-writes (w ∷ more) x y same = of-write w _ _ (λ is. of-writes more x y (λ all. same (All-cons IsAsked w more is all)))

  same-pairs : (w : Write) → IsAsked w → pairs_of (records inputs) w ≡ run_pairs_of inputs w
  unfolding IsAsked
  same-pairs w is = ap (λ (pairs : List Pair). length pairs) ((answers Data).pairs w.event 0 w.len (range-there (events (records inputs)) w.event 0 w.len is))

  same-sums : (asked : List Write) → All IsAsked asked → sum_by (pairs_of (records inputs)) asked ≡ sum_by (run_pairs_of inputs) asked
  same-sums [] all = refl
  same-sums (w ∷ more) all =
      let here = same-pairs w (All-head IsAsked w more all) in
      let behind = same-sums more (All-tail IsAsked w more all) in
      omega (arith, here, behind, sum_by-cons (pairs_of (records inputs)) w more, sum_by-cons (run_pairs_of inputs) w more)

  pub of-generator : (processes : ℕ) → generated_text (records inputs) processes ≡ run_generated_text inputs processes
  of-generator processes =
      of-writes (writes (records inputs)) _ _ (λ all. ap (gen_text processes (sum (written (records inputs)))) (same-sums (writes (records inputs)) all))
