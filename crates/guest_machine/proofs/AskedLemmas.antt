-- What a slice asks is answered, and the record of its call holds the answer.
use Rattle.std.proofs.Common.{◌≡◌, ℕ, ◌≤◌, ◌++◌, Bool, true, false, cond, min, nat_lt, List, [], ◌∷◌, length, map, take, Option, None, Some, option_map, option_to_list, unwrap_or, refl, sym, ap, subst, ◌∙◌, arith, append-nil, length-take}
use Rattle.std.proofs.lemmas.Bool.{cond-true}
use Rattle.std.proofs.lemmas.List.{take_min}
use Rattle.std.proofs.lemmas.List.Concat.{flat_map-append}
use Rattle.std.proofs.lemmas.List.Elements.{filter_map-append}
use Rattle.arn_base.specs.Window.{Window, bytes_at, is_whole_in, window_bytes}
use Rattle.arn_base.specs.declared.records.Extra.{Extra}
use Rattle.arn_base.specs.declared.records.Extra.TheVariants as extra
use Rattle.arn_base.specs.declared.records.Record.{Record}
use Rattle.rv64_model.specs.Instruction.{Effect, Next, Call, End}
use Rattle.parts_model.specs.Replies as replies
use Rattle.parts_model.specs.Replies.{Answered, GaveBytes, TookBytes, Failed, IsAbsent, IsHere, ReadReply, ReadFails, ReadAbsent, to_read, to_write}
use Rattle.acts_model.specs.Bodies.{View, seen}
use Rattle.acts_model.specs.Views.{reach, read, stands_at}
use Rattle.arn_model.specs.Doing.{Question, Here, Reads, Writes, Request, Waits, Does, Asks}
use Rattle.arn_model.specs.Kernel.{Machine}
use Rattle.arn_model.specs.Parts.{Calls, Ends, MaybeDelivery, MaybeLast, TurnsHaveParts}
use Rattle.arn_model.specs.Row.{answered, does, request}
use Rattle.arn_model.specs.Run.{Input, Slice, input_steps}
use Rattle.arn_model.specs.Step.{Step, call_step, last_by}
use Rattle.arn_model.specs.TransferCalls.{device_read, device_write}
use Rattle.arn_model.specs.Turn.{after_steps, is_possible, last_in, plains, steps_of, turn}
use Rattle.history_model.specs.Unplugged.{unplugged_by, unplugged_in}
use Rattle.log_model.specs.Records.{event_records, input_records, records_from, slice_records}
use Rattle.guest_devices.specs.Answers.{Asked}
use Rattle.guest_legs.specs.Legs.{Ask, Going, IsInRange, Picked, asks_by, going_after, input_of}
use Rattle.guest_calls.specs.Steps.{RepliesTo, asked_of}
use Rattle.guest_machine.specs.Asked.{AreOfAnswer, HoldNoAnswer, HoldsNoAnswer, answer_extra, asked_at, asked_by, asked_from, asked_in, entries_of, extra_by, extras_in, read_extra, slice_asks, slice_entries, write_extra}
use Rattle.guest_machine.specs.Slices.{AsksNothing, Begun, IsPart, RepliesAt, RepliesIf, RepliesIn, RepliesOf, Unbegun, delivered}
use Rattle.guest_machine.proofs.Appends.{event_records-append}
use Rattle.guest_machine.proofs.TurnParts.{plain-records}
use Rattle.guest_machine.proofs.UnaskedCalls.{Unasked, request-Unasked}

-- what may be asked was answered
abbrev pub Replied : {A : Type 0} → (A → Asked → Answered → A → Type 0) → Option Asked → Option Answered → A → A → Type 0
Replied answers None reply old new = AsksNothing reply old new
Replied answers (Some asked) None old new = ⊥
Replied answers (Some asked) (Some answer) old new = answers old asked answer new

-- no more bytes than were asked for
bytes-few : (windows : List Window) (at len : ℕ) → length (unwrap_or (bytes_at windows at len) []) ≤ len
bytes-few [] at len = omega arith
bytes-few (window ∷ windows) at len = by (is_whole_in window at len) (bytes-few windows at len)
  where
    by : (b : Bool) → length (unwrap_or (bytes_at windows at len) []) ≤ len → length (unwrap_or (cond b (Some (window_bytes window at len)) (bytes_at windows at len)) []) ≤ len
    by true few = omega (arith, length-take {A = ℕ})
    by false few = few

-- what a device took of them
took-cut : (count len : ℕ) (bytes : List ℕ) → length bytes ≤ len → take (min count len) bytes ≡ take count bytes
took-cut count len bytes few =
    let same : min (min count len) (length bytes) ≡ min count (length bytes) = omega (arith, few) in
    sym (take_min (min count len) bytes) ∙ ap (λ (n : ℕ). take n bytes) same ∙ take_min count bytes

read-holds : (m : Machine) (device at : ℕ) (r : ReadReply) → (device_read m device at r).extra ≡ read_extra device r
read-holds m device at (replies.Reads bytes) = refl
read-holds m device at ReadFails = refl
read-holds m device at ReadAbsent = refl

write-holds : (m : Machine) (device at len : ℕ) (bytes : List ℕ) (answer : Answered) → length bytes ≤ len → (device_write m device at bytes (to_write len (Some answer))).extra ≡ write_extra device bytes answer
write-holds m device at len bytes (GaveBytes gave) few = refl
write-holds m device at len bytes (TookBytes count) few = ap (λ (taken : List ℕ). extra.Sent device taken) (took-cut count len bytes few)
write-holds m device at len bytes Failed few = refl
write-holds m device at len bytes IsAbsent few = refl
write-holds m device at len bytes IsHere few = refl

-- what a call does by an answer holds it
answered-holds : (m : Machine) (pid : ℕ) (v : View) (question : Question) (answer : Answered) → (answered m pid v question (Some answer)).extra ≡ answer_extra (asked_of v question) answer
unfolding answered
answered-holds m pid v (Here device) (GaveBytes gave) = refl
answered-holds m pid v (Here device) (TookBytes count) = refl
answered-holds m pid v (Here device) Failed = refl
answered-holds m pid v (Here device) IsAbsent = refl
answered-holds m pid v (Here device) IsHere = refl
answered-holds m pid v (Reads device at len) answer = read-holds m device at (to_read len (Some answer))
answered-holds m pid v (Writes device at len) answer = write-holds m device at len (read v at len) answer (bytes-few (reach v) at len)

-- what the record of a last step holds, if there is one
abbrev last_extras : Option Step → List Extra
last_extras last = extras_in (event_records (option_to_list last))

module _ {A : Type 0} (answers : A → Asked → Answered → A → Type 0) (reply : Option Answered) (old new : A) where
  to-replied : (v : View) (r : Request) → RepliesTo answers v r reply old new → Replied answers (asked_by v r) reply old new
  to-replied v Waits h = h
  to-replied v (Does d) h = h
  to-replied v (Asks question) h = by reply h
    where
      by : (reply : Option Answered) → RepliesTo answers v (Asks question) reply old new → Replied answers (asked_by v (Asks question)) reply old new
      by None h = h
      by (Some answer) h = h

  at-replied : (m : Machine) (pid : ℕ) (v : View) (e : Effect) → RepliesAt answers m pid v e reply old new → Replied answers (asked_at m pid v e) reply old new
  at-replied m pid v (Next instr cpu memory) h = h
  at-replied m pid v Call h = to-replied v (request m pid v) h
  at-replied m pid v (End status) h = h

  from-replied : (m : Machine) (pid : ℕ) (o : Option View) → RepliesOf answers m pid o reply old new → Replied answers (asked_from m pid o) reply old new
  from-replied m pid None h = h
  from-replied m pid (Some v) h = at-replied m pid v (stands_at v) h

  if-replied : (b : Bool) (m : Machine) (pid : ℕ) → RepliesIf b answers m pid reply old new → Replied answers (cond b (asked_from m pid (seen m.bodies pid)) None) reply old new
  if-replied false m pid h = h
  if-replied true m pid h = from-replied m pid (seen m.bodies pid) h

  pub in-replied : (count pid : ℕ) (m : Machine) → RepliesIn answers count pid m reply old new → Replied answers (asked_in count pid m) reply old new
  in-replied count pid m h =
      let plain = plains count pid (delivered pid m) in
      if-replied (nat_lt (length plain) count) (after_steps (delivered pid m) plain) pid h

  -- the record of a call
  to-holds : (m : Machine) (pid : ℕ) (v : View) (r : Request) → Unasked m r → RepliesTo answers v r reply old new → AreOfAnswer (asked_by v r) reply (last_extras (option_map (call_step m pid v) (does m pid v reply r)))
  unfolding Unasked
  to-holds m pid v Waits unasked h = tt
  to-holds m pid v (Does d) unasked h = (unasked, tt)
  to-holds m pid v (Asks question) unasked h = by reply h
    where
      by : (reply : Option Answered) → RepliesTo answers v (Asks question) reply old new → AreOfAnswer (asked_by v (Asks question)) reply (last_extras (option_map (call_step m pid v) (does m pid v reply (Asks question))))
      by None h = h
      by (Some answer) h = ap (λ (more : Extra). more ∷ []) (answered-holds m pid v question answer)

  at-holds : (m : Machine) (pid : ℕ) (v : View) (e : Effect) → RepliesAt answers m pid v e reply old new → AreOfAnswer (asked_at m pid v e) reply (last_extras (last_by m pid v reply e))
  at-holds m pid v (Next instr cpu memory) h = tt
  at-holds m pid v Call h = to-holds m pid v (request m pid v) (request-Unasked m pid v) h
  at-holds m pid v (End status) h = tt

  from-holds : (m : Machine) (pid : ℕ) (o : Option View) → RepliesOf answers m pid o reply old new → AreOfAnswer (asked_from m pid o) reply (last_extras (last_in m pid reply o))
  from-holds m pid None h = tt
  from-holds m pid (Some v) h = at-holds m pid v (stands_at v) h

  if-holds : (b : Bool) (m : Machine) (pid : ℕ) → RepliesIf b answers m pid reply old new → AreOfAnswer (cond b (asked_from m pid (seen m.bodies pid)) None) reply (last_extras (cond b (last_in m pid reply (seen m.bodies pid)) None))
  if-holds false m pid h = tt
  if-holds true m pid h = from-holds m pid (seen m.bodies pid) h

  turn-holds : (count pid : ℕ) (m : Machine) → RepliesIn answers count pid m reply old new → AreOfAnswer (asked_in count pid m) reply (last_extras (turn count pid reply m).last)
  turn-holds count pid m h =
      let plain = plains count pid (delivered pid m) in
      if-holds (nat_lt (length plain) count) (after_steps (delivered pid m) plain) pid h

-- a delivery holds nothing
delivery-extras : (o : Option Step) → MaybeDelivery o → last_extras o ≡ []
delivery-extras None is = refl
delivery-extras (Some s) is = rw is.event refl

-- what the records of a turn hold
turn-extras : TurnsHaveParts → (count pid : ℕ) (reply : Option Answered) (m : Machine) → let t = turn count pid reply m in extras_in (event_records (steps_of t)) ≡ last_extras t.last
turn-extras parts count pid reply m =
    let t = turn count pid reply m in
    let is = parts count pid reply m in
    let first = option_to_list t.delivery in
    let last = option_to_list t.last in
    ap extras_in (event_records-append first (t.plain ++ last) ∙ ap (λ (xs : List Record). event_records first ++ xs) (plain-records t.plain last is.plain))
    ∙ flat_map-append extra_by (event_records first) (event_records last)
    ∙ ap (λ (xs : List Extra). xs ++ last_extras t.last) (delivery-extras t.delivery is.delivery)

slice-extras : (pid : ℕ) (steps : List Step) → extras_in (slice_records pid steps) ≡ extras_in (event_records steps)
slice-extras pid [] = refl
slice-extras pid (s ∷ steps) = refl

-- a slice that may run is the turn of its process
possible-steps : (ask : Ask) (s : Picked) → IsInRange ask s.pick → input_steps ask.machine (input_of s) ≡ steps_of (turn s.pick.count s.pick.pid s.reply ask.machine)
possible-steps ask s range =
    cond-true (is_possible ask.machine s.pick.pid s.pick.count) (steps_of (turn s.pick.count s.pick.pid s.reply ask.machine)) [] range.possible

-- the records of a slice hold what was answered
pub slice-holds : TurnsHaveParts → {A : Type 0} (answers : A → Asked → Answered → A → Type 0) (ask : Ask) (s : Picked) (old new : A) → IsInRange ask s.pick → RepliesIn answers s.pick.count s.pick.pid ask.machine s.reply old new → AreOfAnswer (slice_asks ask s) s.reply (extras_in (slice_entries ask s))
slice-holds parts answers ask s old new range h =
    let pid = s.pick.pid in
    let steps = steps_of (turn s.pick.count pid s.reply ask.machine) in
    let same : extras_in (slice_entries ask s) ≡ last_extras (turn s.pick.count pid s.reply ask.machine).last =
    ap (λ (steps : List Step). extras_in (slice_records pid steps)) (possible-steps ask s range)
    ∙ slice-extras pid steps
    ∙ turn-extras parts s.pick.count pid s.reply ask.machine in
    subst (λ (extras : List Extra). AreOfAnswer (slice_asks ask s) s.reply extras) (sym same) (turn-holds answers s.reply old new s.pick.count pid ask.machine h)

-- and say of no device that it was unplugged
delivery-unplugs : (o : Option Step) → MaybeDelivery o → unplugged_in (event_records (option_to_list o)) ≡ []
delivery-unplugs None is = refl
delivery-unplugs (Some s) is = rw is.event refl

last-unplugs : (o : Option Step) → MaybeLast o → unplugged_in (event_records (option_to_list o)) ≡ []
last-unplugs None is = refl
last-unplugs (Some s) (Calls number pid call result more e one) = rw e refl
last-unplugs (Some s) (Ends number pid status e one) = rw e refl

turn-unplugs : TurnsHaveParts → (count pid : ℕ) (reply : Option Answered) (m : Machine) → unplugged_in (event_records (steps_of (turn count pid reply m))) ≡ []
turn-unplugs parts count pid reply m =
    let t = turn count pid reply m in
    let is = parts count pid reply m in
    let first = option_to_list t.delivery in
    let last = option_to_list t.last in
    ap unplugged_in (event_records-append first (t.plain ++ last) ∙ ap (λ (xs : List Record). event_records first ++ xs) (plain-records t.plain last is.plain))
    ∙ filter_map-append unplugged_by (event_records first) (event_records last)
    ∙ ap (λ (xs : List ℕ). xs ++ unplugged_in (event_records last)) (delivery-unplugs t.delivery is.delivery)
    ∙ last-unplugs t.last is.last

slice_records-unplugs : (pid : ℕ) (steps : List Step) → unplugged_in (slice_records pid steps) ≡ unplugged_in (event_records steps)
slice_records-unplugs pid [] = refl
slice_records-unplugs pid (s ∷ steps) = refl

pub slice-unplugs : TurnsHaveParts → (ask : Ask) (s : Picked) → IsInRange ask s.pick → unplugged_in (slice_entries ask s) ≡ []
slice-unplugs parts ask s range =
    ap (λ (steps : List Step). unplugged_in (slice_records s.pick.pid steps)) (possible-steps ask s range)
    ∙ slice_records-unplugs s.pick.pid (steps_of (turn s.pick.count s.pick.pid s.reply ask.machine))
    ∙ turn-unplugs parts s.pick.count s.pick.pid s.reply ask.machine

-- a call that is answered by nothing
answered-none : (m : Machine) (pid : ℕ) (v : View) (question : Question) → HoldsNoAnswer (answered m pid v question None).extra
unfolding answered
answered-none m pid v (Here device) = tt
answered-none m pid v (Reads device at len) = tt
answered-none m pid v (Writes device at len) = tt

to-none : (m : Machine) (pid : ℕ) (v : View) (r : Request) → Unasked m r → HoldNoAnswer (last_extras (option_map (call_step m pid v) (does m pid v None r)))
unfolding Unasked
to-none m pid v Waits unasked = tt
to-none m pid v (Does d) unasked = (unasked, tt)
to-none m pid v (Asks question) unasked = (answered-none m pid v question, tt)

by-none : (m : Machine) (pid : ℕ) (v : View) (e : Effect) → HoldNoAnswer (last_extras (last_by m pid v None e))
by-none m pid v (Next instr cpu memory) = tt
by-none m pid v Call = to-none m pid v (request m pid v) (request-Unasked m pid v)
by-none m pid v (End status) = tt

in-none : (m : Machine) (pid : ℕ) (o : Option View) → HoldNoAnswer (last_extras (last_in m pid None o))
in-none m pid None = tt
in-none m pid (Some v) = by-none m pid v (stands_at v)

if-none : (b : Bool) (m : Machine) (pid : ℕ) → HoldNoAnswer (last_extras (cond b (last_in m pid None (seen m.bodies pid)) None))
if-none false m pid = tt
if-none true m pid = in-none m pid (seen m.bodies pid)

turn-none : TurnsHaveParts → (count pid : ℕ) (m : Machine) → HoldNoAnswer (extras_in (event_records (steps_of (turn count pid None m))))
turn-none parts count pid m =
    let plain = plains count pid (delivered pid m) in
    subst HoldNoAnswer (sym (turn-extras parts count pid None m)) (if-none (nat_lt (length plain) count) (after_steps (delivered pid m) plain) pid)

-- the records of a part of a slice, which asks nothing
part-records : TurnsHaveParts → (b : Bool) (m : Machine) (pid ran : ℕ) → let entries = slice_records pid (cond b (steps_of (turn ran pid None m)) []) in HoldNoAnswer (extras_in entries) × (unplugged_in entries ≡ [])
part-records parts false m pid ran = (tt, refl)
part-records parts true m pid ran =
    let steps = steps_of (turn ran pid None m) in (
      subst HoldNoAnswer (sym (slice-extras pid steps)) (turn-none parts ran pid m),
      slice_records-unplugs pid steps ∙ turn-unplugs parts ran pid None m,
    )

pub part-holds : TurnsHaveParts → (m : Machine) (pid count : ℕ) (inputs : List Input) → IsPart pid count inputs → HoldNoAnswer (extras_in (records_from m inputs)) × (unplugged_in (records_from m inputs) ≡ [])
part-holds parts m pid count inputs Unbegun = (tt, refl)
part-holds parts m pid count inputs (Begun ran less) =
    let one = part-records parts (is_possible m pid ran) m pid ran in
    let all = append-nil (input_records (Slice pid ran None) (input_steps m (Slice pid ran None))) in
    (subst (λ (entries : List Record). HoldNoAnswer (extras_in entries)) (sym all) one.0, ap unplugged_in all ∙ one.1)

-- the records of a leg's slices
pub leg-entries : (g : Going) (slices : List Picked) → entries_of (asks_by g slices) slices ≡ records_from g.machine (map input_of slices)
leg-entries g [] = refl
leg-entries g (s ∷ slices) = ap (λ (entries : List Record). slice_entries (record { machine = g.machine; left = g.left }) s ++ entries) (leg-entries (going_after g s) slices)
