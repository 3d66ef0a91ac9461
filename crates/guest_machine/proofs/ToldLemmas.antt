-- A turn by what a record tells of its call is the turn by the reply that the record names.
use Rattle.std.proofs.Common.{◌≡◌, ℕ, ◌≤◌, ◌-◌, ◌^◌, Bool, true, false, cond, min, nat_lt, List, length, take, Option, None, Some, option_map, refl, ap, ◌∙◌, arith}
use Rattle.std.proofs.lemmas.List.{take_min}
use Rattle.arn_base.specs.declared.records.Extra.TheVariants as extra
use Rattle.parts_model.specs.declared.limits.TheConstants.{MOST_TRANSFER}
use Rattle.parts_model.specs.Replies.{Answered, GaveBytes, TookBytes, Failed, IsAbsent, IsHere, to_write}
use Rattle.rv64_model.specs.Instruction.{Effect, Next, Call, End}
use Rattle.acts_model.specs.Bodies.{View, seen}
use Rattle.acts_model.specs.Views.{read, stands_at}
use Rattle.arn_model.specs.ChannelCalls.{device_opened}
use Rattle.arn_model.specs.Doing.{Doing, Question, Here, Reads, Writes, Request, Waits, Does, Asks}
use Rattle.arn_model.specs.Kernel.{Machine}
use Rattle.arn_model.specs.Laws.{FewBytes, RequestsAreBounded}
use Rattle.arn_model.specs.Row.{answered, does, request}
use Rattle.arn_model.specs.Step.{Step, call_step, last_by}
use Rattle.arn_model.specs.TransferCalls.{device_read, device_write, giving}
use Rattle.arn_model.specs.Turn.{after_steps, last_in, plains, turn}
use Rattle.guest_devices.specs.Answers.{Asked}
use Rattle.guest_devices.specs.Told.{CountsHere, CountsReads, as_written, told_answer}
use Rattle.guest_calls.specs.Steps.{RepliesTo, asked_of}
use Rattle.guest_machine.specs.Slices.{RepliesAt, RepliesIf, RepliesIn, RepliesOf, delivered}

-- a count of taken bytes, cut by what one answer can count
write-told : (m : Machine) (device at len : ℕ) (bytes : List ℕ) (reply : Option Answered) → len ≤ MOST_TRANSFER
    → device_write m device at bytes (to_write len (Some (as_written (to_write (min (length bytes) (2 ^ 32 - 1)) reply)))) ≡ device_write m device at bytes (to_write len reply)
write-told m device at len bytes None few = refl
write-told m device at len bytes (Some (GaveBytes gave)) few = refl
write-told m device at len bytes (Some (TookBytes n)) few =
    let same : min (min n (min (length bytes) (2 ^ 32 - 1))) len ≡ min (min n len) (length bytes) = omega (arith, few) in
    ap (λ (x : List ℕ). giving at x (extra.Sent device x) None m.kernel) (ap (λ (i : ℕ). take i bytes) same ∙ take_min (min n len) bytes)
write-told m device at len bytes (Some Failed) few = refl
write-told m device at len bytes (Some IsAbsent) few = refl
write-told m device at len bytes (Some IsHere) few = refl

answered-told : CountsHere → CountsReads → (m : Machine) (pid : ℕ) (v : View) (question : Question) (reply : Option Answered) → FewBytes question → answered m pid v question (Some (told_answer reply (asked_of v question))) ≡ answered m pid v question reply
unfolding answered
answered-told here reads m pid v (Here device) reply few = ap (device_opened m pid device) (here reply device)
answered-told here reads m pid v (Reads device at len) reply few = ap (device_read m device at) (reads reply device len (omega (arith, few)))
answered-told here reads m pid v (Writes device at len) reply few = write-told m device at len (read v at len) reply few

-- answers by what a record tells
abbrev pub Tells : {A : Type 0} → Option Answered → (A → Asked → Answered → A → Type 0) → A → Type 0
Tells {A} reply answers old = (new : A) (question : Asked) (answer : Answered) → answers old question answer new → answer ≡ told_answer reply question

does-told : CountsHere → CountsReads → {A : Type 0} (answers : A → Asked → Answered → A → Type 0) (reply : Option Answered) (old : A) → Tells reply answers old → (m : Machine) (pid : ℕ) (v : View) (r : Request) (got : Option Answered) (new : A) → ((question : Question) → r ≡ Asks question → FewBytes question) → RepliesTo answers v r got old new → does m pid v got r ≡ does m pid v reply r
does-told here reads answers reply old tells m pid v Waits got new small replied = refl
does-told here reads answers reply old tells m pid v (Does d) got new small replied = refl
does-told here reads answers reply old tells m pid v (Asks question) None new small replied = absurd replied
does-told here reads answers reply old tells m pid v (Asks question) (Some answer) new small replied =
    ap (λ (x : Answered). Some (answered m pid v question (Some x))) (tells new (asked_of v question) answer replied)
    ∙ ap (λ (d : Doing). Some d) (answered-told here reads m pid v question reply (small question refl))

last_by-told : RequestsAreBounded → CountsHere → CountsReads → {A : Type 0} (answers : A → Asked → Answered → A → Type 0) (reply : Option Answered) (old : A) → Tells reply answers old → (m : Machine) (pid : ℕ) (v : View) (e : Effect) (got : Option Answered) (new : A) → RepliesAt answers m pid v e got old new → last_by m pid v got e ≡ last_by m pid v reply e
last_by-told bounded here reads answers reply old tells m pid v (Next instr cpu memory) got new replied = refl
last_by-told bounded here reads answers reply old tells m pid v Call got new replied =
    ap (option_map (call_step m pid v)) (does-told here reads answers reply old tells m pid v (request m pid v) got new (bounded m pid v).small_question replied)
last_by-told bounded here reads answers reply old tells m pid v (End status) got new replied = refl

last_in-told : RequestsAreBounded → CountsHere → CountsReads → {A : Type 0} (answers : A → Asked → Answered → A → Type 0) (reply : Option Answered) (old : A) → Tells reply answers old → (m : Machine) (pid : ℕ) (o : Option View) (got : Option Answered) (new : A) → RepliesOf answers m pid o got old new → last_in m pid got o ≡ last_in m pid reply o
last_in-told bounded here reads answers reply old tells m pid None got new replied = refl
last_in-told bounded here reads answers reply old tells m pid (Some v) got new replied = last_by-told bounded here reads answers reply old tells m pid v (stands_at v) got new replied

if-told : RequestsAreBounded → CountsHere → CountsReads → {A : Type 0} (answers : A → Asked → Answered → A → Type 0) (reply : Option Answered) (old : A) → Tells reply answers old → (m : Machine) (pid : ℕ) (b : Bool) (got : Option Answered) (new : A) → RepliesIf b answers m pid got old new → cond b (last_in m pid got (seen m.bodies pid)) None ≡ cond b (last_in m pid reply (seen m.bodies pid)) None
if-told bounded here reads answers reply old tells m pid true got new replied = last_in-told bounded here reads answers reply old tells m pid (seen m.bodies pid) got new replied
if-told bounded here reads answers reply old tells m pid false got new replied = refl

pub turn-told : RequestsAreBounded → CountsHere → CountsReads → {A : Type 0} (answers : A → Asked → Answered → A → Type 0) (reply : Option Answered) (old : A) → Tells reply answers old → (m : Machine) (pid count : ℕ) (got : Option Answered) (new : A) → RepliesIn answers count pid m got old new → turn count pid got m ≡ turn count pid reply m
turn-told bounded here reads answers reply old tells m pid count got new replied =
    let m1 = delivered pid m in
    let plain = plains count pid m1 in
    ap (λ (last : Option Step). record (turn count pid got m) { last = last }) (if-told bounded here reads answers reply old tells (after_steps m1 plain) pid (nat_lt (length plain) count) got new replied)
