-- What each step of a turn tells, and how steps follow one another.
use Rattle.std.proofs.Common.{◌≡◌, ℕ, zero, suc, ◌≤◌, ◌<◌, ◌+◌, ◌||◌, List, [], ◌∷◌, ◌++◌, length, take, map, filter_map, refl, ap, ◌∙◌, sym, subst, Option, Some, None, IfSome, is_some, option_map, option_and_then, Bool, true, false, cond, nat_lt, arith, ltb-false, leb-true, leb-false}
use Rattle.std.proofs.lemmas.Bool.Decides.{nat_tests}
use Rattle.std.specs.List.{cons_option}
use Rattle.std.proofs.lemmas.List.Sums.{sum_by-cons}
use Rattle.std.proofs.lemmas.Option.{slice_get_past}
use Rattle.arn_base.specs.declared.machine.Cpu.{Cpu}
use Rattle.arn_base.specs.declared.records.Extra.{Extra}
use Rattle.arn_base.specs.declared.records.Record.{Record}
use Rattle.arn_base.specs.declared.records.Record.TheVariants as entry
use Rattle.arn_base.specs.Window.{Window}
use Rattle.rv64_isa.specs.declared.instruction.Instr.{Instr}
use Rattle.rv64_model.specs.Instruction.{Effect, Next, Call, End}
use Rattle.parts_model.specs.Processes as table
use Rattle.parts_model.specs.Processes.{Process, Processes, next_process}
use Rattle.parts_model.specs.Replies.{Answered}
use Rattle.parts_model.specs.Tagged.{given}
use Rattle.acts_model.specs.Acts as act
use Rattle.acts_model.specs.Acts.{Act, result_of}
use Rattle.acts_model.specs.Bodies.{Bodies, View, view, body_at, seen}
use Rattle.acts_model.specs.Moved.{Event, is_plain, is_call_or_end, is_instruction}
use Rattle.acts_model.specs.Records.{process_of}
use Rattle.acts_model.specs.Transfers.{Holds, transfer, holds_of}
use Rattle.acts_model.specs.Views.{stands_at, call_number}
use Rattle.arn_model.specs.Doing.{Doing}
use Rattle.arn_model.specs.Kernel.{Kernel, Machine}
use Rattle.arn_model.specs.Laws.{KeepsNumbers}
use Rattle.arn_model.specs.Row.{request, does}
use Rattle.arn_model.specs.Run.{instructions_in, within, unless_reached}
use Rattle.arn_model.specs.Sound.{IsSoundMachine}
use Rattle.arn_model.specs.Step.{Step, plain_step, event_step, plain_by, last_by, delivery_of, due_signal, call_step, handler, waits}
use Rattle.arn_model.specs.Tells.{lives, StepTells, Runs, Happens, Boots, Adds, Types, Unplugs, EventTells, ForksRightly, extra_in, is_inner, Along}
use Rattle.arn_model.specs.Turn.{plains, plain_in, steps_then, delivery_in, after_steps, last_of, last_in}
use Rattle.history_model.specs.Alone.{Own, Makes, begins_by, Standing, after_record, after_signal, after_last}
use Rattle.history_model.specs.Groups.{Groups, groups_told, groups_from}
use Rattle.log_model.specs.Records.{event_records}
use Rattle.replay_laws.proofs.Owned.{changed-other, Owner}
use Rattle.replay_laws.proofs.Agrees.{Joint}
use Rattle.replay_laws.proofs.Told.{groups_after, event-tale}

-- all that is known of a step
pub record Known (m : Machine) (s : Step) : Type 0 where
  pub tells : StepTells m s
  pub sound : IsSoundMachine m
  pub numbers : KeepsNumbers m s

pub along-known : (m : Machine) (steps : List Step) → Along StepTells m steps → Along (λ m s. IsSoundMachine m) m steps → Along KeepsNumbers m steps → Along Known m steps
along-known m [] t s n = tt
along-known m (x ∷ steps) t s n = (record { tells = t.0; sound = s.0; numbers = n.0 }, along-known x.after steps t.1 s.1 n.1)

pub along-first : (P : Machine → Step → Type 0) (m : Machine) (steps more : List Step) → Along P m (steps ++ more) → Along P m steps
along-first P m [] more h = tt
along-first P m (s ∷ steps) more h = (h.0, along-first P s.after steps more h.1)

pub along-rest : (P : Machine → Step → Type 0) (m : Machine) (steps more : List Step) → Along P m (steps ++ more) → Along P (after_steps m steps) more
along-rest P m [] more h = h
along-rest P m (s ∷ steps) more h = along-rest P s.after steps more h.1

pub after-append : (m : Machine) (steps more : List Step) → after_steps m (steps ++ more) ≡ after_steps (after_steps m steps) more
after-append m [] more = refl
after-append m (s ∷ steps) more = after-append s.after steps more

-- the number of the next process
abbrev pub next : Machine → ℕ
next m = next_process m.kernel.processes

nth-past : (all : Processes) (i : ℕ) → length all ≤ i → table.live_process all (suc i) ≡ None
nth-past all i l = ap (λ (o : Option (Option Process)). option_and_then (λ (p : Process). cond (table.is_live p) (Some p) None) (option_and_then (λ (thing : Option Process). thing) o)) (slice_get_past all i l)

pub live-number : (k : Kernel) (p : ℕ) → lives k p ≡ true → p < next_process k.processes
live-number k p h1 = grind (arith, nat_tests, leb-false, leb-true, nth-past)

pub seen-lives : (b : Bodies) (p : ℕ) (v : View) → seen b p ≡ Some v → is_some (body_at b p) ≡ true
seen-lives b p v h1 = grind (arith, nat_tests)

-- a process that sees something has a number
pub seen-number : (m : Machine) (p : ℕ) (v : View) → IsSoundMachine m → seen m.bodies p ≡ Some v → p < next m
seen-number m p v s e = live-number m.kernel p (sym (s.bodies p) ∙ seen-lives m.bodies p v e)

-- groups

abbrev pub event_groups : Option Event → Groups → Groups
event_groups None gs = gs
event_groups (Some e) gs = groups_told e.entry gs

after-keep : (p q : ℕ) (v : View) (m : Machine) (d : Doing) (r : Record) (gs : Groups) → EventTells m p v d r → q < next_process m.kernel.processes → groups_after p d.act gs q ≡ gs q
after-keep p q v m d r gs t l = by_act d.act t.forks
  where
    by_act : (a : Act) → ForksRightly (next_process m.kernel.processes) v a (extra_in r) → groups_after p a gs q ≡ gs q
    by_act a h1 = grind (arith, nat_tests, changed-other)

-- numbers that are given keep their groups
pub step-groups : (m : Machine) (s : Step) (gs : Groups) (q : ℕ) → StepTells m s → q < next m → event_groups s.moved.inside.event gs q ≡ gs q
step-groups m s gs q (Runs pid v instr cpu memory sees stands is) l = ap (λ (x : Step). event_groups x.moved.inside.event gs q) is
step-groups m s gs q (Happens pid v d r t is) l =
    ap (λ (x : Step). event_groups x.moved.inside.event gs q) is
    ∙ (ap (λ (f : Groups). f q) ((event-tale m pid v d r t).groups gs) ∙ after-keep pid q v m d r gs t l)
step-groups m s gs q (Boots path file held first e f image is) l =
    let few = ltb-false 0 (length m.kernel.processes) first in
    ap (λ (x : Step). event_groups x.moved.inside.event gs q) is ∙ changed-other gs 1 (Some 1) q (λ k. omega arith)
step-groups m s gs q (Adds path bytes e is) l = ap (λ (x : Step). event_groups x.moved.inside.event gs q) is
step-groups m s gs q (Types bytes e is) l = ap (λ (x : Step). event_groups x.moved.inside.event gs q) is
step-groups m s gs q (Unplugs device e is) l = ap (λ (x : Step). event_groups x.moved.inside.event gs q) is

-- the records of steps, and how many instructions ran

abbrev pub told_by : Option Event → List Record → List Record
told_by None rs = rs
told_by (Some e) rs = e.entry ∷ rs

pub told : List Step → List Record
told [] = []
told (s ∷ steps) = told_by s.moved.inside.event (told steps)

abbrev pub counted : Bool → ℕ → ℕ
counted true n = suc n
counted false n = n

pub count : List Step → ℕ
count [] = 0
count (s ∷ steps) = counted (is_instruction s.moved.inside) (count steps)

pub told-none : told [] ≡ []
unfolding told
told-none = refl

pub told-more : (s : Step) (steps : List Step) → told (s ∷ steps) ≡ told_by s.moved.inside.event (told steps)
unfolding told
told-more s steps = refl

pub count-none : count [] ≡ 0
unfolding count
count-none = refl

pub count-more : (s : Step) (steps : List Step) → count (s ∷ steps) ≡ counted (is_instruction s.moved.inside) (count steps)
unfolding count
count-more s steps = refl

pub records-told : (steps : List Step) → event_records steps ≡ told steps
unfolding told
records-told [] = refl
records-told (s ∷ steps) = by_event s.moved.inside.event (records-told steps)
  where
    by_event : (e : Option Event) → event_records steps ≡ told steps → map (λ (x : Event). x.entry) (cons_option e (filter_map (λ (s : Step). s.moved.inside.event) steps)) ≡ told_by e (told steps)
    by_event e h1 = grind (arith, nat_tests)

pub instructions-count : (steps : List Step) → instructions_in steps ≡ count steps
unfolding count
instructions-count [] = refl
instructions-count (s ∷ steps) = sum_by-cons (λ (x : Step). cond (is_instruction x.moved.inside) 1 0) s steps ∙ by_test (is_instruction s.moved.inside) (instructions-count steps)
  where
    by_test : (b : Bool) → instructions_in steps ≡ count steps → cond b 1 0 + instructions_in steps ≡ counted b (count steps)
    by_test b h1 = grind (arith, nat_tests)

pub told-groups : (m : Machine) (steps : List Step) (gs : Groups) (q : ℕ) → Along Known m steps → q < next m → groups_from (told steps) gs q ≡ gs q
unfolding told
told-groups m [] gs q h l = refl
told-groups m (s ∷ steps) gs q h l =
    by_event s.moved.inside.event
    ∙ (told-groups s.after steps (event_groups s.moved.inside.event gs) q h.1 (let n = h.0.numbers in omega arith)
    ∙ step-groups m s gs q h.0.tells l)
  where
    by_event : (e : Option Event) → groups_from (told_by e (told steps)) gs q ≡ groups_from (told steps) (event_groups e gs) q
    by_event e = grind (arith, nat_tests)

-- plain instructions

-- what holds of no instruction, and of one more before others, holds of the instructions of each turn
pub plains-all : (p : ℕ) (P : Machine → List Step → Type 0) → ((m : Machine) → P m []) → ((m : Machine) (v : View) (instr : Instr) (cpu : Cpu) (memory : List Window) (rest : List Step) → seen m.bodies p ≡ Some v → stands_at v ≡ Next instr cpu memory → P (plain_step m p v instr cpu memory).after rest → P m (plain_step m p v instr cpu memory ∷ rest)) → (n : ℕ) (m : Machine) → P m (plains n p m)
plains-all p P none more zero m = none m
plains-all p P none more (suc n) m = by_seen (λ after. plains-all p P none more n after) (seen m.bodies p) refl
  where
    by_effect : ((after : Machine) → P after (plains n p after)) → (v : View) (e : Effect) → seen m.bodies p ≡ Some v → stands_at v ≡ e → P m (steps_then (plain_by m p v e) (plains n p))
    by_effect h1 v e h2 h3 = grind (arith, nat_tests)

    by_seen : ((after : Machine) → P after (plains n p after)) → (o : Option View) → seen m.bodies p ≡ o → P m (steps_then (plain_in m p o) (plains n p))
    by_seen h1 o h2 = grind (arith, nat_tests, by_effect)

abbrev pub ArePlain : List Step → Type 0
ArePlain [] = Unit {0}
ArePlain (s ∷ steps) = (is_instruction s.moved.inside ≡ true) × (s.moved.inside.event ≡ None) × ArePlain steps

pub plains-plain : (n p : ℕ) (m : Machine) → ArePlain (plains n p m)
plains-plain n p m = plains-all p (λ m steps. ArePlain steps) (λ m. tt) (λ m v instr cpu memory rest e k h. (refl, refl, h)) n m

pub told-plain : (steps more : List Step) → ArePlain steps → told (steps ++ more) ≡ told more
unfolding told
told-plain [] more h = refl
told-plain (s ∷ steps) more h = ap (λ e. told_by e (told (steps ++ more))) h.1 ∙ told-plain steps more h.2

pub count-plain : (steps more : List Step) → ArePlain steps → count (steps ++ more) ≡ length steps + count more
unfolding count
count-plain [] more h = omega arith
count-plain (s ∷ steps) more h = let ih = count-plain steps more h.2 in ap (λ b. counted b (count (steps ++ more))) h.0 ∙ (ap suc ih ∙ omega arith)

-- all instructions are within the moment, and j more
pub within-plain : (j : ℕ) (steps more : List Step) → ArePlain steps → within (length steps + j) (steps ++ more) ≡ steps ++ within j more
within-plain j [] more h = ap (λ k. within k more) (let e : 0 + j ≡ j = omega arith in e)
within-plain j (s ∷ steps) more h =
    let e : suc (length steps) + j ≡ suc (length steps + j) = omega arith in
    ap (λ k. within k (s ∷ (steps ++ more))) e
    ∙ (ap (λ b. unless_reached b (suc (length steps + j)) (λ k. s ∷ within k (steps ++ more))) h.0
    ∙ ap (λ xs. s ∷ xs) (within-plain j steps more h.2))

-- the next step is an instruction
abbrev pub CountsNext : List Step → Type 0
CountsNext [] = Unit {0}
CountsNext (s ∷ steps) = is_instruction s.moved.inside ≡ true

within-none : (steps : List Step) → CountsNext steps → within 0 steps ≡ []
within-none [] h = refl
within-none (s ∷ steps) h = ap (λ b. unless_reached b 0 (λ k. s ∷ within k steps)) h

pub within-part : (k : ℕ) (steps more : List Step) → ArePlain steps → CountsNext more → k ≤ length steps → within k (steps ++ more) ≡ take k steps
within-part zero [] more h c l = within-none more c
within-part zero (s ∷ steps) more h c l = within-none (s ∷ (steps ++ more)) h.0
within-part (suc k) [] more h c l = absurd (omega arith)
within-part (suc k) (s ∷ steps) more h c l = ap (λ b. unless_reached b (suc k) (λ k. s ∷ within k (steps ++ more))) h.0 ∙ ap (λ xs. s ∷ xs) (within-part k steps more h.2 c (omega arith))

-- instructions leave all but bodies
pub record Kept (m n : Machine) : Type 0 where
  pub events : n.events ≡ m.events
  pub kernel : n.kernel ≡ m.kernel

pub plains-keep : (n p : ℕ) (m : Machine) → Kept m (after_steps m (plains n p m))
plains-keep n p m = plains-all p (λ m steps. Kept m (after_steps m steps)) (λ m. record { events = refl; kernel = refl }) (λ m v instr cpu memory rest e k h. record { events = h.events; kernel = h.kernel }) n m

abbrev pub JointAt : ℕ → (ℕ → Owner) → Groups → Machine → Bodies → Type 0
JointAt g owner gs m own = Joint g owner gs m.events m.bodies own

-- the step of an event doesn't move as an instruction does
pub acts-move : (pid event : ℕ) (holds : Holds) (a : Act) → is_plain (transfer pid event holds a) ≡ false
acts-move pid event holds a = grind (arith, nat_tests)

pub event-counts : (m : Machine) (p : ℕ) (v : View) (d : Doing) (r : Record) → is_instruction (event_step m p v d r).moved.inside ≡ is_call_or_end r
event-counts m p v d r = ap (λ (b : Bool). b || is_call_or_end r) (acts-move p m.events (holds_of v.body) d.act)

-- a delivery, and a call or an end, of process p

pub record FirstIs (m : Machine) (p : ℕ) (s : Step) : Type 0 where
  pub view : View
  pub doing : Doing
  pub entry : Record
  pub is : s ≡ event_step m p view doing entry
  pub tells : EventTells m p view doing entry
  pub signals : (g until : ℕ) (t : Standing) → after_record g until t entry ≡ after_signal g p entry t
  pub uncounted : is_call_or_end entry ≡ false
  pub groups : (gs : Groups) → groups_told entry gs ≡ gs
  pub begins : (g e : ℕ) (own : Own) → begins_by g e entry own ≡ Makes own

pub record LastIs (m : Machine) (p : ℕ) (s : Step) : Type 0 where
  pub view : View
  pub doing : Doing
  pub entry : Record
  pub is : s ≡ event_step m p view doing entry
  pub tells : EventTells m p view doing entry
  pub ends : (g until : ℕ) (t : Standing) → after_record g until t entry ≡ after_last g p entry t
  pub counted : is_call_or_end entry ≡ true

-- the step's record is this
abbrev HasRecord : Step → Record → Type 0
HasRecord s r = option_map (λ (e : Event). e.entry) s.moved.inside.event ≡ Some r

-- so an event of a slice is one of its process
pub record IsOf (m : Machine) (p : ℕ) (s : Step) (r : Record) : Type 0 where
  pub view : View
  pub doing : Doing
  pub is : s ≡ event_step m p view doing r
  pub tells : EventTells m p view doing r

-- a record of a slice's events
abbrev IsInner : Record → Type 0
IsInner r = is_inner r ≡ true

not-inner : (r' r : Record) → is_inner r' ≡ false → Some r' ≡ Some r → IsInner r → ⊥
not-inner r' r h1 h2 h3 = grind (arith, nat_tests)

inner-of : (m : Machine) (p : ℕ) (s : Step) (r : Record) → IsInner r → process_of r ≡ Some p → HasRecord s r → StepTells m s → IsOf m p s r
inner-of m p s r inner process has (Happens pid v d r' t is) =
    let same : Some r' ≡ Some r = ap (λ (x : Step). option_map (λ (e : Event). e.entry) x.moved.inside.event) (sym is) ∙ has in
    let same' : r' ≡ r = cc in
    let t' = subst (λ (x : Record). EventTells m pid v d x) same' t in
    let one : Some pid ≡ Some p = sym t'.process ∙ process in
    let one' : pid ≡ p = cc in
    record {
      view = v;
      doing = d;
      is = is ∙ (ap (λ (x : Record). event_step m pid v d x) same' ∙ ap (λ (i : ℕ). event_step m i v d r) one');
      tells = subst (λ (i : ℕ). EventTells m i v d r) one' t';
    }
inner-of m p s r inner process has (Runs pid v instr cpu memory sees stands is) =
    absurd (let none : None ≡ Some r = ap (λ (x : Step). option_map (λ (e : Event). e.entry) x.moved.inside.event) (sym is) ∙ has in cc)
inner-of m p s r inner process has (Boots path file held first e f image is) =
    let same = ap (λ (x : Step). option_map (λ (e : Event). e.entry) x.moved.inside.event) (sym is) ∙ has in absurd (not-inner (entry.Boot path (given held)) r refl same inner)
inner-of m p s r inner process has (Adds path bytes e is) =
    let same = ap (λ (x : Step). option_map (λ (e : Event). e.entry) x.moved.inside.event) (sym is) ∙ has in absurd (not-inner (entry.File path bytes) r refl same inner)
inner-of m p s r inner process has (Types bytes e is) =
    let same = ap (λ (x : Step). option_map (λ (e : Event). e.entry) x.moved.inside.event) (sym is) ∙ has in absurd (not-inner (entry.Typed bytes) r refl same inner)
inner-of m p s r inner process has (Unplugs device e is) =
    let same = ap (λ (x : Step). option_map (λ (e : Event). e.entry) x.moved.inside.event) (sym is) ∙ has in absurd (not-inner (entry.Unplug device) r refl same inner)

-- how a turn begins and ends

record Delivery (p : ℕ) (s : Step) : Type 0 where
  signal : ℕ
  handler : ℕ
  cut : Bool
  has : HasRecord s (entry.Signal p signal cut handler)

data LastOf (p : ℕ) (s : Step) : Type 0 where
  Calls : (n result : ℕ) (more : Extra) → HasRecord s (entry.Call p n result more) → LastOf p s
  Ends : (status : ℕ) → HasRecord s (entry.End p status) → LastOf p s

delivery-of : (m : Machine) (p : ℕ) (o : Option View) → IfSome (delivery_in m p o) (Delivery p)
delivery-of m p None = tt
delivery-of m p (Some v) = by_due (due_signal m p v)
  where
    by_due : (o : Option ℕ) → IfSome (delivery_of m p v o) (Delivery p)
    by_due None = tt
    by_due (Some signal) = record { signal = signal; handler = handler m p signal; cut = waits m p v; has = refl }

last-by : (m : Machine) (p : ℕ) (reply : Option Answered) (o : Option View) → IfSome (last_in m p reply o) (LastOf p)
last-by m p reply None = tt
last-by m p reply (Some v) = by_effect (stands_at v)
  where
    by_call : (o : Option Doing) → IfSome (option_map (call_step m p v) o) (LastOf p)
    by_call None = tt
    by_call (Some d) = Calls (call_number v.body.cpu) (result_of d.act) d.extra refl

    by_effect : (e : Effect) → IfSome (last_by m p v reply e) (LastOf p)
    by_effect (Next instr cpu memory) = tt
    by_effect Call = by_call (does m p v reply (request m p v))
    by_effect (End status) = Ends status refl

delivery-is : (m : Machine) (p : ℕ) (s : Step) → Delivery p s → StepTells m s → FirstIs m p s
delivery-is m p s d t =
    let i = inner-of m p s (entry.Signal p d.signal d.cut d.handler) refl refl d.has t in
    record { view = i.view; doing = i.doing; entry = entry.Signal p d.signal d.cut d.handler; is = i.is; tells = i.tells; signals = λ g until t. refl; uncounted = refl; groups = λ gs. refl; begins = λ g e own. refl }

ending-is : (m : Machine) (p : ℕ) (s : Step) → LastOf p s → StepTells m s → LastIs m p s
ending-is m p s (Calls n result more has) t =
    let i = inner-of m p s (entry.Call p n result more) refl refl has t in
    record { view = i.view; doing = i.doing; entry = entry.Call p n result more; is = i.is; tells = i.tells; ends = λ g until t. refl; counted = refl }
ending-is m p s (Ends status has) t =
    let i = inner-of m p s (entry.End p status) refl refl has t in
    record { view = i.view; doing = i.doing; entry = entry.End p status; is = i.is; tells = i.tells; ends = λ g until t. refl; counted = refl }

pub first-tells : (m : Machine) (p : ℕ) → IfSome (delivery_in m p (seen m.bodies p)) (λ s. StepTells m s → FirstIs m p s)
first-tells m p = by_step (delivery_in m p (seen m.bodies p)) (delivery-of m p (seen m.bodies p))
  where
    by_step : (o : Option Step) → IfSome o (Delivery p) → IfSome o (λ s. StepTells m s → FirstIs m p s)
    by_step None h = tt
    by_step (Some s) h = delivery-is m p s h

pub last-tells : (m : Machine) (p n : ℕ) (reply : Option Answered) (plain : List Step) → IfSome (last_of n p reply m plain) (λ s. StepTells (after_steps m plain) s → LastIs (after_steps m plain) p s)
last-tells m p n reply plain = by_test (nat_lt (length plain) n) (last_in (after_steps m plain) p reply (seen (after_steps m plain).bodies p)) (last-by (after_steps m plain) p reply (seen (after_steps m plain).bodies p))
  where
    by_test : (b : Bool) (o : Option Step) → IfSome o (LastOf p) → IfSome (cond b o None) (λ s. StepTells (after_steps m plain) s → LastIs (after_steps m plain) p s)
    by_test true None h = tt
    by_test true (Some s) h = ending-is (after_steps m plain) p s h
    by_test false o h = tt
