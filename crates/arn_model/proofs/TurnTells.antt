-- What the steps of a turn tell: a delivery, instructions, and a call or an end by fault.
use Rattle.std.proofs.Common.{◌≡◌, ℕ, zero, suc, ◌+◌, ◌≤◌, List, [], ◌∷◌, ◌++◌, length, refl, ap, ◌∙◌, Option, Some, None, IfSome, Bool, true, false, ◌==◌, not, if◌then◌else◌, arith, option_map, option_to_list, eq-eqb}
use Rattle.std.proofs.lemmas.Bool.Decides.{nat_tests}
use Rattle.arn_base.specs.declared.machine.Cpu.{Cpu}
use Rattle.arn_base.specs.Window.{Window}
use Rattle.arn_base.specs.declared.records.Record.{Record}
use Rattle.arn_base.specs.declared.records.Record.TheVariants as entry
use Rattle.rv64_isa.specs.declared.instruction.Instr.{Instr}
use Rattle.rv64_model.specs.Instruction.{Effect, Next, Call, End}
use Rattle.parts_model.specs.Replies.{Answered}
use Rattle.acts_model.specs.Acts.{Delivers, Faults, Dies}
use Rattle.acts_model.specs.Bodies.{View, seen}
use Rattle.acts_model.specs.Disagreement.{status_wrong, wrong_if}
use Rattle.acts_model.specs.Records.{EndsLife, NoName, lives_after}
use Rattle.acts_model.specs.Views.{stands_at, call_number, after_instr}
use Rattle.arn_model.specs.Doing.{Doing, Request, Waits, Does, Asks}
use Rattle.arn_model.specs.Kernel.{Machine}
use Rattle.arn_model.specs.Row.{request, does, answered}
use Rattle.arn_model.specs.Step.{Step, plain_step, event_step, call_step, ending, last_by, plain_by, waits, handler, without_signal, only, delivering, delivery_of}
use Rattle.arn_model.specs.Sound.{IsSound}
use Rattle.arn_model.specs.Tells.{lives, EventTells, StepTells, Runs, Happens, HasNumbers, Along}
use Rattle.arn_model.specs.Turn.{after_steps, after_first, delivery_in, plain_in, steps_then, plains, last_in, last_of, turn, steps_of}
use Rattle.arn_model.proofs.Closing.{quiet-with_handling}
use Rattle.arn_model.proofs.Effects.{KernelTells, quiet-tells, ended-tells}
use Rattle.arn_model.proofs.Calling.{Done, RequestTells, life_by, kept-after}
use Rattle.arn_model.proofs.Fitting.{BodiesFit, seen-fits, fit-put, fit-same, after-fits, advanced-small}
use Rattle.arn_model.proofs.RowTells.{request-tells}
use Rattle.arn_model.proofs.RunLemmas.{first-steps}

-- what is kept: the kernel is sound, who has a body lives, and memories fit their windows
pub record MachineSound (m : Machine) : Type 0 where
  pub kernel : IsSound m.kernel
  pub bodies : BodiesFit m.bodies (lives m.kernel)

-- a step tells, and keeps that
pub record StepGood (m : Machine) (s : Step) : Type 0 where
  pub sound : MachineSound s.after
  pub grows : length m.kernel.processes ≤ length s.after.kernel.processes
  pub few : length s.after.kernel.processes + m.events ≤ length m.kernel.processes + s.after.events
  pub tells : HasNumbers s.after.kernel → StepTells m s

pub event-good : (m : Machine) (pid : ℕ) (v : View) (d : Doing) (entry : Record) → MachineSound m → seen m.bodies pid ≡ Some v → Done m pid v d entry → StepGood m (event_step m pid v d entry)
event-good m pid v d entry s e done =
    record {
      sound =
          record {
            kernel = done.sound;
            bodies =
                fit-same _ (λ q. lives_after (life_by pid d.act) q (lives m.kernel q)) (lives d.kernel)
                (after-fits pid m.events d.act v m.bodies (lives m.kernel) s.bodies e)
                done.living;
          };
      grows = done.grows;
      few = let f = done.few in omega arith;
      tells = λ few. Happens pid v d entry (done.told few) refl;
    }

-- an instruction
plain-good : (m : Machine) (pid : ℕ) (v : View) (instr : Instr) (cpu : Cpu) (memory : List Window) → MachineSound m → seen m.bodies pid ≡ Some v → stands_at v ≡ Next instr cpu memory → StepGood m (plain_step m pid v instr cpu memory)
plain-good m pid v instr cpu memory s e x =
    let there = seen-fits m.bodies (lives m.kernel) pid v s.bodies e in
    record {
      sound = record { kernel = s.kernel; bodies = fit-put m.bodies (lives m.kernel) (lives m.kernel) pid (after_instr cpu memory v) s.bodies there.0 (λ q g. refl) (advanced-small v instr cpu memory there.1 x) };
      grows = omega arith;
      few = omega arith;
      tells = λ few. Runs pid v instr cpu memory e x refl;
    }

-- an event that is no call, with nothing told of names and files
record EventSays (m : Machine) (pid : ℕ) (v : View) (d : Doing) (entry : Record) : Type 0 where
  pub told : (k : KernelTells m.kernel m.events d.bytes d.outgoing (life_by pid d.act) NoName None d.kernel) → EventTells m pid v d entry

done-event : (m : Machine) (pid : ℕ) (v : View) (d : Doing) (entry : Record) → MachineSound m → EventSays m pid v d entry → KernelTells m.kernel m.events d.bytes d.outgoing (life_by pid d.act) NoName None d.kernel → Done m pid v d entry
done-event m pid v d entry s e k = record { told = λ few. e.told k; living = k.living; sound = k.sound s.kernel; grows = k.grows; few = k.few }

-- an end by fault
fault-done : (m : Machine) (pid : ℕ) (v : View) (status : ℕ) → MachineSound m → seen m.bodies pid ≡ Some v → stands_at v ≡ End status → Done m pid v (ending m pid (Faults status) status) (entry.End pid status)
fault-done m pid v status s e x =
    done-event m pid v (ending m pid (Faults status) status) (entry.End pid status) s (record { told = told }) (ended-tells pid status m.events m.kernel)
  where
    right : status_wrong (stands_at v) status ≡ None
    right = ap (λ (x : Effect). status_wrong x status) x ∙ ap (λ (b : Bool). wrong_if (not b) status status) (eq-eqb status status refl)

    told : (k : KernelTells m.kernel m.events (status ∷ []) (ending m pid (Faults status) status).outgoing (EndsLife pid) NoName None (ending m pid (Faults status) status).kernel) → EventTells m pid v (ending m pid (Faults status) status) (entry.End pid status)
    told k = grind (arith, nat_tests, right, kept-after)

-- a delivery

death-done : (m : Machine) (pid : ℕ) (v : View) (signal address : ℕ) (cut : Bool) → MachineSound m → seen m.bodies pid ≡ Some v → (address == 0) ≡ true → Done m pid v (ending m pid (Dies signal cut) (128 + signal)) (entry.Signal pid signal cut address)
death-done m pid v signal address cut s e none =
    done-event m pid v (ending m pid (Dies signal cut) (128 + signal)) (entry.Signal pid signal cut address) s (record { told = told }) (ended-tells pid (128 + signal) m.events m.kernel)
  where
    told : (k : KernelTells m.kernel m.events ((128 + signal) ∷ []) (ending m pid (Dies signal cut) (128 + signal)).outgoing (EndsLife pid) NoName None (ending m pid (Dies signal cut) (128 + signal)).kernel) → EventTells m pid v (ending m pid (Dies signal cut) (128 + signal)) (entry.Signal pid signal cut address)
    told k = grind (arith, nat_tests, kept-after)

handled-done : (m : Machine) (pid : ℕ) (v : View) (signal address : ℕ) (cut : Bool) → MachineSound m → seen m.bodies pid ≡ Some v → (address == 0) ≡ false → Done m pid v (only (Delivers signal address cut) (without_signal pid signal m.kernel)) (entry.Signal pid signal cut address)
handled-done m pid v signal address cut h1 h2 h3 = grind (arith, nat_tests, done-event, kept-after, quiet-tells, quiet-with_handling)

delivering-done : (m : Machine) (pid : ℕ) (v : View) (signal address : ℕ) (cut : Bool) → MachineSound m → seen m.bodies pid ≡ Some v → Done m pid v (delivering m pid signal address cut) (entry.Signal pid signal cut address)
delivering-done m pid v signal address cut s e = by_test (address == 0) refl
  where
    by_test : (b : Bool) → (address == 0) ≡ b → Done m pid v (if b then ending m pid (Dies signal cut) (128 + signal) else only (if b then Dies signal cut else Delivers signal address cut) (without_signal pid signal m.kernel)) (entry.Signal pid signal cut address)
    by_test true t = death-done m pid v signal address cut s e t
    by_test false t = handled-done m pid v signal address cut s e t

delivery-good : (m : Machine) (pid : ℕ) → MachineSound m → IfSome (delivery_in m pid (seen m.bodies pid)) (StepGood m)
delivery-good m pid s = by_seen (seen m.bodies pid) refl
  where
    by_signal : (v : View) → seen m.bodies pid ≡ Some v → (o : Option ℕ) → IfSome (delivery_of m pid v o) (StepGood m)
    by_signal v e None = tt
    by_signal v e (Some signal) =
        let cut = waits m pid v in
        let address = handler m pid signal in
        event-good m pid v (delivering m pid signal address cut) (entry.Signal pid signal cut address) s e (delivering-done m pid v signal address cut s e)

    by_seen : (o : Option View) → seen m.bodies pid ≡ o → IfSome (delivery_in m pid o) (StepGood m)
    by_seen o h1 = grind (arith, nat_tests, by_signal)

-- a call or an end

last-good : (m : Machine) (pid : ℕ) (reply : Option Answered) → MachineSound m → IfSome (last_in m pid reply (seen m.bodies pid)) (StepGood m)
last-good m pid reply s = by_seen (seen m.bodies pid) refl
  where
    by_request : (v : View) → seen m.bodies pid ≡ Some v → (r : Request) → RequestTells m pid v (call_number v.body.cpu) r → IfSome (option_map (call_step m pid v) (does m pid v reply r)) (StepGood m)
    by_request v e Waits t = tt
    by_request v e (Does d) t = event-good m pid v d _ s e t
    by_request v e (Asks question) t = event-good m pid v (answered m pid v question reply) _ s e (t reply)

    by_effect : (v : View) → seen m.bodies pid ≡ Some v → (x : Effect) → stands_at v ≡ x → IfSome (last_by m pid v reply x) (StepGood m)
    by_effect v e (Next instr cpu memory) x = tt
    by_effect v e Call x =
        let there = seen-fits m.bodies (lives m.kernel) pid v s.bodies e in
        by_request v e (request m pid v) (request-tells m pid v (record { seen = e; stands = x; number = refl; sound = s.kernel; alive = there.0; fits = there.1.window }))
    by_effect v e (End status) x = event-good m pid v _ (entry.End pid status) s e (fault-done m pid v status s e x)

    by_seen : (o : Option View) → seen m.bodies pid ≡ o → IfSome (last_in m pid reply o) (StepGood m)
    by_seen o h1 = grind (arith, nat_tests, by_effect)

-- steps that follow each other

pub along-append : (P : Machine → Step → Type 0) (m : Machine) (steps more : List Step) → Along P m steps → Along P (after_steps m steps) more → Along P m (steps ++ more)
along-append P m [] more h g = g
along-append P m (s ∷ steps) more h g = (h.0, along-append P s.after steps more h.1 g)

pub along-sound : (m : Machine) (steps : List Step) → MachineSound m → Along StepGood m steps → MachineSound (after_steps m steps)
along-sound m [] s h = s
along-sound m (x ∷ steps) s h = along-sound x.after steps h.0.sound h.1

plains-good : (n pid : ℕ) (m : Machine) → MachineSound m → Along StepGood m (plains n pid m)
plains-good zero pid m s = tt
plains-good (suc n) pid m s = by_seen (λ after sound. plains-good n pid after sound) (seen m.bodies pid) refl
  where
    by_effect : ((after : Machine) → MachineSound after → Along StepGood after (plains n pid after)) → (v : View) → seen m.bodies pid ≡ Some v → (x : Effect) → stands_at v ≡ x → Along StepGood m (steps_then (plain_by m pid v x) (plains n pid))
    by_effect rest v e (Next instr cpu memory) x = let good = plain-good m pid v instr cpu memory s e x in (good, rest (plain_step m pid v instr cpu memory).after good.sound)
    by_effect rest v e _ x = tt

    by_seen : ((after : Machine) → MachineSound after → Along StepGood after (plains n pid after)) → (o : Option View) → seen m.bodies pid ≡ o → Along StepGood m (steps_then (plain_in m pid o) (plains n pid))
    by_seen h1 o h2 = grind (arith, nat_tests, by_effect)

-- one step that there may be
along-one : (m : Machine) (o : Option Step) → IfSome o (StepGood m) → Along StepGood m (option_to_list o)
along-one m None h = tt
along-one m (Some s) h = (h, tt)

first-sound : (m : Machine) (o : Option Step) → MachineSound m → IfSome o (StepGood m) → MachineSound (after_first m o)
first-sound m None s h = s
first-sound m (Some x) s h = h.sound

last_of-good : (n pid : ℕ) (reply : Option Answered) (m : Machine) (plain : List Step) → MachineSound (after_steps m plain) → IfSome (last_of n pid reply m plain) (StepGood (after_steps m plain))
last_of-good n pid reply m plain h1 = grind (arith, nat_tests, last-good)

behind-good : (n pid : ℕ) (reply : Option Answered) (m : Machine) → MachineSound m → Along StepGood m (plains n pid m ++ option_to_list (last_of n pid reply m (plains n pid m)))
behind-good n pid reply m h1 = grind (arith, nat_tests, along-append, along-one, along-sound, last_of-good, plains-good)

pub turn-good : (n pid : ℕ) (reply : Option Answered) (m : Machine) → MachineSound m → Along StepGood m (steps_of (turn n pid reply m))
turn-good n pid reply m h1 = grind (arith, nat_tests, first-steps, along-append, along-one, behind-good, delivery-good, first-sound)
