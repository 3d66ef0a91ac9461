-- A turn is the same with the reply that its last record names, from each machine that a run reaches.
use Rattle.std.proofs.Common.{◌≡◌, ℕ, zero, suc, ◌+◌, ◌==◌, Bool, true, false, cond, nat_lt, List, [], ◌∷◌, length, Option, None, Some, refl, sym, subst, arith}
use Rattle.std.proofs.lemmas.Bool.Decides.{nat_tests}
use Rattle.rv64_model.specs.Instruction.{Effect}
use Rattle.parts_model.specs.declared.tagged.TaggedByte.{TaggedByte}
use Rattle.parts_model.specs.Files.{find_file, file_bytes}
use Rattle.parts_model.specs.Image.{is_image}
use Rattle.parts_model.specs.Replies.{Answered}
use Rattle.parts_model.specs.Tagged.{values}
use Rattle.acts_model.specs.Acts.{Dies}
use Rattle.acts_model.specs.Bodies.{View, seen}
use Rattle.acts_model.specs.Told.{delivery_act}
use Rattle.acts_model.specs.Views.{stands_at}
use Rattle.arn_model.specs.Kernel.{Kernel, Machine, at_first, status_at}
use Rattle.arn_model.specs.Laws.{ReplyIsTold}
use Rattle.arn_model.specs.Run.{Input, after_input, machine_from, machine_after, boot_found, boot_from, boot_step}
use Rattle.arn_model.specs.Step.{Step, ending, only, without_signal, plain_by, last_by, delivery_of, due_signal, handler, waits}
use Rattle.arn_model.specs.Turn.{Turn, plains, plain_in, steps_then, steps_of, turn, delivery_in, after_first, after_steps, last_in}
use Rattle.arn_model.proofs.FewDescriptors.{Few, few-none, ended-few, booted-few, called-few, request-few}
use Rattle.arn_model.proofs.RunLemmas.{after_steps-append, first-steps}
use Rattle.arn_model.proofs.ToldReplies.{last-told}

-- a delivery leaves descriptors few
delivering-few : (m : Machine) (pid signal address : ℕ) (cut b : Bool) → Few m.kernel.processes → Few (cond b (ending m pid (Dies signal cut) (128 + signal)) (only (delivery_act signal address cut) (without_signal pid signal m.kernel))).kernel.processes
delivering-few m pid signal address cut true few = ended-few pid (status_at m.events (128 + signal)) m.kernel few
delivering-few m pid signal address cut false few = few

delivery_of-few : (m : Machine) (pid : ℕ) (v : View) (o : Option ℕ) → Few m.kernel.processes → Few (after_first m (delivery_of m pid v o)).kernel.processes
delivery_of-few m pid v None few = few
delivery_of-few m pid v (Some signal) few = delivering-few m pid signal (handler m pid signal) (waits m pid v) (handler m pid signal == 0) few

delivery-few : (m : Machine) (pid : ℕ) (o : Option View) → Few m.kernel.processes → Few (after_first m (delivery_in m pid o)).kernel.processes
delivery-few m pid None few = few
delivery-few m pid (Some v) few = delivery_of-few m pid v (due_signal m pid v) few

-- plain instructions leave the kernel
SameKernel : Machine → Option Step → Type 0
SameKernel m None = Unit {0}
SameKernel m (Some s) = s.after.kernel ≡ m.kernel

plain_by-same : (m : Machine) (pid : ℕ) (v : View) (e : Effect) → SameKernel m (plain_by m pid v e)
unfolding SameKernel
plain_by-same m pid v e = grind (arith, nat_tests)

plain_in-same : (m : Machine) (pid : ℕ) (o : Option View) → SameKernel m (plain_in m pid o)
unfolding SameKernel
plain_in-same m pid o = grind (arith, nat_tests, plain_by-same)

then-same : (m : Machine) (o : Option Step) (rest : Machine → List Step) → SameKernel m o → ((m : Machine) → (after_steps m (rest m)).kernel ≡ m.kernel) → (after_steps m (steps_then o rest)).kernel ≡ m.kernel
unfolding SameKernel
then-same m o rest h1 h2 = grind (arith, nat_tests)

plains-same : (n pid : ℕ) (m : Machine) → (after_steps m (plains n pid m)).kernel ≡ m.kernel
plains-same zero pid m = refl
plains-same (suc n) pid m = then-same m (plain_in m pid (seen m.bodies pid)) (plains n pid) (plain_in-same m pid (seen m.bodies pid)) (plains-same n pid)

plains-few : (n pid : ℕ) (m : Machine) → Few m.kernel.processes → Few (after_steps m (plains n pid m)).kernel.processes
plains-few n pid m few = subst (λ (k : Kernel). Few k.processes) (sym (plains-same n pid m)) few

-- so the last step takes place where they are
pub turn-told : (n pid : ℕ) (reply : Option Answered) (m : Machine) → Few m.kernel.processes → ReplyIsTold n pid reply m
turn-told n pid reply m h1 = grind (arith, nat_tests, delivery-few, last-told, plains-few)

last_by-few : (m : Machine) (pid : ℕ) (v : View) (reply : Option Answered) (e : Effect) → Few m.kernel.processes → Few (after_first m (last_by m pid v reply e)).kernel.processes
last_by-few m pid v reply e h1 = grind (arith, nat_tests, called-few, ended-few, request-few)

last_in-few : (m : Machine) (pid : ℕ) (reply : Option Answered) (o : Option View) → Few m.kernel.processes → Few (after_first m (last_in m pid reply o)).kernel.processes
last_in-few m pid reply None few = few
last_in-few m pid reply (Some v) few = last_by-few m pid v reply (stands_at v) few

if-few : (m : Machine) (b : Bool) (o : Option Step) → Few m.kernel.processes → Few (after_first m o).kernel.processes → Few (after_first m (cond b o None)).kernel.processes
if-few m true o few after = after
if-few m false o few after = few

turn-steps : (m : Machine) (t : Turn) → after_steps m (steps_of t) ≡ after_first (after_steps (after_first m t.delivery) t.plain) t.last
turn-steps m t = grind (arith, nat_tests, after_steps-append, first-steps)

turn-few : (n pid : ℕ) (reply : Option Answered) (m : Machine) → Few m.kernel.processes → Few (after_steps m (steps_of (turn n pid reply m))).kernel.processes
turn-few n pid reply m few =
    let m' = after_first m (delivery_in m pid (seen m.bodies pid)) in
    let plain = plains n pid m' in
    let m'' = after_steps m' plain in
    let before : Few m''.kernel.processes = plains-few n pid m' (delivery-few m pid (seen m.bodies pid) few) in
    subst (λ (x : Machine). Few x.kernel.processes) (sym (turn-steps m (turn n pid reply m)))
    (if-few m'' (nat_lt (length plain) n) (last_in m'' pid reply (seen m''.bodies pid)) before (last_in-few m'' pid reply (seen m''.bodies pid) before))

-- and whatever else comes
if-steps-few : (m : Machine) (b : Bool) (steps : List Step) → Few m.kernel.processes → Few (after_steps m steps).kernel.processes → Few (after_steps m (cond b steps [])).kernel.processes
if-steps-few m true steps few after = after
if-steps-few m false steps few after = few

boot_from-few : (m : Machine) (path : List ℕ) (file : ℕ) (o : Option (List TaggedByte)) → Few m.kernel.processes → Few (after_steps m (boot_from m path file o)).kernel.processes
boot_from-few m path file None few = few
boot_from-few m path file (Some held) few = if-steps-few m (is_image (values held)) (boot_step m path file held ∷ []) few (booted-few m.kernel few)

boot_found-few : (m : Machine) (path : List ℕ) (o : Option ℕ) → Few m.kernel.processes → Few (after_steps m (boot_found m path o)).kernel.processes
boot_found-few m path None few = few
boot_found-few m path (Some file) few = boot_from-few m path file (file_bytes m.kernel.files file) few

boot-few : (m : Machine) (path : List ℕ) (b : Bool) → Few m.kernel.processes → Few (after_steps m (cond b [] (boot_found m path (find_file m.kernel.files path)))).kernel.processes
boot-few m path true few = few
boot-few m path false few = boot_found-few m path (find_file m.kernel.files path) few

input-few : (m : Machine) (i : Input) → Few m.kernel.processes → Few (after_input m i).kernel.processes
input-few m i h1 = grind (arith, nat_tests, boot-few, if-steps-few, turn-few)

machine_from-few : (m : Machine) (inputs : List Input) → Few m.kernel.processes → Few (machine_from m inputs).kernel.processes
machine_from-few m [] few = few
machine_from-few m (i ∷ inputs) few = machine_from-few (after_input m i) inputs (input-few m i few)

pub run-told : (inputs : List Input) (n pid : ℕ) (reply : Option Answered) → ReplyIsTold n pid reply (machine_after inputs)
run-told inputs n pid reply = turn-told n pid reply (machine_after inputs) (machine_from-few at_first inputs few-none)
