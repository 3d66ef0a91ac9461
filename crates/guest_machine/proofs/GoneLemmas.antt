-- A device that was unplugged isn't asked: what a turn does before its call leaves it unplugged, and its call doesn't ask it.
use Rattle.std.proofs.Common.{◌≡◌, ◌==◌, ℕ, zero, suc, ◌+◌, ◌-◌, Bool, true, false, cond, nat_lt, List, [], ◌∷◌, length, Option, None, Some, slice_set, refl, sym, ap, ◌∙◌}
use Rattle.std.proofs.lemmas.Bool.{eqb-true}
use Rattle.std.specs.List.{list_any}
use Rattle.rv64_model.specs.Instruction.{Effect, Next, Call, End}
use Rattle.parts_model.specs.Numbered.{nth}
use Rattle.parts_model.specs.declared.open.Conn.{Conn}
use Rattle.parts_model.specs.declared.open.Description.{Description}
use Rattle.parts_model.specs.declared.open.Description.TheVariants as description
use Rattle.parts_model.specs.Ports.{Port, freed, port_at}
use Rattle.acts_model.specs.Acts.{Dies}
use Rattle.acts_model.specs.Bodies.{View, seen}
use Rattle.acts_model.specs.Told.{delivery_act}
use Rattle.acts_model.specs.Views.{stands_at}
use Rattle.arn_model.specs.Doing.{Question, Here, Reads, Writes, Request, Waits, Does, Asks}
use Rattle.arn_model.specs.Kernel.{Kernel, Machine, Opened, all_dropped, closed, descriptors_of, dropped, less_held, with_count, without_port, without_servers, without_side}
use Rattle.arn_model.specs.Row.{request}
use Rattle.arn_model.specs.Step.{Step, delivering, delivery_of, due_signal, ending, handler, only, plain_by, plain_step, waits, without_signal}
use Rattle.arn_model.specs.TransferCalls.{was_unplugged}
use Rattle.arn_model.specs.Turn.{after_first, after_steps, delivery_in, plain_in, plains, steps_then}
use Rattle.guest_calls.specs.Steps.{asked_of}
use Rattle.guest_machine.specs.Asked.{asked_at, asked_by, asked_from}
use Rattle.guest_machine.specs.Gone.{GoneUnasked, asks_device}
use Rattle.guest_machine.specs.Slices.{delivered}
use Rattle.guest_machine.proofs.UnaskedCalls.{Unasked, device_of, request-Unasked}

-- what closes leaves devices as they are
servers-keep : (conns : List Conn) (k : Kernel) → (without_servers conns k).unplugged ≡ k.unplugged
servers-keep [] k = refl
servers-keep (conn ∷ conns) k = servers-keep conns (without_side conn.to_server conn.to_client k)

port-keeps : (number : ℕ) (o : Option Port) (k : Kernel) → (without_port number o k).unplugged ≡ k.unplugged
port-keeps number None k = refl
port-keeps number (Some p) k = servers-keep p.waiting (record k { ports = freed k.ports number })

closed-keeps : (what : Description) (k : Kernel) → (closed what k).unplugged ≡ k.unplugged
closed-keeps description.Console k = refl
closed-keeps (description.File file position) k = refl
closed-keeps (description.Reader pipe) k = refl
closed-keeps (description.Writer pipe) k = refl
closed-keeps (description.Connection reads writes) k = refl
closed-keeps (description.Listener port) k = port-keeps port (port_at k.ports port) k
closed-keeps (description.Device device) k = refl

less_held-keeps : (n : ℕ) (o : Option Opened) (k : Kernel) → (less_held n o k).unplugged ≡ k.unplugged
less_held-keeps n None k = refl
less_held-keeps n (Some o) k = by (nat_lt 1 o.descriptors)
  where
    gone : Kernel
    gone = record k { descriptions = slice_set k.descriptions n None }

    by : (b : Bool) → (cond b (record k { descriptions = slice_set k.descriptions n (Some (with_count (λ c. c - 1) o)) }) (closed o.what gone)).unplugged ≡ k.unplugged
    by true = refl
    by false = closed-keeps o.what gone

all_dropped-keep : (ns : List (Option ℕ)) (k : Kernel) → (all_dropped ns k).unplugged ≡ k.unplugged
all_dropped-keep [] k = refl
all_dropped-keep (None ∷ ns) k = all_dropped-keep ns k
all_dropped-keep (Some n ∷ ns) k = all_dropped-keep ns (dropped n k) ∙ less_held-keeps n (nth k.descriptions n) k

-- so does a delivery
delivering-keeps : (m : Machine) (pid signal address : ℕ) (cut : Bool) → (delivering m pid signal address cut).kernel.unplugged ≡ m.kernel.unplugged
delivering-keeps m pid signal address cut = by (address == 0)
  where
    by : (b : Bool) → (cond b (ending m pid (Dies signal cut) (128 + signal)) (only (delivery_act signal address cut) (without_signal pid signal m.kernel))).kernel.unplugged ≡ m.kernel.unplugged
    by true = all_dropped-keep (descriptors_of m.kernel pid) m.kernel
    by false = refl

due-keeps : (m : Machine) (pid : ℕ) (v : View) (o : Option ℕ) → (after_first m (delivery_of m pid v o)).kernel.unplugged ≡ m.kernel.unplugged
due-keeps m pid v None = refl
due-keeps m pid v (Some signal) = delivering-keeps m pid signal (handler m pid signal) (waits m pid v)

delivery-keeps : (m : Machine) (pid : ℕ) (o : Option View) → (after_first m (delivery_in m pid o)).kernel.unplugged ≡ m.kernel.unplugged
delivery-keeps m pid None = refl
delivery-keeps m pid (Some v) = due-keeps m pid v (due_signal m pid v)

-- and instructions that others follow
module _ (pid : ℕ) (rest : Machine → List Step) (keeps : (m : Machine) → (after_steps m (rest m)).kernel.unplugged ≡ m.kernel.unplugged) where
  by-keeps : (m : Machine) (v : View) (e : Effect) → (after_steps m (steps_then (plain_by m pid v e) rest)).kernel.unplugged ≡ m.kernel.unplugged
  by-keeps m v (Next instr cpu memory) = keeps (plain_step m pid v instr cpu memory).after
  by-keeps m v Call = refl
  by-keeps m v (End status) = refl

  in-keeps : (m : Machine) (o : Option View) → (after_steps m (steps_then (plain_in m pid o) rest)).kernel.unplugged ≡ m.kernel.unplugged
  in-keeps m None = refl
  in-keeps m (Some v) = by-keeps m v (stands_at v)

plains-keep : (n pid : ℕ) (m : Machine) → (after_steps m (plains n pid m)).kernel.unplugged ≡ m.kernel.unplugged
plains-keep zero pid m = refl
plains-keep (suc n) pid m = in-keeps pid (plains n pid) (plains-keep n pid) m (seen m.bodies pid)

before-keeps : (count pid : ℕ) (m : Machine) → (after_steps (delivered pid m) (plains count pid (delivered pid m))).kernel.unplugged ≡ m.kernel.unplugged
before-keeps count pid m = plains-keep count pid (delivered pid m) ∙ delivery-keeps m pid (seen m.bodies pid)

-- a device that wasn't unplugged is another than one that was
other-device : (k : Kernel) (device n : ℕ) → was_unplugged k device ≡ false → was_unplugged k n ≡ true → (device == n) ≡ false
other-device k device n there gone = by (device == n) refl
  where
    by : (b : Bool) → (device == n) ≡ b → b ≡ false
    by false same = refl
    by true same = sym gone ∙ ap (was_unplugged k) (sym (eqb-true device n same)) ∙ there

-- so a call doesn't ask one that was
question-gone : (m : Machine) (v : View) (n : ℕ) (question : Question) → was_unplugged m.kernel (device_of question) ≡ false → was_unplugged m.kernel n ≡ true → asks_device n (Some (asked_of v question)) ≡ false
question-gone m v n (Here device) there gone = other-device m.kernel device n there gone
question-gone m v n (Reads device at len) there gone = other-device m.kernel device n there gone
question-gone m v n (Writes device at len) there gone = other-device m.kernel device n there gone

module _ (n : ℕ) (m : Machine) (gone : was_unplugged m.kernel n ≡ true) (pid : ℕ) where
  by-gone : (v : View) (r : Request) → Unasked m r → asks_device n (asked_by v r) ≡ false
  unfolding Unasked
  by-gone v Waits is = refl
  by-gone v (Does d) is = refl
  by-gone v (Asks question) is = question-gone m v n question is gone

  at-gone : (v : View) (e : Effect) → asks_device n (asked_at m pid v e) ≡ false
  at-gone v (Next instr cpu memory) = refl
  at-gone v Call = by-gone v (request m pid v) (request-Unasked m pid v)
  at-gone v (End status) = refl

  from-gone : (o : Option View) → asks_device n (asked_from m pid o) ≡ false
  from-gone None = refl
  from-gone (Some v) = at-gone v (stands_at v)

  if-gone : (b : Bool) → asks_device n (cond b (asked_from m pid (seen m.bodies pid)) None) ≡ false
  if-gone false = refl
  if-gone true = from-gone (seen m.bodies pid)

pub unasked-gone : GoneUnasked
unasked-gone ask s n gone =
    let pid = s.pick.pid in
    let count = s.pick.count in
    let m = delivered pid ask.machine in
    let plain = plains count pid m in
    let still = ap (list_any (λ d. d == n)) (before-keeps count pid ask.machine) ∙ gone in
    if-gone n (after_steps m plain) still pid (nat_lt (length plain) count)
