-- Each step of an input makes as many processes as its record tells.
use Rattle.std.proofs.lemmas.Bool.Decides.{nat_tests}
use Rattle.std.proofs.Common.{◌≡◌, ℕ, zero, suc, ◌+◌, ◌≤◌, Bool, true, false, if◌then◌else◌, List, [], ◌∷◌, ◌++◌, length, Option, Some, None, option_map, option_to_list, refl, sym, subst, arith, ltb-false}
use Rattle.arn_base.specs.declared.records.Record.{Record}
use Rattle.arn_base.specs.declared.records.Record.TheVariants as entry
use Rattle.rv64_model.specs.Instruction.{Effect, Next}
use Rattle.parts_model.specs.declared.limits.TheConstants.{WINDOW_LEN}
use Rattle.parts_model.specs.declared.tagged.TaggedByte.{TaggedByte}
use Rattle.parts_model.specs.Files.{find_file, file_bytes}
use Rattle.parts_model.specs.Image.{is_image}
use Rattle.parts_model.specs.Replies.{Answered}
use Rattle.parts_model.specs.Tagged.{values}
use Rattle.acts_model.specs.Bodies.{View, seen}
use Rattle.acts_model.specs.Moved.{Event}
use Rattle.acts_model.specs.Views.{stands_at}
use Rattle.arn_model.specs.Doing.{Doing}
use Rattle.arn_model.specs.Laws.{ProcessesCount, RequestsAreBounded}
use Rattle.arn_model.specs.Kernel.{Machine}
use Rattle.arn_model.specs.Row.{request, does}
use Rattle.arn_model.specs.Run.{Input, is_booted, boot_step, boot_from, boot_found, input_steps, after_input, steps_from}
use Rattle.arn_model.specs.Sound.{IsSoundMachine}
use Rattle.arn_model.specs.Step.{Step, plain_by, last_by, call_step, delivery_of, delivering, due_signal}
use Rattle.arn_model.specs.Tells.{HasNumbers, Along}
use Rattle.arn_model.specs.Turn.{after_steps, turn, steps_of, delivery_in, plain_in, plains, steps_then, last_in, last_of}
use Rattle.unbroken_laws.proofs.Counted.{Counted, call-counted}

abbrev pub CountedBy : Machine → Machine → Option Event → Type 0
CountedBy m after None = after.kernel ≡ m.kernel
CountedBy m after (Some event) = HasNumbers after.kernel → IsSoundMachine m → Counted (length m.kernel.processes) (length after.kernel.processes) event.entry

pub record CountsRight (m : Machine) (s : Step) : Type 0 where
  pub counted : CountedBy m s.after s.moved.inside.event

-- lists of steps
pub along-append : (P : Machine → Step → Type 0) (m : Machine) (steps more : List Step) → Along P m steps → Along P (after_steps m steps) more → Along P m (steps ++ more)
along-append P m [] more h k = k
along-append P m (s ∷ steps) more h k = (h.0, along-append P s.after steps more h.1 k)

pub along-first : (P : Machine → Step → Type 0) (m : Machine) (steps more : List Step) → Along P m (steps ++ more) → Along P m steps
along-first P m [] more h = tt
along-first P m (s ∷ steps) more h = (h.0, along-first P s.after steps more h.1)

pub along-rest : (P : Machine → Step → Type 0) (m : Machine) (steps more : List Step) → Along P m (steps ++ more) → Along P (after_steps m steps) more
along-rest P m [] more h = h
along-rest P m (s ∷ steps) more h = along-rest P s.after steps more h.1

-- no process is made
same-counted : (before after : ℕ) (e : Record) → after ≡ before → Counted before before e → Counted before after e
same-counted before after e same h = subst (λ (n : ℕ). Counted before n e) (sym same) h

signal-counted : (n pid signal address : ℕ) (cut : Bool) → Counted n n (entry.Signal pid signal cut address)
signal-counted n pid signal address cut = record { grows = refl; child = tt; start = refl; blocks = refl }

module _ (bounded : RequestsAreBounded) (counts : ProcessesCount) where
  delivery-many : (m : Machine) (pid signal address : ℕ) (cut : Bool) → length (delivering m pid signal address cut).kernel.processes ≡ length m.kernel.processes
  delivery-many m pid signal address cut = grind (arith, nat_tests)

  abbrev IfRight : Machine → Option Step → Type 0
  IfRight m None = Unit {0}
  IfRight m (Some s) = CountsRight m s

  delivery-right : (m : Machine) (pid : ℕ) (v : View) (o : Option ℕ) → IfRight m (delivery_of m pid v o)
  delivery-right m pid v o = grind (arith, nat_tests, same-counted, delivery-many, signal-counted)

  delivery-in-right : (m : Machine) (pid : ℕ) (o : Option View) → IfRight m (delivery_in m pid o)
  delivery-in-right m pid None = tt
  delivery-in-right m pid (Some v) = delivery-right m pid v (due_signal m pid v)

  plain-right : (m : Machine) (pid : ℕ) (v : View) (effect : Effect) → IfRight m (plain_by m pid v effect)
  plain-right m pid v (Next instr cpu memory) = record { counted = refl }
  plain-right m pid v _ = tt

  plain-in-right : (m : Machine) (pid : ℕ) (o : Option View) → IfRight m (plain_in m pid o)
  plain-in-right m pid None = tt
  plain-in-right m pid (Some v) = plain-right m pid v (stands_at v)

  then-right : (m : Machine) (o : Option Step) (rest : Machine → List Step) → IfRight m o → ((m : Machine) → Along CountsRight m (rest m)) → Along CountsRight m (steps_then o rest)
  then-right m None rest h k = tt
  then-right m (Some s) rest h k = (h, k s.after)

  plains-right : (n pid : ℕ) (m : Machine) → Along CountsRight m (plains n pid m)
  plains-right zero pid m = tt
  plains-right (suc n) pid m = then-right m (plain_in m pid (seen m.bodies pid)) (plains n pid) (plain-in-right m pid (seen m.bodies pid)) (plains-right n pid)

  -- what a live process sees is no longer than a window
  seen-small : (m : Machine) (pid : ℕ) (v : View) → IsSoundMachine m → seen m.bodies pid ≡ Some v → length v.window ≤ WINDOW_LEN
  seen-small m pid v h1 h2 = grind (arith, nat_tests)

  called-right : (m : Machine) (pid : ℕ) (v : View) (reply : Option Answered) → seen m.bodies pid ≡ Some v → (o : Option Doing) → does m pid v reply (request m pid v) ≡ o → IfRight m (option_map (call_step m pid v) o)
  called-right m pid v reply e None f = tt
  called-right m pid v reply e (Some d) f = record { counted = λ few sound. call-counted bounded counts m pid v reply d f few (seen-small m pid v sound e) }

  last-right : (m : Machine) (pid : ℕ) (v : View) (reply : Option Answered) → seen m.bodies pid ≡ Some v → (effect : Effect) → IfRight m (last_by m pid v reply effect)
  last-right m pid v reply h1 effect = grind (arith, nat_tests, called-right, same-counted)

  last-in-right : (m : Machine) (pid : ℕ) (reply : Option Answered) (o : Option View) → seen m.bodies pid ≡ o → IfRight m (last_in m pid reply o)
  last-in-right m pid reply None e = tt
  last-in-right m pid reply (Some v) e = last-right m pid v reply e (stands_at v)

  if-right : (m : Machine) (b : Bool) (o : Option Step) → IfRight m o → IfRight m (if b then o else None)
  if-right m true o h = h
  if-right m false o h = tt

  one-right : (m : Machine) (o : Option Step) → IfRight m o → Along CountsRight m (option_to_list o)
  one-right m None h = tt
  one-right m (Some s) h = (h, tt)

  rest-right : (n pid : ℕ) (reply : Option Answered) (m : Machine) → Along CountsRight m (plains n pid m ++ option_to_list (last_of n pid reply m (plains n pid m)))
  rest-right n pid reply m = grind (arith, nat_tests, along-append, plains-right, one-right, if-right, last-in-right)

  turn-right : (n pid : ℕ) (reply : Option Answered) (m : Machine) → Along CountsRight m (steps_of (turn n pid reply m))
  turn-right n pid reply m = grind (arith, nat_tests, delivery-in-right, rest-right)

  -- the boot makes process 1
  boot-right : (m : Machine) (path : List ℕ) (file : ℕ) (held : List TaggedByte) → is_booted m ≡ false → CountsRight m (boot_step m path file held)
  boot-right m path file held h1 = grind (arith, nat_tests, ltb-false)

  boots-right : (m : Machine) (path : List ℕ) → is_booted m ≡ false → (o : Option ℕ) → Along CountsRight m (boot_found m path o)
  boots-right m path first None = tt
  boots-right m path first (Some file) = by_bytes (file_bytes m.kernel.files file)
    where
      by_image : (held : List TaggedByte) (b : Bool) → Along CountsRight m (if b then boot_step m path file held ∷ [] else [])
      by_image held true = (boot-right m path file held first, tt)
      by_image held false = tt

      by_bytes : (o : Option (List TaggedByte)) → Along CountsRight m (boot_from m path file o)
      by_bytes None = tt
      by_bytes (Some held) = by_image held (is_image (values held))

  unless-booted : (m : Machine) (path : List ℕ) (b : Bool) → is_booted m ≡ b → Along CountsRight m (if b then [] else boot_found m path (find_file m.kernel.files path))
  unless-booted m path true e = tt
  unless-booted m path false e = boots-right m path e (find_file m.kernel.files path)

  if-one : (m : Machine) (b : Bool) (s : Step) → CountsRight m s → Along CountsRight m (if b then s ∷ [] else [])
  if-one m true s h = (h, tt)
  if-one m false s h = tt

  if-steps : (m : Machine) (b : Bool) (steps : List Step) → Along CountsRight m steps → Along CountsRight m (if b then steps else [])
  if-steps m true steps h = h
  if-steps m false steps h = tt

  input-right : (m : Machine) (i : Input) → Along CountsRight m (input_steps m i)
  input-right m i = grind (arith, nat_tests, if-one, unless-booted, if-steps, turn-right)

  pub all-right : (m : Machine) (inputs : List Input) → Along CountsRight m (steps_from m inputs)
  all-right m [] = tt
  all-right m (i ∷ inputs) = along-append CountsRight m (input_steps m i) (steps_from (after_input m i) inputs) (input-right m i) (all-right (after_input m i) inputs)
