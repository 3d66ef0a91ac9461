-- How many events and instructions inputs have: no more than their records allow.
use Rattle.std.proofs.Common.{◌≡◌, ℕ, zero, suc, ◌+◌, ◌*◌, ◌≤◌, ◌++◌, Bool, true, false, cond, List, [], ◌∷◌, Option, None, Some, length, option_to_list, option_map, refl, arith, length-append}
use Rattle.std.proofs.lemmas.Bool.Decides.{nat_tests}
use Rattle.std.proofs.lemmas.List.Sums.{sum_by-append}
use Rattle.parts_model.specs.declared.limits.TheConstants.{MOST_SLICE}
use Rattle.parts_model.specs.declared.tagged.TaggedByte.{TaggedByte}
use Rattle.parts_model.specs.Files.{find_file, file_bytes}
use Rattle.parts_model.specs.Image.{is_image}
use Rattle.parts_model.specs.Replies.{Answered}
use Rattle.parts_model.specs.Tagged.{values}
use Rattle.rv64_model.specs.Instruction.{Effect, Next}
use Rattle.acts_model.specs.Bodies.{View, seen}
use Rattle.acts_model.specs.Moved.{is_instruction}
use Rattle.acts_model.specs.Views.{stands_at}
use Rattle.arn_model.specs.Doing.{Doing}
use Rattle.arn_model.specs.Kernel.{Machine, at_first}
use Rattle.arn_model.specs.Parts.{TurnsHaveParts}
use Rattle.arn_model.specs.Run.{Input, File, Boot, Typed, Unplug, Slice, after_input, boot_found, boot_from, boot_step, can_add, file_step, input_steps, instructions_in, is_booted, machine_from, may_unplug, steps_from, typed_step, unplug_step}
use Rattle.arn_model.specs.Step.{Step, call_step, delivery_of, due_signal, last_by, plain_by}
use Rattle.arn_model.specs.Turn.{after_first, after_steps, delivery_in, is_possible, last_in, plain_in, plains, steps_of, steps_then, turn}
use Rattle.log_model.specs.Records.{event_records, input_records, records_from, slice_records}
use Rattle.log_model.specs.Laws.{RecordsBound}
use Rattle.log_model.proofs.AgainLemmas.{turn-few}
use Rattle.log_model.proofs.RecordLemmas.{event_records-append}

-- steps that stand one behind the other
after_steps-append : (m : Machine) (steps more : List Step) → after_steps m (steps ++ more) ≡ after_steps (after_steps m steps) more
after_steps-append m [] more = refl
after_steps-append m (s ∷ steps) more = after_steps-append s.after steps more

instructions_in-append : (steps more : List Step) → instructions_in (steps ++ more) ≡ instructions_in steps + instructions_in more
instructions_in-append steps more = sum_by-append (λ (s : Step). cond (is_instruction s.moved.inside) 1 0) steps more

-- each event of these steps is counted
record Counts (m : Machine) (steps : List Step) : Type 0 where
  events : (after_steps m steps).events ≡ m.events + length (event_records steps)

Counts-append : (m : Machine) (steps more : List Step) → Counts m steps → Counts (after_steps m steps) more → Counts m (steps ++ more)
Counts-append m steps more h1 h2 = grind (arith, nat_tests, after_steps-append, event_records-append, length-append)

Counts-none : (m : Machine) → Counts m []
Counts-none m = record { events = omega arith }

-- the parts of a turn
delivery-counts : (m : Machine) (pid : ℕ) (v : View) (o : Option ℕ) → Counts m (option_to_list (delivery_of m pid v o))
delivery-counts m pid v None = Counts-none m
delivery-counts m pid v (Some signal) = record { events = refl }

delivery_in-counts : (m : Machine) (pid : ℕ) (o : Option View) → Counts m (option_to_list (delivery_in m pid o))
delivery_in-counts m pid None = Counts-none m
delivery_in-counts m pid (Some v) = delivery-counts m pid v (due_signal m pid v)

plain-counts : (m : Machine) (pid : ℕ) (v : View) (e : Effect) → Counts m (option_to_list (plain_by m pid v e))
plain-counts m pid v (Next instr cpu memory) = record { events = omega arith }
plain-counts m pid v _ = Counts-none m

plain_in-counts : (m : Machine) (pid : ℕ) (o : Option View) → Counts m (option_to_list (plain_in m pid o))
plain_in-counts m pid None = Counts-none m
plain_in-counts m pid (Some v) = plain-counts m pid v (stands_at v)

then-counts : (m : Machine) (o : Option Step) (rest : Machine → List Step) → Counts m (option_to_list o) → ((m : Machine) → Counts m (rest m)) → Counts m (steps_then o rest)
then-counts m None rest one more = Counts-none m
then-counts m (Some s) rest one more = Counts-append m (s ∷ []) (rest s.after) one (more s.after)

plains-counts : (n pid : ℕ) (m : Machine) → Counts m (plains n pid m)
plains-counts zero pid m = Counts-none m
plains-counts (suc n) pid m = then-counts m (plain_in m pid (seen m.bodies pid)) (plains n pid) (plain_in-counts m pid (seen m.bodies pid)) (plains-counts n pid)

call-counts : (m : Machine) (pid : ℕ) (v : View) (o : Option Doing) → Counts m (option_to_list (option_map (call_step m pid v) o))
call-counts m pid v None = Counts-none m
call-counts m pid v (Some d) = record { events = refl }

last-counts : (m : Machine) (pid : ℕ) (v : View) (reply : Option Answered) (e : Effect) → Counts m (option_to_list (last_by m pid v reply e))
last-counts m pid v reply e = grind (arith, nat_tests, Counts-none, call-counts)

last_in-counts : (m : Machine) (pid : ℕ) (reply : Option Answered) (o : Option View) → Counts m (option_to_list (last_in m pid reply o))
last_in-counts m pid reply None = Counts-none m
last_in-counts m pid reply (Some v) = last-counts m pid v reply (stands_at v)

if-counts : (m : Machine) (b : Bool) (o : Option Step) → Counts m (option_to_list o) → Counts m (option_to_list (cond b o None))
if-counts m true o counts = counts
if-counts m false o counts = Counts-none m

after-first : (m : Machine) (o : Option Step) → after_steps m (option_to_list o) ≡ after_first m o
after-first m None = refl
after-first m (Some s) = refl

turn-counts : (n pid : ℕ) (reply : Option Answered) (m : Machine) → Counts m (steps_of (turn n pid reply m))
turn-counts n pid reply m = grind (arith, nat_tests, Counts-append, delivery_in-counts, after-first, plains-counts, if-counts, last_in-counts)

-- an input's events and instructions, by its records
record Few (m : Machine) (i : Input) (steps : List Step) : Type 0 where
  events : (after_steps m steps).events ≤ m.events + length (input_records i steps)
  instructions : instructions_in steps ≤ MOST_SLICE * length (input_records i steps)

-- one step from outside
record IsOuter (m : Machine) (i : Input) (s : Step) : Type 0 where
  events : s.after.events ≡ m.events + 1
  recorded : length (input_records i (s ∷ [])) ≡ 1
  none : instructions_in (s ∷ []) ≡ 0

Few-none : (m : Machine) (i : Input) → Few m i []
Few-none m i = record { events = omega arith; instructions = omega arith }

Few-one : (m : Machine) (i : Input) (b : Bool) (s : Step) → IsOuter m i s → Few m i (cond b (s ∷ []) [])
Few-one m i true s is = record { events = omega (arith, is.events, is.recorded); instructions = omega (arith, is.none) }
Few-one m i false s is = Few-none m i

boot_from-few : (m : Machine) (path : List ℕ) (file : ℕ) (o : Option (List TaggedByte)) → Few m (Boot path) (boot_from m path file o)
boot_from-few m path file None = Few-none m (Boot path)
boot_from-few m path file (Some held) = Few-one m (Boot path) (is_image (values held)) (boot_step m path file held) (record { events = refl; recorded = refl; none = refl })

boot_found-few : (m : Machine) (path : List ℕ) (o : Option ℕ) → Few m (Boot path) (boot_found m path o)
boot_found-few m path None = Few-none m (Boot path)
boot_found-few m path (Some file) = boot_from-few m path file (file_bytes m.kernel.files file)

boot-few : (m : Machine) (path : List ℕ) (b : Bool) → Few m (Boot path) (cond b [] (boot_found m path (find_file m.kernel.files path)))
boot-few m path true = Few-none m (Boot path)
boot-few m path false = boot_found-few m path (find_file m.kernel.files path)

slice-long : (pid : ℕ) (steps : List Step) (ran : ℕ) → instructions_in steps ≡ ran → ran ≤ MOST_SLICE → (length (event_records steps) ≤ length (slice_records pid steps)) × (ran ≤ MOST_SLICE * length (slice_records pid steps))
slice-long pid [] ran is few = (omega arith, omega (arith, is))
slice-long pid (s ∷ steps) ran is few = (omega arith, omega (arith, few))

slice-few : TurnsHaveParts → (m : Machine) (pid count : ℕ) (reply : Option Answered) (b : Bool) → is_possible m pid count ≡ b → Few m (Slice pid count reply) (cond b (steps_of (turn count pid reply m)) [])
slice-few h1 m pid count reply b h2 = grind (arith, nat_tests, Few-none, slice-long, turn-few, turn-counts)

input-few : TurnsHaveParts → (m : Machine) (i : Input) → Few m i (input_steps m i)
input-few parts m (File path bytes) = Few-one m (File path bytes) (can_add m path bytes) (file_step m path bytes) (record { events = refl; recorded = refl; none = refl })
input-few parts m (Boot path) = boot-few m path (is_booted m)
input-few parts m (Typed bytes) = Few-one m (Typed bytes) (is_booted m) (typed_step m bytes) (record { events = refl; recorded = refl; none = refl })
input-few parts m (Unplug device) = Few-one m (Unplug device) (may_unplug m device) (unplug_step m device) (record { events = refl; recorded = refl; none = refl })
input-few parts m (Slice pid count reply) = slice-few parts m pid count reply (is_possible m pid count) refl

-- those of inputs
events-few : TurnsHaveParts → (m : Machine) (inputs : List Input) → (machine_from m inputs).events ≤ m.events + length (records_from m inputs)
events-few parts m [] = omega arith
events-few parts m (i ∷ inputs) = grind (arith, nat_tests, input-few parts m i, events-few parts (after_input m i) inputs, length-append (input_records i (input_steps m i)) (records_from (after_input m i) inputs))

instructions-few : TurnsHaveParts → (m : Machine) (inputs : List Input) → instructions_in (steps_from m inputs) ≤ MOST_SLICE * length (records_from m inputs)
instructions-few parts m [] = omega arith
instructions-few parts m (i ∷ inputs) = grind (arith, nat_tests, input-few parts m i, instructions-few parts (after_input m i) inputs, length-append (input_records i (input_steps m i)) (records_from (after_input m i) inputs), instructions_in-append (input_steps m i) (steps_from (after_input m i) inputs))

pub records-bound : TurnsHaveParts → RecordsBound
records-bound parts inputs =
    record { events = omega (arith, events-few parts at_first inputs); instructions = instructions-few parts at_first inputs }
