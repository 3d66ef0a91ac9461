-- What the steps of every run tell.
use Rattle.std.proofs.lemmas.Grind.{common_steps}
use Rattle.std.proofs.lemmas.List.{length-replicate, length_push}
use Rattle.std.proofs.lemmas.Bool.Decides.{nat_tests}
use Rattle.parts_model.specs.declared.limits.TheConstants.{WINDOW_LEN}
use Rattle.parts_model.specs.Memory as memory
use Rattle.std.proofs.Common.{◌≡◌, ℕ, ◌+◌, ◌≤◌, List, [], ◌∷◌, ◌++◌, length, refl, sym, subst, Option, Some, None, Bool, true, false, ◌==◌, cond, if◌then◌else◌, arith, nat_lt, lt_of_le_of_lt, zero, suc, eq-eqb, ltb-false}
use Rattle.parts_model.specs.declared.open.Description.TheVariants.{Console}
use Rattle.parts_model.specs.declared.tagged.TaggedByte.{TaggedByte}
use Rattle.parts_model.specs.Files.{find_file, file_bytes}
use Rattle.parts_model.specs.Image.{is_image}
use Rattle.parts_model.specs.Processes as table
use Rattle.parts_model.specs.Tagged.{held_bytes, values}
use Rattle.acts_model.specs.Acts.{Starts, unborn, done, done_by}
use Rattle.acts_model.specs.Bodies.{Bodies, View, memory_at, seen, put}
use Rattle.arn_model.specs.Kernel as kernel
use Rattle.arn_model.specs.Kernel.{Kernel, Machine, at_first, also_held, placed, opens, no_handling}
use Rattle.arn_model.specs.Laws as laws
use Rattle.arn_model.specs.Run.{machine_from, Input, File, Boot, Typed, Unplug, Slice, is_booted, file_step, typed_step, unplug_step, boot_step, can_add, boot_from, boot_found, may_unplug, input_steps, after_input, steps_from, run}
use Rattle.arn_model.specs.Step.{Step}
use Rattle.arn_model.specs.Sound.{IsSound, IsSoundMachine}
use Rattle.arn_model.specs.Tells.{lives, StepTells, Boots, Adds, Types, Unplugs, HasNumbers, Along}
use Rattle.arn_model.specs.Turn.{after_steps, turn, steps_of, is_possible}
use Rattle.arn_model.proofs.Closing.{lives_in, quiet-opens, quiet-also_held, quiet-placed}
use Rattle.arn_model.proofs.Effects.{forked-process}
use Rattle.arn_model.proofs.Fitting.{BodiesFit, SmallView, fit-put, fit-same, after-fits}
use Rattle.arn_model.proofs.Naming.{made-sound}
use Rattle.arn_model.proofs.Places.{nobody-at}
use Rattle.arn_model.proofs.Quiet.{Quiet, quiet-trans}
use Rattle.arn_model.proofs.RunLemmas.{machine_from-steps}
use Rattle.arn_model.proofs.TurnTells.{MachineSound, StepGood, along-append, along-sound, turn-good}

-- the boot

-- the console is opened three times
opened-quiet : (k : Kernel) → Quiet k (placed 1 0 (also_held 0 (placed 1 0 (also_held 0 (opens 1 Console k)))))
opened-quiet k =
    let k1 = opens 1 Console k in
    let k2 = also_held 0 k1 in
    let k3 = placed 1 0 k2 in
    let k4 = also_held 0 k3 in
    let k5 = placed 1 0 k4 in
    quiet-trans k k1 k5 (quiet-opens 1 Console k (λ s. tt))
    (quiet-trans k1 k2 k5 (quiet-also_held 0 k1)
    (quiet-trans k2 k3 k5 (quiet-placed 1 0 k2)
    (quiet-trans k3 k4 k5 (quiet-also_held 0 k3) (quiet-placed 1 0 k4))))

-- with process 1 and its handling
abbrev first_made : Kernel → Kernel
first_made k = record k { processes = table.booted k.processes; handling = k.handling ++ Some no_handling ∷ [] }

first-lives : (k : Kernel) (q : ℕ) → lives (first_made k) q ≡ cond (q == length k.processes + 1) true (lives k q)
first-lives k q = grind (arith, nat_tests, forked-process, lives_in)

booted-others : (k : Kernel) (q : ℕ) → nat_lt 0 (length k.processes) ≡ false → (q == 1) ≡ false → lives (kernel.booted k) q ≡ lives k q
booted-others k q h1 h2 = grind (arith, common_steps, nat_tests, opened-quiet, ltb-false, first-lives)

booted-first : (k : Kernel) → nat_lt 0 (length k.processes) ≡ false → lives (kernel.booted k) 1 ≡ true
booted-first k h1 = grind (arith, common_steps, nat_tests, opened-quiet, ltb-false, first-lives, eq-eqb)

booted-sound : (k : Kernel) → IsSound k → IsSound (kernel.booted k)
booted-sound k s = (opened-quiet (first_made k)).sound (record { fits = s.fits; named = s.named; there = s.there })

booted-grows : (k : Kernel) → length k.processes ≤ length (kernel.booted k).processes
booted-grows k = grind (arith, common_steps, nat_tests, opened-quiet, length_push)

booted-few : (k : Kernel) → length (kernel.booted k).processes ≤ length k.processes + 1
booted-few k = grind (arith, common_steps, nat_tests, opened-quiet, length_push)

starts-fit : (event : ℕ) (file : List ℕ) (b : Bodies) (living : ℕ → Bool) → BodiesFit b living → BodiesFit (done 1 event (Starts file 0 0) b) living
starts-fit event file b living h = by_seen (seen b 1) refl
  where
    by_seen : (o : Option View) → seen b 1 ≡ o → BodiesFit (done 1 event (Starts file 0 0) b) living
    by_seen None e = subst (λ (o : Option View). BodiesFit (done_by 1 event (Starts file 0 0) o b) living) (sym e) h
    by_seen (Some v) e = after-fits 1 event (Starts file 0 0) v b living h e

unborn-window : (event : ℕ) → length (unborn event).window ≤ 262144
unfolding memory.zeros
unborn-window event = let e = length-replicate {A = ℕ} WINDOW_LEN 0 in omega arith

boot-good : (m : Machine) (path : List ℕ) (file : ℕ) (held : List TaggedByte) → MachineSound m → is_booted m ≡ false → find_file m.kernel.files path ≡ Some file → file_bytes m.kernel.files file ≡ Some held → is_image (values held) ≡ true → StepGood m (boot_step m path file held)
boot-good m path file held s first e f image =
    let living = lives (kernel.booted m.kernel) in
    let born : SmallView (unborn m.events) = record { window = unborn-window m.events; segment = omega arith } in
    record {
      sound =
          record {
            kernel = booted-sound m.kernel s.kernel;
            bodies = starts-fit m.events (values held) (put 1 (unborn m.events) m.bodies) living (fit-put m.bodies (lives m.kernel) living 1 (unborn m.events) s.bodies (booted-first m.kernel first) (λ q t. booted-others m.kernel q first t) born);
          };
      grows = booted-grows m.kernel;
      few = let f = booted-few m.kernel in omega arith;
      tells = λ few. Boots path file held first e f image refl;
    }

boot-found-good : (m : Machine) (path : List ℕ) → MachineSound m → is_booted m ≡ false → Along StepGood m (boot_found m path (find_file m.kernel.files path))
boot-found-good m path s first = by_name (find_file m.kernel.files path) refl
  where
    by_image : (file : ℕ) (held : List TaggedByte) → find_file m.kernel.files path ≡ Some file → file_bytes m.kernel.files file ≡ Some held → (b : Bool) → is_image (values held) ≡ b → Along StepGood m (if b then boot_step m path file held ∷ [] else [])
    by_image file held e f true i = (boot-good m path file held s first e f i, tt)
    by_image file held e f false i = tt

    by_bytes : (file : ℕ) → find_file m.kernel.files path ≡ Some file → (o : Option (List TaggedByte)) → file_bytes m.kernel.files file ≡ o → Along StepGood m (boot_from m path file o)
    by_bytes file h1 o h2 = grind (arith, nat_tests, by_image)

    by_name : (o : Option ℕ) → find_file m.kernel.files path ≡ o → Along StepGood m (boot_found m path o)
    by_name o h1 = grind (arith, nat_tests, by_bytes)

-- what comes from outside

file-good : (m : Machine) (path bytes : List ℕ) → MachineSound m → can_add m path bytes ≡ true → StepGood m (file_step m path bytes)
file-good m path bytes s e =
    record {
      sound = record { kernel = made-sound m.kernel path (held_bytes m.events bytes) s.kernel; bodies = fit-same m.bodies (lives m.kernel) (lives (file_step m path bytes).after.kernel) s.bodies (λ q. refl) };
      grows = omega arith;
      few = omega arith;
      tells = λ few. Adds path bytes e refl;
    }

typed-good : (m : Machine) (bytes : List ℕ) → MachineSound m → is_booted m ≡ true → StepGood m (typed_step m bytes)
typed-good m bytes s e =
    record {
      sound =
          record {
            kernel = record { fits = s.kernel.fits; named = s.kernel.named; there = s.kernel.there };
            bodies = fit-same m.bodies (lives m.kernel) (lives (typed_step m bytes).after.kernel) s.bodies (λ q. refl);
          };
      grows = omega arith;
      few = omega arith;
      tells = λ few. Types bytes e refl;
    }

unplug-good : (m : Machine) (device : ℕ) → MachineSound m → may_unplug m device ≡ true → StepGood m (unplug_step m device)
unplug-good m device s e =
    record {
      sound =
          record {
            kernel = record { fits = s.kernel.fits; named = s.kernel.named; there = s.kernel.there };
            bodies = fit-same m.bodies (lives m.kernel) (lives (unplug_step m device).after.kernel) s.bodies (λ q. refl);
          };
      grows = omega arith;
      few = omega arith;
      tells = λ few. Unplugs device e refl;
    }

pub input-good : (m : Machine) (i : Input) → MachineSound m → Along StepGood m (input_steps m i)
input-good m (File path bytes) s = by_test (can_add m path bytes) refl
  where
    by_test : (b : Bool) → can_add m path bytes ≡ b → Along StepGood m (if b then file_step m path bytes ∷ [] else [])
    by_test true e = (file-good m path bytes s e, tt)
    by_test false e = tt
input-good m (Boot path) s = by_test (is_booted m) refl
  where
    by_test : (b : Bool) → is_booted m ≡ b → Along StepGood m (if b then [] else boot_found m path (find_file m.kernel.files path))
    by_test b h1 = grind (arith, nat_tests, boot-found-good)
input-good m (Typed bytes) s = by_test (is_booted m) refl
  where
    by_test : (b : Bool) → is_booted m ≡ b → Along StepGood m (if b then typed_step m bytes ∷ [] else [])
    by_test true e = (typed-good m bytes s e, tt)
    by_test false e = tt
input-good m (Unplug device) s = by_test (may_unplug m device) refl
  where
    by_test : (b : Bool) → may_unplug m device ≡ b → Along StepGood m (if b then unplug_step m device ∷ [] else [])
    by_test true e = (unplug-good m device s e, tt)
    by_test false e = tt
input-good m (Slice pid count reply) s = by_test (is_possible m pid count)
  where
    by_test : (b : Bool) → Along StepGood m (if b then steps_of (turn count pid reply m) else [])
    by_test b = grind (arith, nat_tests, turn-good)

-- runs

pub steps-good : (m : Machine) (inputs : List Input) → MachineSound m → Along StepGood m (steps_from m inputs)
steps-good m [] s = tt
steps-good m (i ∷ inputs) s =
    let good = input-good m i s in
    along-append StepGood m (input_steps m i) (steps_from (after_input m i) inputs) good (steps-good (after_input m i) inputs (along-sound m (input_steps m i) s good))

none-lives : (q : ℕ) → false ≡ lives at_first.kernel q
none-lives zero = refl
none-lives (suc i) = refl

pub at_first-sound : MachineSound at_first
unfolding memory_at
at_first-sound = grind (arith, nat_tests, nobody-at, none-lives)

along-grows : (m : Machine) (steps : List Step) → Along StepGood m steps → length m.kernel.processes ≤ length (after_steps m steps).kernel.processes
along-grows m [] h = omega arith
along-grows m (s ∷ steps) h = let a = h.0.grows in let b = along-grows s.after steps h.1 in omega arith

along-few : (m : Machine) (steps : List Step) → Along StepGood m steps → length (after_steps m steps).kernel.processes + m.events ≤ length m.kernel.processes + (after_steps m steps).events
along-few m [] h = omega arith
along-few m (s ∷ steps) h = let a = h.0.few in let b = along-few s.after steps h.1 in omega arith

along-tells : (m : Machine) (steps : List Step) → Along StepGood m steps → HasNumbers (after_steps m steps).kernel → Along StepTells m steps
along-tells m [] h few = tt
along-tells m (s ∷ steps) h few = (h.0.tells (lt_of_le_of_lt (along-grows s.after steps h.1) few), along-tells s.after steps h.1 few)

pub steps-tell : laws.StepsTell
steps-tell inputs few =
    along-tells at_first (run inputs) (steps-good at_first inputs at_first-sound) (subst (λ (m : Machine). HasNumbers m.kernel) (machine_from-steps at_first inputs) few)

-- soundness along a run

sound-of : (m : Machine) → MachineSound m → IsSoundMachine m
sound-of m s = record { kernel = s.kernel; bodies = s.bodies.alive; memories = s.bodies.small }

along-all-sound : (m : Machine) (steps : List Step) → MachineSound m → Along StepGood m steps → Along (λ m s. IsSoundMachine m) m steps
along-all-sound m [] s h = tt
along-all-sound m (x ∷ steps) s h = (sound-of m s, along-all-sound x.after steps h.0.sound h.1)

along-numbers : (m : Machine) (steps : List Step) → Along StepGood m steps → Along laws.KeepsNumbers m steps
along-numbers m [] h = tt
along-numbers m (x ∷ steps) h = (h.0.grows, along-numbers x.after steps h.1)

pub runs-sound : laws.EachRunIsSound
runs-sound inputs =
    let good = steps-good at_first inputs at_first-sound in
    record {
      along = along-all-sound at_first (run inputs) at_first-sound good;
      last = sound-of (machine_from at_first inputs) (subst MachineSound (sym (machine_from-steps at_first inputs)) (along-sound at_first (run inputs) at_first-sound good));
      numbers = along-numbers at_first (run inputs) good;
      few = subst (λ (m : Machine). length m.kernel.processes ≤ m.events) (sym (machine_from-steps at_first inputs)) (let f = along-few at_first (run inputs) good in omega arith);
    }
