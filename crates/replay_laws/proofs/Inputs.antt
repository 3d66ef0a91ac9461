-- What each input of a run does: nothing, one step from outside, the boot, or a turn.
use Rattle.std.proofs.Common.{◌≡◌, ℕ, ◌≤◌, ◌<◌, ◌+◌, List, [], ◌∷◌, length, refl, ap, ◌∙◌, Option, Some, None, Bool, true, false, arith}
use Rattle.std.proofs.lemmas.Bool.Decides.{nat_tests}
use Rattle.std.proofs.lemmas.Bool.{cond-true, cond-false, and_parts, lt-ltb}
use Rattle.arn_base.specs.declared.records.Record.{Record}
use Rattle.arn_base.specs.declared.records.Record.TheVariants as entry
use Rattle.parts_model.specs.declared.tagged.TaggedByte.{TaggedByte}
use Rattle.parts_model.specs.Files.{find_file, file_bytes}
use Rattle.parts_model.specs.Image.{is_image}
use Rattle.parts_model.specs.Replies.{Answered}
use Rattle.parts_model.specs.Tagged.{values}
use Rattle.acts_model.specs.Bodies.{View, seen}
use Rattle.acts_model.specs.Moved.{is_instruction}
use Rattle.arn_model.specs.Kernel.{Machine}
use Rattle.arn_model.specs.Run.{Input, File, Boot, Typed, Unplug, Slice, input_steps, after_input, steps_from, is_booted, can_add, may_unplug, boot_found, boot_from, boot_step, file_step, typed_step, unplug_step}
use Rattle.arn_model.specs.Sound.{IsSoundMachine}
use Rattle.arn_model.specs.Step.{Step}
use Rattle.arn_model.specs.Tells.{Along}
use Rattle.arn_model.specs.Turn.{after_steps, turn, steps_of, can_go_on, is_runnable, is_possible}
use Rattle.history_model.specs.Alone.{Standing, after_record}
use Rattle.history_model.specs.Groups.{Groups, groups_told, groups_from}
use Rattle.log_model.specs.Records.{event_records, slice_records, input_records, records_from}
use Rattle.replay_laws.specs.Heard.{part}
use Rattle.replay_laws.proofs.Late.{groups-append}
use Rattle.replay_laws.proofs.Steps.{Known, along-first, along-rest, next, live-number, seen-lives, told, records-told, told-groups}

-- a step from outside, which concerns no group
pub record IsOutside (m : Machine) (s : Step) (r : Record) : Type 0 where
  pub records : event_records (s ∷ []) ≡ r ∷ []
  pub bodies : s.after.bodies ≡ m.bodies
  pub events : s.after.events ≡ m.events + 1
  pub booted : is_booted s.after ≡ is_booted m
  pub uncounted : is_instruction s.moved.inside ≡ false
  pub part : (gs : Groups) (g : ℕ) → part gs g s.moved.inside ≡ []
  pub stands : (g until : ℕ) (t : Standing) → after_record g until t r ≡ record t { events = t.events + 1 }
  pub groups : (gs : Groups) → groups_told r gs ≡ gs

pub data Takes (m : Machine) (i : Input) : Type 0 where
  Rests : input_steps m i ≡ [] → Takes m i
  Comes : (s : Step) (r : Record) → input_steps m i ≡ s ∷ [] → ((steps : List Step) → input_records i steps ≡ event_records steps) → IsOutside m s r → Takes m i
  Begins : (path : List ℕ) (file : ℕ) (held : List TaggedByte) → input_steps m i ≡ boot_step m path file held ∷ [] → ((steps : List Step) → input_records i steps ≡ event_records steps)
      → is_booted m ≡ false → is_image (values held) ≡ true → Takes m i
  Turns : (pid count : ℕ) (reply : Option Answered) (v : View) → input_steps m i ≡ steps_of (turn count pid reply m) → ((steps : List Step) → input_records i steps ≡ slice_records pid steps)
      → seen m.bodies pid ≡ Some v → Takes m i

boot-takes : (m : Machine) (path : List ℕ) → is_booted m ≡ false → Takes m (Boot path)
boot-takes m path first = by_name (find_file m.kernel.files path) refl
  where
    steps : input_steps m (Boot path) ≡ boot_found m path (find_file m.kernel.files path)
    steps = cond-false (is_booted m) [] (boot_found m path (find_file m.kernel.files path)) first

    by_image : (file : ℕ) (held : List TaggedByte) → input_steps m (Boot path) ≡ boot_from m path file (Some held) → (b : Bool) → is_image (values held) ≡ b → Takes m (Boot path)
    by_image file held is true e = Begins path file held (is ∙ cond-true (is_image (values held)) (boot_step m path file held ∷ []) [] e) (λ steps. refl) first e
    by_image file held is false e = Rests (is ∙ cond-false (is_image (values held)) (boot_step m path file held ∷ []) [] e)

    by_bytes : (file : ℕ) → input_steps m (Boot path) ≡ boot_found m path (Some file) → (o : Option (List TaggedByte)) → file_bytes m.kernel.files file ≡ o → Takes m (Boot path)
    by_bytes file is None e = Rests (is ∙ ap (boot_from m path file) e)
    by_bytes file is (Some held) e = by_image file held (is ∙ ap (boot_from m path file) e) (is_image (values held)) refl

    by_name : (o : Option ℕ) → find_file m.kernel.files path ≡ o → Takes m (Boot path)
    by_name None e = Rests (steps ∙ ap (boot_found m path) e)
    by_name (Some file) e = by_bytes file (steps ∙ ap (boot_found m path) e) (file_bytes m.kernel.files file) refl

sees-of : (m : Machine) (pid : ℕ) (o : Option View) → can_go_on m pid o ≡ true → (v : View) × (o ≡ Some v)
sees-of m pid None e = absurd (let no : false ≡ true = e in cc)
sees-of m pid (Some v) e = (v, refl)

pub takes : (m : Machine) (i : Input) → Takes m i
takes m (File path bytes) = by_test (can_add m path bytes) refl
  where
    by_test : (b : Bool) → can_add m path bytes ≡ b → Takes m (File path bytes)
    by_test true e = Comes (file_step m path bytes) (entry.File path bytes) (cond-true (can_add m path bytes) (file_step m path bytes ∷ []) [] e) (λ steps. refl) (record { records = refl; bodies = refl; events = refl; booted = refl; uncounted = refl; part = λ gs g. refl; stands = λ g until t. refl; groups = λ gs. refl })
    by_test false e = Rests (cond-false (can_add m path bytes) (file_step m path bytes ∷ []) [] e)
takes m (Boot path) = by_test (is_booted m) refl
  where
    by_test : (b : Bool) → is_booted m ≡ b → Takes m (Boot path)
    by_test true e = Rests (cond-true (is_booted m) [] (boot_found m path (find_file m.kernel.files path)) e)
    by_test false e = boot-takes m path e
takes m (Typed bytes) = by_test (is_booted m) refl
  where
    by_test : (b : Bool) → is_booted m ≡ b → Takes m (Typed bytes)
    by_test true e = Comes (typed_step m bytes) (entry.Typed bytes) (cond-true (is_booted m) (typed_step m bytes ∷ []) [] e) (λ steps. refl) (record { records = refl; bodies = refl; events = refl; booted = refl; uncounted = refl; part = λ gs g. refl; stands = λ g until t. refl; groups = λ gs. refl })
    by_test false e = Rests (cond-false (is_booted m) (typed_step m bytes ∷ []) [] e)
takes m (Unplug device) = by_test (may_unplug m device) refl
  where
    by_test : (b : Bool) → may_unplug m device ≡ b → Takes m (Unplug device)
    by_test true e = Comes (unplug_step m device) (entry.Unplug device) (cond-true (may_unplug m device) (unplug_step m device ∷ []) [] e) (λ steps. refl) (record { records = refl; bodies = refl; events = refl; booted = refl; uncounted = refl; part = λ gs g. refl; stands = λ g until t. refl; groups = λ gs. refl })
    by_test false e = Rests (cond-false (may_unplug m device) (unplug_step m device ∷ []) [] e)
takes m (Slice pid count reply) = by_test (is_possible m pid count) refl
  where
    by_test : (b : Bool) → is_possible m pid count ≡ b → Takes m (Slice pid count reply)
    by_test true e =
        let sees = sees-of m pid (seen m.bodies pid) (and_parts (is_runnable m pid) _ e).0 in
        Turns pid count reply sees.0 (cond-true (is_possible m pid count) (steps_of (turn count pid reply m)) [] e) (λ steps. refl) sees.1
    by_test false e = Rests (cond-false (is_possible m pid count) (steps_of (turn count pid reply m)) [] e)

-- an input that does nothing has no records
pub none-recorded : (i : Input) → input_records i [] ≡ []
none-recorded i = grind (arith, nat_tests)

-- numbers that are given keep their groups over all that is to come
slice-groups : (pid : ℕ) (steps : List Step) (gs : Groups) → groups_from (slice_records pid steps) gs ≡ groups_from (event_records steps) gs
slice-groups pid [] gs = refl
slice-groups pid (s ∷ steps) gs = refl

pub input-groups : (i : Input) (steps : List Step) (gs : Groups) → groups_from (input_records i steps) gs ≡ groups_from (told steps) gs
input-groups i steps gs = grind (arith, nat_tests, records-told, slice-groups)

pub along-numbers : (m : Machine) (steps : List Step) → Along Known m steps → length m.kernel.processes ≤ length (after_steps m steps).kernel.processes
along-numbers m [] h = omega arith
along-numbers m (s ∷ steps) h = let a = h.0.numbers in let b = along-numbers s.after steps h.1 in omega arith

pub later-groups : (m : Machine) (inputs : List Input) (gs : Groups) (q : ℕ) → Along Known m (steps_from m inputs) → q < next m → groups_from (records_from m inputs) gs q ≡ gs q
later-groups m [] gs q h l = refl
later-groups m (i ∷ inputs) gs q h l =
    let steps = input_steps m i in
    let m' = after_input m i in
    let first = along-first Known m steps (steps_from m' inputs) h in
    let grown = along-numbers m steps first in
    ap (λ (x : Groups). x q) (groups-append (input_records i steps) (records_from m' inputs) gs)
    ∙ (later-groups m' inputs (groups_from (input_records i steps) gs) q (along-rest Known m steps (steps_from m' inputs) h) (omega arith)
    ∙ (ap (λ (x : Groups). x q) (input-groups i steps gs)
    ∙ told-groups m steps gs q first l))

-- a machine is sound where the last one is
pub sound-first : (m : Machine) (steps : List Step) → Along Known m steps → IsSoundMachine (after_steps m steps) → IsSoundMachine m
sound-first m [] h s = s
sound-first m (x ∷ steps) h s = h.0.sound

-- once a process has seen something, the machine stays booted
seen-booted : (m : Machine) (p : ℕ) (v : View) → IsSoundMachine m → seen m.bodies p ≡ Some v → 0 < length m.kernel.processes
seen-booted m p v h1 h2 = grind (arith, nat_tests, live-number, seen-lives)

pub stays-booted : (m : Machine) (p : ℕ) (v : View) (steps : List Step) → IsSoundMachine m → seen m.bodies p ≡ Some v → Along Known m steps → is_booted (after_steps m steps) ≡ true
stays-booted m p v steps h1 h2 h3 = grind (arith, nat_tests, along-numbers, lt-ltb, seen-booted)
