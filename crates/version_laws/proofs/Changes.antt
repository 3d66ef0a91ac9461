-- What each step of a run does to files.
use Rattle.std.proofs.Common.{◌≡◌, ℕ, zero, suc, ◌+◌, ◌≤◌, ◌&&◌, Bool, true, false, not, nat_lt, List, [], ◌∷◌, Option, None, Some, is_some, length, refl, sym, ap, subst, ◌∙◌, arith}
use Rattle.std.proofs.lemmas.Bool.Decides.{nat_tests}
use Rattle.std.proofs.lemmas.Bool.{not-true, and_parts}
use Rattle.arn_base.specs.declared.records.Record.{Record}
use Rattle.arn_base.specs.declared.records.Record.TheVariants as entry
use Rattle.parts_model.specs.Files.{Files, file_bytes, find_file, made, next_file}
use Rattle.parts_model.specs.Processes.{Processes, live_process}
use Rattle.parts_model.specs.Tagged.{held_bytes}
use Rattle.acts_model.specs.Bodies.{View, seen}
use Rattle.acts_model.specs.Moved.{is_instruction}
use Rattle.acts_model.specs.Records.{NoName, name_told, put_told}
use Rattle.arn_model.specs.Kernel.{Machine, at_first}
use Rattle.arn_model.specs.Laws.{EachRunAppends, EachRunIsSound, KeepsNumbers, StepsTell}
use Rattle.arn_model.specs.Run.{Input, is_booted, is_free, machine_after, run, state_at, within, unless_reached}
use Rattle.arn_model.specs.Sound.{IsSoundMachine}
use Rattle.arn_model.specs.Step.{Step}
use Rattle.arn_model.specs.Tells.{Adds, Along, Boots, FileAfter, FilesLast, Happens, HasNumbers, Runs, StepTells, Types, Unplugs, WritesInside, is_inner, named_after}
use Rattle.arn_model.specs.Turn.{after_steps}
use Rattle.history_model.specs.Names.{is_file}

-- what is known of each step
pub record Facts (m : Machine) (s : Step) : Type 0 where
  pub tells : StepTells m s
  pub sound : IsSoundMachine m
  pub numbers : KeepsNumbers m s

facts-along : (m : Machine) (steps : List Step) → Along StepTells m steps → Along (λ m s. IsSoundMachine m) m steps → Along KeepsNumbers m steps → Along Facts m steps
facts-along m [] tells sound numbers = tt
facts-along m (s ∷ steps) tells sound numbers = (record { tells = tells.0; sound = sound.0; numbers = numbers.0 }, facts-along s.after steps tells.1 sound.1 numbers.1)

run-facts : StepsTell → EachRunIsSound → (inputs : List Input) → HasNumbers (machine_after inputs).kernel → Along Facts at_first (run inputs)
run-facts tell sound inputs few = facts-along at_first (run inputs) (tell inputs few) (sound inputs).along (sound inputs).numbers

-- where a process is seen one was made, and it is never taken out of the table
none-live : (pid : ℕ) → is_some (live_process [] pid) ≡ true → ⊥
none-live zero is = cc
none-live (suc i) is = cc

made-of : (all : Processes) (pid : ℕ) → is_some (live_process all pid) ≡ true → nat_lt 0 (length all) ≡ true
made-of [] pid is = absurd (none-live pid is)
made-of (x ∷ all) pid is = grind (arith, nat_tests)

seen-booted : (m : Machine) (s : Step) (pid : ℕ) (v : View) → Facts m s → seen m.bodies pid ≡ Some v → is_booted m ≡ true
seen-booted m s pid v h1 h2 = grind (arith, nat_tests, made-of)

stays : (a b : ℕ) → a ≤ b → nat_lt 0 a ≡ true → nat_lt 0 b ≡ true
stays a b h e = grind (arith, nat_tests)

stays-booted : (m : Machine) (s : Step) → Facts m s → is_booted m ≡ true → is_booted s.after ≡ true
stays-booted m s facts is = stays (length m.kernel.processes) (length s.after.kernel.processes) facts.numbers is

-- an event that brings no file changes files as its record tells
pub record Changes (event : ℕ) (e : Record) (old new : Files) : Type 0 where
  pub file : is_file e ≡ false
  pub names : (path : List ℕ) → find_file new path ≡ named_after (name_told e) path (find_file old path)
  pub files : (file : ℕ) → FileAfter event e file (file_bytes old file) (file_bytes new file)
  pub last : FilesLast old new
  pub writes : WritesInside old (put_told e)

-- where names and writes are none of its matters, files are the same
changes-none : (event : ℕ) (e : Record) (files : Files) → is_file e ≡ false → name_told e ≡ NoName → put_told e ≡ None → Changes event e files files
changes-none event e files h1 h2 h3 = grind (arith, nat_tests)

inner-none : (e : Record) → is_inner e ≡ true → is_file e ≡ false
inner-none (entry.File path bytes) is = cc
inner-none _ is = refl

-- the event of a step
abbrev pub IsEvent : Machine → Step → Record → Type 0
IsEvent m s e = (s.moved.inside.event ≡ Some (record { number = m.events; entry = e })) × (s.after.events ≡ m.events + 1)

-- where no process was made after it, nor was one before it, and no file was made
abbrev pub MakesNone : Machine → Step → Type 0
MakesNone m s = is_booted s.after ≡ false → (is_booted m ≡ false) × (next_file s.after.kernel.files ≡ next_file m.kernel.files)

-- a step is no event, brings a file before any process was made, or is an event that changes files as its record tells
pub data FileStep (m : Machine) (s : Step) : Type 0 where
  Stays : s.moved.inside.event ≡ None → s.after.events ≡ m.events → s.after.kernel.files ≡ m.kernel.files → MakesNone m s → FileStep m s
  Brings : (path bytes : List ℕ) → IsEvent m s (entry.File path bytes) → is_booted m ≡ false → find_file m.kernel.files path ≡ None
      → s.after.kernel.files ≡ made m.kernel.files path (held_bytes m.events bytes) → FileStep m s
  Changing : (e : Record) → IsEvent m s e → Changes m.events e m.kernel.files s.after.kernel.files → MakesNone m s → FileStep m s

free-none : (o : Option ℕ) (b : Bool) → (not (is_some o) && b) ≡ true → o ≡ None
free-none None b e = refl
free-none (Some x) b e = cc

not-both : (b : Bool) → b ≡ true → b ≡ false → ⊥
not-both b e f = cc

pub file-step : (m : Machine) (s : Step) → Facts m s → FileStep m s
file-step m s facts = by_kind facts.tells
  where
    there : (x : Step) → s ≡ x → FileStep m x → FileStep m s
    there x same r = subst (FileStep m) (sym same) r

    by_kind : StepTells m s → FileStep m s
    by_kind (Runs pid v instr cpu memory sees stands same) = there _ same (Stays refl refl refl (λ none. (none, refl)))
    by_kind (Happens pid v d e tells same) =
        let after : is_booted s.after ≡ true = stays-booted m s facts (seen-booted m s pid v facts tells.seen) in
        there _ same
        (Changing e (refl, refl)
        (record { file = inner-none e tells.inner; names = tells.names; files = tells.files; last = tells.last; writes = tells.writes })
        (λ none. absurd (not-both (is_booted s.after) after (ap (λ (x : Step). is_booted x.after) same ∙ none))))
    by_kind (Boots path file held first found bytes image same) =
        there _ same (Changing _ (refl, refl) (changes-none m.events _ m.kernel.files refl refl refl) (λ none. (first, refl)))
    by_kind (Adds path bytes may same) =
        there _ same
        (Brings path bytes (refl, refl)
        (not-true (is_booted m) (and_parts (not (is_booted m)) _ may).0)
        (free-none (find_file m.kernel.files path) _ (and_parts (is_free m.kernel.files path) _ (and_parts (not (is_booted m)) _ may).1).0) refl)
    by_kind (Types bytes may same) = there _ same (Changing _ (refl, refl) (changes-none m.events _ m.kernel.files refl refl refl) (λ none. (none, refl)))
    by_kind (Unplugs device may same) = there _ same (Changing _ (refl, refl) (changes-none m.events _ m.kernel.files refl refl refl) (λ none. (none, refl)))

-- so it is with all steps up to a moment, and the machine there is sound
within-along : (P : Machine → Step → Type 0) (m : Machine) (left : ℕ) (steps : List Step) → Along P m steps → Along P m (within left steps)
within-along P m left [] h = tt
within-along P m left (s ∷ steps) h = by_test (is_instruction s.moved.inside) left (λ left. within-along P s.after left steps h.1)
  where
    by_test : (b : Bool) (left : ℕ) → ((left : ℕ) → Along P s.after (within left steps)) → Along P m (unless_reached b left (λ left. s ∷ within left steps))
    by_test b left h1 = grind (arith, nat_tests)

along-file : (m : Machine) (steps : List Step) → Along Facts m steps → Along FileStep m steps
along-file m [] h = tt
along-file m (s ∷ steps) h = (file-step m s h.0, along-file s.after steps h.1)

within-sound : (m : Machine) (left : ℕ) (steps : List Step) → Along (λ m s. IsSoundMachine m) m steps → IsSoundMachine (after_steps m steps) → IsSoundMachine (after_steps m (within left steps))
within-sound m left [] h last = last
within-sound m left (s ∷ steps) h last = by_test (is_instruction s.moved.inside) left (λ left. within-sound s.after left steps h.1 last)
  where
    by_test : (b : Bool) (left : ℕ) → ((left : ℕ) → IsSoundMachine (after_steps s.after (within left steps))) → IsSoundMachine (after_steps m (unless_reached b left (λ left. s ∷ within left steps)))
    by_test b left h1 = grind (arith, nat_tests)

pub steps-change : StepsTell → EachRunIsSound → (inputs : List Input) (moment : ℕ) → HasNumbers (machine_after inputs).kernel → Along FileStep at_first (within moment (run inputs))
steps-change tell sound inputs moment few =
    along-file at_first (within moment (run inputs)) (within-along Facts at_first moment (run inputs) (run-facts tell sound inputs few))

pub state-sound : EachRunIsSound → EachRunAppends → (inputs : List Input) (moment : ℕ) → IsSoundMachine (state_at inputs moment)
state-sound sound append inputs moment =
    within-sound at_first moment (run inputs) (sound inputs).along (subst IsSoundMachine ((append at_first inputs []).reached) (sound inputs).last)
