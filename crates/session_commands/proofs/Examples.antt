-- Literal examples of what commands do, and why lines are refused.
use Rattle.std.proofs.Common.{◌≡◌, ℕ, ◌++◌, [], ◌∷◌, List, Option, None, Some, Bool, false, true, refl, arith}
use Rattle.arn_base.specs.declared.boxes.Choice.{Choice}
use Rattle.arn_base.specs.declared.records.Record.{Record}
use Rattle.arn_base.specs.declared.records.Record.TheVariants as entry
use Rattle.log_store.specs.Stores.{StoreState}
use Rattle.arn_lines.specs.declared.answer.Refusal.TheVariants.{NoBoot, NoBooted, NoAsm, NoName, NoImage, NoDevice, NoLong}
use Rattle.arn_lines.specs.declared.line.Line.TheVariants as line
use Rattle.arn_lines.specs.declared.line.Question.{Question}
use Rattle.arn_lines.specs.Texts.{refusal_text}
use Rattle.arn_commands.specs.declared.command.Command.TheVariants.{PassedOver, TooLong, Says, Generates}
use Rattle.session_effects.specs.Effects.{Prints}
use Rattle.session_effects.specs.declared.halt.Halt.TheVariants as halt
use Rattle.session_model.specs.Questions.{Told}
use Rattle.session_runs.specs.Points.{around}
use Rattle.session_commands.specs.Answering.{IsNotBegun}
use Rattle.session_runs.specs.Standing.{Standpoint, standpoint}
use Rattle.session_commands.specs.Generator.{gen_name}
use Rattle.session_commands.specs.Given.{Given, given}
use Rattle.session_commands.specs.Lines.{needs_machine, turn}
use Rattle.session_commands.specs.Refusals.{fault_refusal, generator_refusal}
use Rattle.session_commands.specs.Rows.{row_of}

-- a history that brought a file `a` of one byte, and one that booted behind it
a_file : List Record
a_file = entry.File (97 ∷ []) (1 ∷ []) ∷ []

a_boot : List Record
a_boot = entry.File (97 ∷ []) (1 ∷ []) ∷ entry.Boot (97 ∷ []) (record { bytes = []; origins = [] }) ∷ []

-- nothing runs before a boot, and nothing is typed
runs_early : (g : Given) → (row_of g [] (line.Run 5)).refusal ≡ Some NoBoot
runs_early g = refl

types_early : (g : Given) → (row_of g [] (line.Type (104 ∷ []))).refusal ≡ Some NoBoot
types_early g = refl

-- nor is a device unplugged, which is told first
unplugs_early : (g : Given) → (row_of g [] (line.Unplug 0)).refusal ≡ Some NoBoot
unplugs_early g = refl

-- behind it one is that is there, if the history didn't unplug it
unplugs_none : (told : Told) → (row_of (given told (λ n. false)) a_boot (line.Unplug 0)).refusal ≡ Some NoDevice
unfolding a_boot
unplugs_none told = refl

unplugs_one : (told : Told) → (row_of (given told (λ n. true)) a_boot (line.Unplug 3)).refusal ≡ None
unfolding a_boot
unplugs_one told = refl

unplugs_again : (told : Told) → (row_of (given told (λ n. true)) (a_boot ++ entry.Unplug 3 ∷ []) (line.Unplug 3)).refusal ≡ Some NoDevice
unfolding a_boot
unplugs_again told = refl

unplugs_another : (told : Told) → (row_of (given told (λ n. true)) (a_boot ++ entry.Unplug 3 ∷ []) (line.Unplug 2)).refusal ≡ None
unfolding a_boot
unplugs_another told = refl

-- a device's number has 32 bits
unplugs_far : (told : Told) → (row_of (given told (λ n. true)) a_boot (line.Unplug 4294967296)).refusal ≡ Some NoDevice
unfolding a_boot
unplugs_far told = refl

-- behind it nothing is brought, and nothing boots again
brings_late : (g : Given) → (row_of g a_boot (line.File (98 ∷ []) [])).refusal ≡ Some NoBooted
unfolding a_boot
brings_late g = refl

boots_again : (g : Given) → (row_of g a_boot (line.Boot (97 ∷ []))).refusal ≡ Some NoBooted
unfolding a_boot
boots_again g = refl

-- a name is brought once; one that wasn't can't be booted from, and neither can one byte
brings_twice : (g : Given) → (row_of g a_file (line.File (97 ∷ []) [])).refusal ≡ Some NoName
unfolding a_file
brings_twice g = refl

brings_another : (g : Given) → (row_of g a_file (line.File (98 ∷ []) [])).refusal ≡ None
unfolding a_file
brings_another g = refl

boots_nothing : (g : Given) → (row_of g a_file (line.Boot (98 ∷ []))).refusal ≡ Some NoName
unfolding a_file
boots_nothing g = refl

boots_a_byte : (g : Given) → (row_of g a_file (line.Boot (97 ∷ []))).refusal ≡ Some NoImage
unfolding a_file
boots_a_byte g = refl

-- a question isn't refused
asks : (g : Given) (q : Question) → (row_of g [] (line.Asks q)).refusal ≡ None
asks g q = refl

-- a faulty program is told before a boot alone
faulty_early : fault_refusal [] 7 ≡ NoAsm 7
faulty_early = refl

faulty_late : fault_refusal a_boot 7 ≡ NoBooted
unfolding a_boot
faulty_late = refl

-- the generator's file is brought before a boot, once
generates_late : generator_refusal a_boot ≡ Some NoBooted
unfolding a_boot
generates_late = refl

generates_twice : generator_refusal (entry.File gen_name [] ∷ []) ≡ Some NoName
generates_twice = refl

generates_late_why : (g : Given) → (turn g a_boot (Generates [] [] 1) []).effects ≡ Prints (refusal_text NoBooted) ∷ []
unfolding a_boot
generates_late_why g = refl

generates_by_machine : (g : Given) → needs_machine g a_file (Generates [] [] 1) ≡ true
unfolding a_file
generates_by_machine g = refl

-- a refused line prints why, commits nothing and needs no machine
prints_why : (g : Given) → (turn g [] (Says (line.Run 5)) []).effects ≡ Prints (refusal_text NoBoot) ∷ []
prints_why g = refl

needs_none : (g : Given) → needs_machine g [] (Says (line.Run 5)) ≡ false
needs_none g = refl

needs_one : (g : Given) → needs_machine g a_boot (Says (line.Run 5)) ≡ true
unfolding a_boot
needs_one g = refl

-- an empty line does nothing, and one that is too long is refused
passes_over : (g : Given) → (turn g a_file PassedOver []).effects ≡ []
passes_over g = refl

too_long : (g : Given) → (turn g [] TooLong []).effects ≡ Prints (refusal_text NoLong) ∷ []
too_long g = refl

-- a question's answer is printed, and takes no slice
answers : (g : Given) (q : Question) → (turn g [] (Says (line.Asks q)) []).effects ≡ Prints (g.told.text [] q) ∷ []
answers g q = refl

-- no machine was made where memory ran out and nothing was done
not_begun : {D A : Type 0} (at : Standpoint D A) → IsNotBegun halt.NoMemory true at at
not_begun at = record {
  not_made = tt;
  untouched = record { disk = refl; store = refl; held = refl; choices = λ k. refl; answers = refl };
  executed = omega arith;
}

-- a sink keeps none from being made, and where it is there nothing is run for it
begun_by_sink : {D A : Type 0} (is_there : Bool) (old new : Standpoint D A) → IsNotBegun halt.Sink is_there old new → ⊥
begun_by_sink is_there old new p = p.not_made

begun_by_steps : {D A : Type 0} (disk : D) (store : StoreState) (choices : ℕ → Option Choice) (answers : A) → IsNotBegun halt.NoMemory true (standpoint disk store None (around choices answers 5)) (standpoint disk store None (around choices answers 6)) → ⊥
begun_by_steps disk store choices answers p = omega (arith, p.executed)
