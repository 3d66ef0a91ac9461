-- The records of a run stand, input by input.
use Rattle.std.proofs.lemmas.Bool.Decides.{nat_tests}
use Rattle.std.proofs.Common.{◌≡◌, ℕ, zero, suc, ◌+◌, ◌≤◌, Bool, true, false, cond, List, [], ◌∷◌, ◌++◌, length, Option, Some, None, refl, sym, ap, subst, ◌∙◌, append-nil, arith}
use Rattle.std.proofs.lemmas.List.Sums.{sum_by-cons}
use Rattle.arn_base.specs.declared.records.Record.{Record}
use Rattle.parts_model.specs.declared.tagged.TaggedByte.{TaggedByte}
use Rattle.acts_model.specs.Moved.{KernelByte, is_instruction}
use Rattle.arn_model.specs.Kernel.{Machine, at_first}
use Rattle.arn_model.specs.Laws.{StepsTell, EachRunIsSound, EachRunAppends, KeepsNumbers, ProcessesCount, RequestsAreBounded}
use Rattle.arn_model.specs.Run.{Input, machine_after, run, state_at, steps_from, input_steps, after_input, within, unless_reached, instructions_in}
use Rattle.arn_model.specs.Sound.{IsSoundMachine}
use Rattle.arn_model.specs.Step.{Step}
use Rattle.arn_model.specs.Tells.{kernel_byte, lives, StepTells, HasNumbers, Along}
use Rattle.arn_model.specs.Turn.{after_steps}
use Rattle.history_model.specs.Moments.{total}
use Rattle.log_model.specs.Laws.{RecordsAppend}
use Rattle.log_model.specs.Records.{records, records_from, input_records}
use Rattle.replay_laws.specs.Laws.{RecordsTellRuns, RecordsTellMoments}
use Rattle.unbroken_laws.specs.Laws.{RunsAreUnbroken}
use Rattle.unbroken_laws.proofs.Inputs.{CountsRight, along-first, along-rest, all-right}
use Rattle.unbroken_laws.proofs.Steps.{Facts, Known}
use Rattle.unbroken_laws.proofs.Stands.{Stands, stands-none, stands-append}
use Rattle.unbroken_laws.proofs.Outside.{Says, input-comes}

-- what is known of each step
along-grows : (m : Machine) (steps : List Step) → Along KeepsNumbers m steps → length m.kernel.processes ≤ length (after_steps m steps).kernel.processes
along-grows m [] h = omega arith
along-grows m (s ∷ steps) h = let l : length m.kernel.processes ≤ length s.after.kernel.processes = h.0 in let r = along-grows s.after steps h.1 in omega arith

after-sound : (m : Machine) (s : Step) (steps : List Step) → Along (λ m s. IsSoundMachine m) s.after steps → IsSoundMachine (after_steps s.after steps) → IsSoundMachine s.after
after-sound m s [] h last = last
after-sound m s (r ∷ steps) h last = h.0

facts-along : (m : Machine) (steps : List Step) → Along StepTells m steps → Along (λ m s. IsSoundMachine m) m steps → IsSoundMachine (after_steps m steps) → Along KeepsNumbers m steps → Along CountsRight m steps → HasNumbers (after_steps m steps).kernel → Along Facts m steps
facts-along m [] tells sound last numbers right few = tt
facts-along m (s ∷ steps) tells sound last numbers right few =
    let grows = along-grows s.after steps numbers.1 in (
      record { tells = tells.0; sound = sound.0; later = after-sound m s steps sound.1 last; few = omega arith; right = right.0 },
      facts-along s.after steps tells.1 sound.1 last numbers.1 right.1 few,
    )

along-few : (m : Machine) (steps : List Step) → HasNumbers m.kernel → Along Facts m steps → HasNumbers (after_steps m steps).kernel
along-few m [] few h = few
along-few m (s ∷ steps) few h = along-few s.after steps h.0.few h.1

-- all steps are those up to the last instruction
instructions-cons : (s : Step) (steps : List Step) (b : Bool) → is_instruction s.moved.inside ≡ b → instructions_in (s ∷ steps) ≡ cond b 1 0 + instructions_in steps
instructions-cons s steps b is =
    let one : Step → ℕ = λ (x : Step). cond (is_instruction x.moved.inside) 1 0 in
    sum_by-cons one s steps ∙ ap (λ (b : Bool). cond b 1 0 + instructions_in steps) is

within-all : (moment : ℕ) (steps : List Step) → moment ≡ instructions_in steps → within moment steps ≡ steps
within-all moment [] e = refl
within-all moment (s ∷ steps) e = by_test (is_instruction s.moved.inside) refl moment e (λ left f. within-all left steps f)
  where
    by_test : (b : Bool) → is_instruction s.moved.inside ≡ b → (moment : ℕ) → moment ≡ instructions_in (s ∷ steps) → ((left : ℕ) → left ≡ instructions_in steps → within left steps ≡ steps) → unless_reached b moment (λ left. s ∷ within left steps) ≡ s ∷ steps
    by_test false is moment e all = let c = instructions-cons s steps false is in ap (λ (xs : List Step). s ∷ xs) (all moment (omega arith))
    by_test true is zero e all = let c = instructions-cons s steps true is in absurd (omega arith)
    by_test true is (suc left) e all = let c = instructions-cons s steps true is in ap (λ (xs : List Step). s ∷ xs) (all left (omega arith))

-- between inputs the records tell who lives
says : RecordsTellRuns → RecordsTellMoments → EachRunAppends → (done : List Input) → HasNumbers (machine_after done).kernel → Says (records done) (machine_after done)
says runs moments append done few =
    let told = runs done few in
    let moment = total (records done) in
    let all : state_at done moment ≡ machine_after done = ap (after_steps at_first) (within-all moment (run done) told.instructions) ∙ sym ((append at_first done []).reached) in
    record {
      booted = told.booted;
      living = λ pid. (moments done moment pid few).lives ∙ ap (λ (m : Machine). lives m.kernel pid) all;
    }

unbroken-from : RecordsTellRuns → RecordsTellMoments → EachRunAppends → RecordsAppend → (done rest : List Input) → HasNumbers (machine_after done).kernel → Along Facts (machine_after done) (steps_from (machine_after done) rest) → Known (records done) (machine_after done) → Stands (records done) (records_from (machine_after done) rest)
unbroken-from runs moments append adds done [] few facts known = tt
unbroken-from runs moments append adds done (i ∷ rest) few facts known =
    let m = machine_after done in
    let steps = input_steps m i in
    let m' = after_input m i in
    let entries = input_records i steps in
    let first = along-first Facts m steps (steps_from m' rest) facts in
    let comes = input-comes (records done) m i (says runs moments append done few) first known in
    let later = done ++ i ∷ [] in
    let told : records later ≡ records done ++ entries = adds done (i ∷ []) ∙ ap (λ (es : List Record). records done ++ es) (append-nil entries) in
    let reached : machine_after later ≡ m' = (append at_first done (i ∷ [])).machine in
    let few' : HasNumbers (machine_after later).kernel = subst (λ (x : Machine). HasNumbers x.kernel) (sym reached) (along-few m steps few first) in
    let facts' = subst (λ (x : Machine). Along Facts x (steps_from x rest)) (sym reached) (along-rest Facts m steps (steps_from m' rest) facts) in
    let known' : Known (records later) (machine_after later) = subst (λ (es : List Record). Known es (machine_after later)) (sym told) (subst (λ (x : Machine). Known (records done ++ entries) x) (sym reached) comes.known) in
    let stands = unbroken-from runs moments append adds later rest few' facts' known' in
    let there = subst (λ (x : Machine). Stands (records later) (records_from x rest)) reached stands in
    stands-append (records done) entries (records_from m' rest) comes.stands (subst (λ (es : List Record). Stands es (records_from m' rest)) told there)

-- at first the kernel holds nothing
console-none : (b : Bool) (h : TaggedByte) → cond b None (let none : Option TaggedByte = None in none) ≡ Some h → ⊥
console-none true h e = cc
console-none false h e = cc

none-held : (byte : KernelByte) (h : TaggedByte) → kernel_byte at_first.kernel byte ≡ Some h → ⊥
none-held byte h h1 = grind (arith, nat_tests, console-none)

first-known : Known [] at_first
first-known = record { counts = refl; lie = λ byte h e. absurd (none-held byte h e); most = refl }

pub unbroken : RequestsAreBounded → ProcessesCount → StepsTell → EachRunIsSound → EachRunAppends → RecordsAppend → RecordsTellRuns → RecordsTellMoments → RunsAreUnbroken
unbroken bounded counts tell sound append adds runs moments inputs few =
    let steps = run inputs in
    let sounds = sound inputs in
    let reached : machine_after inputs ≡ after_steps at_first steps = (append at_first inputs []).reached in
    let facts = facts-along at_first steps (tell inputs few) sounds.along (subst IsSoundMachine reached sounds.last) sounds.numbers (all-right bounded counts at_first inputs) (subst (λ (m : Machine). HasNumbers m.kernel) reached few) in
    stands-none [] (records inputs) (unbroken-from runs moments append adds [] inputs (omega arith) facts first-known)
