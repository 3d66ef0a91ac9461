-- How many instructions a group does.
use Rattle.std.proofs.lemmas.Bool.Decides.{nat_tests}
use Rattle.std.proofs.Common.{◌≡◌, ℕ, ◌+◌, ◌≤◌, ◌&&◌, ◌==◌, Bool, true, false, cond, not, if◌then◌else◌, List, [], ◌∷◌, count_by, Option, Some, None, refl, sym, ap, ◌∙◌, arith}
use Rattle.std.proofs.lemmas.List.Sums.{sum_by-append, sum_by-cons}
use Rattle.arn_base.specs.declared.records.Record.{Record}
use Rattle.arn_base.specs.declared.records.Record.TheVariants as entry
use Rattle.arn_base.specs.declared.records.Start.{Start}
use Rattle.acts_model.specs.Acts as act
use Rattle.acts_model.specs.Moved.{Event, Inside, is_instruction}
use Rattle.acts_model.specs.Records.{child_called, child_start}
use Rattle.acts_model.specs.Transfers.{Holds, transfer}
use Rattle.arn_model.specs.Kernel.{Machine, at_first}
use Rattle.arn_model.specs.Laws.{StepsTell}
use Rattle.arn_model.specs.Run.{Input, instructions_in, machine_after, run, unless_reached, within}
use Rattle.arn_model.specs.Step.{Step}
use Rattle.arn_model.specs.Tells.{Along, HasNumbers, StepTells}
use Rattle.history_model.specs.Alone.{begin_inside}
use Rattle.history_model.specs.Groups.{Groups, count_from, count_of, group_of}
use Rattle.history_model.specs.Moments.{total}
use Rattle.log_model.specs.Records.{records}
use Rattle.replay_laws.specs.Heard.{begin_by, begin_if, begin_part, is_own, own_part, part, parts}
use Rattle.replay_laws.specs.Laws.{GroupsPassThrough, RecordsTellRuns}
use Rattle.replay_steps.specs.Standing.{is_begin, is_counted}
use Rattle.replayer.specs.Bounds.{RunsBefore, count_before_from, ran_before}
use Rattle.unbroken_laws.specs.Laws.{RunsAreUnbroken}
use Rattle.view_laws.specs.Counts.{done_by}

-- behind the end a group has run all that it runs
module _ (g until : ℕ) (groups : Groups) where
  other-all : (moment x y : ℕ) (entries : List Record) → count_before_from g until moment groups entries ≡ y → 0 + count_before_from g until (moment + 0) groups entries ≡ 0 + y
  other-all moment x y entries e = let same : moment + 0 ≡ moment = omega arith in ap (λ (n : ℕ). 0 + count_before_from g until n groups entries) same ∙ ap (λ (n : ℕ). 0 + n) e

  all-before : (entries : List Record) (moment : ℕ) → moment + total entries ≤ until → count_before_from g until moment groups entries ≡ count_from g groups entries
  all-before [] moment h = refl
  all-before (entry.Slice pid ran ∷ entries) moment h = grind (arith, nat_tests, all-before entries (moment + ran) (omega (arith, h)))
  all-before (_ ∷ entries) moment h = other-all moment 0 _ entries (all-before entries moment (omega (arith, h)))

whole-count : (entries : List Record) (g until : ℕ) → total entries ≤ until → ran_before entries g until ≡ count_of entries g
whole-count entries g until h = all-before g until (group_of entries) entries 0 (omega (arith, h))

-- all steps of a run come up to its end
instructions-cons : (s : Step) (steps : List Step) → instructions_in (s ∷ steps) ≡ (if is_instruction s.moved.inside then 1 else 0) + instructions_in steps
instructions-cons s steps = sum_by-cons (λ (s : Step). cond (is_instruction s.moved.inside) 1 0) s steps

step-within : (b : Bool) (s : Step) (steps : List Step) → ((left : ℕ) → instructions_in steps ≤ left → within left steps ≡ steps) → (left : ℕ) → (if b then 1 else 0) + instructions_in steps ≤ left
    → unless_reached b left (λ left. s ∷ within left steps) ≡ s ∷ steps
step-within b s steps h1 left h2 = grind (arith, nat_tests)

all-within : (steps : List Step) (left : ℕ) → instructions_in steps ≤ left → within left steps ≡ steps
all-within [] left h = refl
all-within (s ∷ steps) left h = step-within (is_instruction s.moved.inside) s steps (all-within steps) left (omega (arith, h, instructions-cons s steps))

-- no step of a run is the begin of a group alone
act-is : (pid event : ℕ) (holds : Holds) (a : act.Act) → is_begin (transfer pid event holds a) ≡ false
act-is pid event holds (act.Returns result) = refl
act-is pid event holds _ = refl

begins-not : (m : Machine) (s : Step) → StepTells m s → is_begin s.moved.inside.transfer ≡ false
begins-not m s h1 = grind (arith, nat_tests, act-is)

-- what a group counts of a step
abbrev counted : List Inside → ℕ
counted heard = count_by is_counted heard

begin-none : (g child event : ℕ) (e : Record) (b : Bool) (start : Start) → counted (if b then begin_inside g event e start ∷ [] else []) ≡ 0
begin-none g child event e true start = refl
begin-none g child event e false start = refl

begin-if : (g child event : ℕ) (e : Record) (o : Option Start) → counted (begin_if g child event e o) ≡ 0
begin-if g child event e None = refl
begin-if g child event e (Some start) = begin-none g child event e (child == g) start

begin-by : (g event : ℕ) (e : Record) → counted (begin_by g event e) ≡ 0
begin-by g event (entry.Call pid number result more) = begin-if g result event (entry.Call pid number result more) (child_start (child_called number result more))
begin-by g event _ = refl

begin-part : (g : ℕ) (o : Option Event) → counted (begin_part g o) ≡ 0
begin-part g None = refl
begin-part g (Some event) = begin-by g event.number event.entry

own-count : (b : Bool) (i : Inside) → is_begin i.transfer ≡ false → counted (own_part b i) ≡ (if b && is_instruction i then 1 else 0)
own-count true i e = sum_by-cons (λ (i : Inside). cond (is_counted i) 1 0) i [] ∙ (ap (λ (b : Bool). cond (not b && is_instruction i) 1 0 + 0) e ∙ omega arith)
own-count false i e = refl

part-count : (groups : Groups) (g : ℕ) (i : Inside) → is_begin i.transfer ≡ false → counted (part groups g i) ≡ (if is_own groups g i.actor && is_instruction i then 1 else 0)
part-count groups g i h1 = grind (arith, nat_tests, sum_by-append, own-count, begin-part)

abbrev done : Groups → ℕ → List Step → ℕ
done groups g steps = count_by (λ s. is_own groups g s.moved.inside.actor && is_instruction s.moved.inside) steps

parts-count : (groups : Groups) (g : ℕ) (m : Machine) (steps : List Step) → Along StepTells m steps → counted (parts groups g steps) ≡ done groups g steps
parts-count groups g m [] all = refl
parts-count groups g m (s ∷ steps) all =
    let both = sum_by-append (λ (i : Inside). cond (is_counted i) 1 0) (part groups g s.moved.inside) (parts groups g steps) in
    let here = part-count groups g s.moved.inside (begins-not m s all.0) in
    let behind = parts-count groups g s.after steps all.1 in
    let split = sum_by-cons (λ (s : Step). cond (is_own groups g s.moved.inside.actor && is_instruction s.moved.inside) 1 0) s steps in
    omega (arith, both, here, behind, split)

pub count-told : (inputs : List Input) → HasNumbers (machine_after inputs).kernel → StepsTell → GroupsPassThrough → RecordsTellRuns → RunsAreUnbroken → RunsBefore → (g : ℕ) → count_of (records inputs) g ≡ done_by inputs g
count-told inputs few tell passes runs unbroken before g =
    let end = instructions_in (run inputs) in
    let groups = group_of (records inputs) in
    let through = passes inputs g end few in
    let told = (runs inputs few).instructions in
    sym (whole-count (records inputs) g end (omega (arith, told)))
    ∙ sym (before.exact (records inputs) g end through.own (unbroken inputs few) through.made)
    ∙ ap counted through.heard
    ∙ ap (λ (steps : List Step). counted (parts groups g steps)) (all-within (run inputs) end (omega arith))
    ∙ parts-count groups g at_first (run inputs) (tell inputs few)
