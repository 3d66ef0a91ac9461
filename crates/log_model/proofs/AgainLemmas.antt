-- A turn for as many instructions as ran is the same turn.
use Rattle.std.proofs.lemmas.Grind.{common_steps}
use Rattle.std.proofs.Common.{◌≡◌, ◌⊎◌, inl, inr, ℕ, zero, suc, ◌+◌, ◌<◌, ◌≤◌, ◌&&◌, ◌||◌, ◌++◌, Bool, true, cond, nat_lt, nat_le, List, [], ◌∷◌, Option, None, Some, is_some, length, option_to_list, refl, sym, ap, subst, ◌∙◌, arith}
use Rattle.std.proofs.lemmas.Bool.{cond-true, cond-false}
use Rattle.std.proofs.lemmas.Bool.Decides.{nat_tests}
use Rattle.parts_model.specs.declared.limits.TheConstants.{MOST_SLICE}
use Rattle.parts_model.specs.Replies.{Answered}
use Rattle.acts_model.specs.Bodies.{View, seen}
use Rattle.arn_model.specs.Kernel.{Machine}
use Rattle.arn_model.specs.Parts.{TurnsHaveParts, one_if_some}
use Rattle.arn_model.specs.Run.{instructions_in}
use Rattle.arn_model.specs.Step.{Step, delivery_of, due_signal}
use Rattle.arn_model.specs.Turn.{plains, plain_in, steps_then, steps_of, turn, delivery_in, after_first, after_steps, last_of, last_in, has_due, is_runnable, is_possible}

-- plain instructions are as many as there may be, or fewer
then-few : (o : Option Step) (n : ℕ) (rest : Machine → List Step) → ((m : Machine) → length (rest m) ≤ n) → length (steps_then o rest) ≤ suc n
then-few None n rest few = omega arith
then-few (Some s) n rest few = omega (arith, few s.after)

plains-few : (n pid : ℕ) (m : Machine) → length (plains n pid m) ≤ n
plains-few zero pid m = omega arith
plains-few (suc n) pid m = then-few (plain_in m pid (seen m.bodies pid)) n (plains n pid) (plains-few n pid)

-- up to as many as there were, they are the same
then-none : (o : Option Step) (rest : Machine → List Step) → length (steps_then o rest) ≤ 0 → [] ≡ steps_then o rest
then-none None rest few = refl
then-none (Some s) rest few = absurd (omega (arith, few))

then-again : (o : Option Step) (k : ℕ) (rest rest' : Machine → List Step) → ((m : Machine) → length (rest' m) ≤ k → rest m ≡ rest' m) → length (steps_then o rest') ≤ suc k → steps_then o rest ≡ steps_then o rest'
then-again None k rest rest' again few = refl
then-again (Some s) k rest rest' again few = ap (λ (steps : List Step). s ∷ steps) (again s.after (omega (arith, few)))

plains-again : (n k pid : ℕ) → k ≤ n → (m : Machine) → length (plains n pid m) ≤ k → plains k pid m ≡ plains n pid m
plains-again zero zero pid most m few = refl
plains-again zero (suc k) pid most m few = absurd (omega (arith, most))
plains-again (suc n) zero pid most m few = then-none (plain_in m pid (seen m.bodies pid)) (plains n pid) few
plains-again (suc n) (suc k) pid most m few = grind (arith, nat_tests, then-again (plain_in m pid (seen m.bodies pid)) k (plains k pid) (plains n pid) (plains-again n k pid (omega (arith, most))) few)

-- there is a last step again exactly where there was one
last-again : (b : Bool) (o : Option Step) (len count ran : ℕ) → nat_lt len count ≡ b → ran ≡ len + one_if_some (cond b o None) → cond (nat_lt len ran) o None ≡ cond b o None
last-again b o len count ran h1 h2 = grind (arith, nat_tests, cond-true, cond-false)

-- no more ran than might
ran-few : (b : Bool) (o : Option Step) (len count ran : ℕ) → nat_lt len count ≡ b → len ≤ count → ran ≡ len + one_if_some (cond b o None) → ran ≤ count
ran-few b o len count ran h1 h2 h3 = grind (arith, nat_tests)

pub turn-few : TurnsHaveParts → (count pid : ℕ) (reply : Option Answered) (m : Machine) → instructions_in (steps_of (turn count pid reply m)) ≤ count
turn-few h1 count pid reply m = grind (arith, nat_tests, ran-few, plains-few)

pub turn-again : TurnsHaveParts → (count pid : ℕ) (reply : Option Answered) (m : Machine) → turn (instructions_in (steps_of (turn count pid reply m))) pid reply m ≡ turn count pid reply m
turn-again parts count pid reply m =
    let delivery = delivery_in m pid (seen m.bodies pid) in
    let m' = after_first m delivery in
    let plain = plains count pid m' in
    let m'' = after_steps m' plain in
    let ran = instructions_in (steps_of (turn count pid reply m)) in
    let few : ran ≤ count = turn-few parts count pid reply m in
    let sum = (parts count pid reply m).instructions in
    let same : plains ran pid m' ≡ plain = plains-again count ran pid few m' (omega (arith, sum)) in
    let one : last_of ran pid reply m' plain ≡ last_of count pid reply m' plain = last-again (nat_lt (length plain) count) (last_in m'' pid reply (seen m''.bodies pid)) (length plain) count ran refl sum in
    ap (λ (x : List Step). record { delivery = delivery; plain = x; last = last_of ran pid reply m' x }) same
    ∙ ap (λ (x : Option Step). record { delivery = delivery; plain = plain; last = x }) one

-- a turn with a step delivers, or runs an instruction
some-starts : (delivery : Option Step) (plain : List Step) (last : Option Step) (s : Step) (steps : List Step) → option_to_list delivery ++ (plain ++ option_to_list last) ≡ s ∷ steps → (is_some delivery ≡ true) ⊎ (0 < length plain + one_if_some last)
some-starts delivery plain last s steps h1 = grind (arith, common_steps, nat_tests)

-- a delivery was due
of-due : (m : Machine) (pid : ℕ) (v : View) (o : Option ℕ) → is_some (delivery_of m pid v o) ≡ true → is_some o ≡ true
of-due m pid v None is = cc
of-due m pid v (Some signal) is = refl

in-due : (m : Machine) (pid : ℕ) (o : Option View) → is_some (delivery_in m pid o) ≡ true → has_due m pid o ≡ true
in-due m pid None is = cc
in-due m pid (Some v) is = of-due m pid v (due_signal m pid v) is

-- a possible slice of fewer instructions that delivers or runs one is possible
fewer-possible : (able due : Bool) (count ran : ℕ) → able && (nat_le count MOST_SLICE && (nat_lt 0 count || due)) ≡ true → ran ≤ count → (due ≡ true) ⊎ (0 < ran) → able && (nat_le ran MOST_SLICE && (nat_lt 0 ran || due)) ≡ true
fewer-possible able due count ran h1 h2 h3 = grind (arith, nat_tests)

either : {A B C : Type 0} → (A → C) → A ⊎ B → C ⊎ B
either f (inl a) = inl (f a)
either f (inr b) = inr b

pub ran-possible : TurnsHaveParts → (count pid : ℕ) (reply : Option Answered) (m : Machine) (s : Step) (steps : List Step) → is_possible m pid count ≡ true → steps_of (turn count pid reply m) ≡ s ∷ steps → is_possible m pid (instructions_in (steps_of (turn count pid reply m))) ≡ true
ran-possible parts count pid reply m s steps possible is =
    let t = turn count pid reply m in
    let ran = instructions_in (steps_of t) in
    let starts : (is_some t.delivery ≡ true) ⊎ (0 < ran) =
    subst (λ (k : ℕ). (is_some t.delivery ≡ true) ⊎ (0 < k)) (sym (parts count pid reply m).instructions) (some-starts t.delivery t.plain t.last s steps is) in
    fewer-possible (is_runnable m pid) (has_due m pid (seen m.bodies pid)) count ran possible (turn-few parts count pid reply m)
    (either (in-due m pid (seen m.bodies pid)) starts)
