-- A possible slice takes a step.
use Rattle.std.proofs.Common.{◌≡◌, ℕ, zero, suc, ◌+◌, ◌<◌, ◌++◌, ◌||◌, ◌&&◌, not, Bool, true, false, cond, nat_lt, nat_le, [], length, Option, None, Some, is_some, option_map, option_to_list, refl, sym, ap, subst, arith}
use Rattle.std.proofs.lemmas.Bool.Decides.{nat_tests}
use Rattle.parts_model.specs.declared.limits.TheConstants.{MOST_SLICE}
use Rattle.parts_model.specs.Replies.{Answered}
use Rattle.rv64_model.specs.Instruction.{Effect, Call}
use Rattle.acts_model.specs.Bodies.{View, seen}
use Rattle.acts_model.specs.Views.{stands_at}
use Rattle.arn_model.specs.Doing.{Request, Waits}
use Rattle.arn_model.specs.Kernel.{Machine}
use Rattle.arn_model.specs.Parts.{one_if_some}
use Rattle.arn_model.specs.Row.{does, is_waiting, request}
use Rattle.arn_model.specs.Run.{Slice, input_steps}
use Rattle.arn_model.specs.Step.{Step, call_step, delivery_of, due_signal, last_by, plain_by, waits, waits_at}
use Rattle.arn_model.specs.Turn.{after_first, can_go_on, delivery_in, has_due, is_possible, last_in, last_of, plain_in, plains, steps_of, steps_then, turn, turn_from}

one_if_length : (o : Option Step) → length (option_to_list o) ≡ one_if_some o
one_if_length None = refl
one_if_length (Some s) = refl

-- a call that is ready does something
ready-some : (m : Machine) (pid : ℕ) (v : View) (reply : Option Answered) (r : Request) → is_waiting r ≡ false → 0 < one_if_some (option_map (call_step m pid v) (does m pid v reply r))
ready-some m pid v reply Waits ready = absurd cc
ready-some m pid v reply _ ready = omega arith

-- an instruction runs, or is the last
first-or-last : (m : Machine) (pid : ℕ) (v : View) (reply : Option Answered) (e : Effect) → waits_at m pid v e ≡ false → 0 < one_if_some (plain_by m pid v e) + one_if_some (last_by m pid v reply e)
first-or-last m pid v reply Call ready = omega (arith, ready-some m pid v reply (request m pid v) ready)
first-or-last m pid v reply _ ready = omega arith

some-behind : (n pid : ℕ) (reply : Option Answered) (m : Machine) (p : Option Step) → 0 < one_if_some p + one_if_some (last_in m pid reply (seen m.bodies pid)) → 0 < length (steps_then p (plains n pid) ++ option_to_list (last_of (suc n) pid reply m (steps_then p (plains n pid))))
some-behind n pid reply m p h1 = grind (arith, nat_tests, one_if_length)

-- a turn that delivers something, or doesn't
turn-some : (n pid : ℕ) (reply : Option Answered) (m : Machine) (v : View) → seen m.bodies pid ≡ Some v → (o : Option ℕ) → is_some o || not (waits m pid v) ≡ true → 0 < length (steps_of (turn_from (suc n) pid reply (delivery_of m pid v o) (after_first m (delivery_of m pid v o))))
turn-some n pid reply m v is (Some signal) able = omega arith
turn-some n pid reply m v is None able =
    let ready : waits m pid v ≡ false = ready-if (waits m pid v) able in
    let there : 0 < one_if_some (plain_in m pid (seen m.bodies pid)) + one_if_some (last_in m pid reply (seen m.bodies pid)) =
    subst (λ (x : Option View). 0 < one_if_some (plain_in m pid x) + one_if_some (last_in m pid reply x)) (sym is) (first-or-last m pid v reply (stands_at v) ready) in
    some-behind n pid reply m (plain_in m pid (seen m.bodies pid)) there
  where
    ready-if : (b : Bool) → false || not b ≡ true → b ≡ false
    ready-if true is = absurd cc
    ready-if false is = refl

-- the view of a process that can go on
able-view : (m : Machine) (pid : ℕ) (o : Option View) → seen m.bodies pid ≡ o → can_go_on m pid o ≡ true → (v : View) × (seen m.bodies pid ≡ Some v) × (is_some (due_signal m pid v) || not (waits m pid v) ≡ true)
able-view m pid None is able = absurd cc
able-view m pid (Some v) is able = (v, is, able)

first-of : (a b : Bool) → a && b ≡ true → a ≡ true
first-of true b is = refl
first-of false b is = is

-- a possible slice of some instructions has a step
pub slice-steps : (m : Machine) (pid count : ℕ) (reply : Option Answered) → is_possible m pid count ≡ true → 0 < count → 0 < length (input_steps m (Slice pid count reply))
slice-steps m pid zero reply possible some = absurd (omega (arith, some))
slice-steps m pid (suc n) reply possible some =
    let able = first-of (can_go_on m pid (seen m.bodies pid)) (nat_le (suc n) MOST_SLICE && (nat_lt 0 (suc n) || has_due m pid (seen m.bodies pid))) possible in
    let v = able-view m pid (seen m.bodies pid) refl able in
    let whole : 0 < length (steps_of (turn (suc n) pid reply m)) =
    subst (λ (d : Option Step). 0 < length (steps_of (turn_from (suc n) pid reply d (after_first m d)))) (sym (ap (delivery_in m pid) v.1))
    (turn-some n pid reply m v.0 v.1 (due_signal m pid v.0) v.2) in
    subst (λ (b : Bool). 0 < length (cond b (steps_of (turn (suc n) pid reply m)) [])) (sym possible) whole
