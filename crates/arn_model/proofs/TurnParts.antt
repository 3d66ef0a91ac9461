-- The parts of a turn, and its instructions.
use Rattle.std.proofs.lemmas.Grind.{common_steps}
use Rattle.std.proofs.Common.{◌≡◌, ℕ, zero, suc, ◌+◌, ◌||◌, ◌++◌, Bool, true, false, cond, List, [], ◌∷◌, Option, None, Some, length, option_to_list, option_map, refl, arith}
use Rattle.std.proofs.lemmas.Bool.Decides.{nat_tests}
use Rattle.std.proofs.lemmas.List.Sums.{sum_by-cons}
use Rattle.rv64_model.specs.Instruction.{Effect, Next, Call, End}
use Rattle.parts_model.specs.Replies.{Answered}
use Rattle.acts_model.specs.Acts.{Act, result_of}
use Rattle.acts_model.specs.Bodies.{View, seen}
use Rattle.acts_model.specs.Moved.{is_plain, is_instruction}
use Rattle.acts_model.specs.Transfers.{Holds, transfer, holds_of}
use Rattle.acts_model.specs.Views.{stands_at, call_number}
use Rattle.arn_model.specs.Doing.{Doing}
use Rattle.arn_model.specs.Kernel.{Machine}
use Rattle.arn_model.specs.Parts.{MaybeDelivery, Plain, ArePlain, MaybeLast, Calls, Ends, IsTurn, TurnsHaveParts, one_if_some}
use Rattle.arn_model.specs.Row.{request, does}
use Rattle.arn_model.specs.Run.{instructions_in}
use Rattle.arn_model.specs.Step.{Step, plain_by, last_by, delivery_of, due_signal, call_step}
use Rattle.arn_model.specs.Turn.{Turn, plains, plain_in, steps_then, turn, delivery_in, after_first, last_of, last_in}

acts-move : (pid event : ℕ) (holds : Holds) (a : Act) → is_plain (transfer pid event holds a) ≡ false
acts-move pid event holds a = grind (arith, nat_tests)

delivery_of-Maybe : (m : Machine) (pid : ℕ) (v : View) (o : Option ℕ) → MaybeDelivery (delivery_of m pid v o)
delivery_of-Maybe m pid v o = grind (arith, nat_tests, acts-move)

delivery_in-Maybe : (m : Machine) (pid : ℕ) (o : Option View) → MaybeDelivery (delivery_in m pid o)
delivery_in-Maybe m pid None = tt
delivery_in-Maybe m pid (Some v) = delivery_of-Maybe m pid v (due_signal m pid v)

abbrev MaybePlain : Option Step → Type 0
MaybePlain None = Unit {0}
MaybePlain (Some s) = Plain s

plain_by-Maybe : (m : Machine) (pid : ℕ) (v : View) (e : Effect) → MaybePlain (plain_by m pid v e)
plain_by-Maybe m pid v e = grind (arith, nat_tests)

plain_in-Maybe : (m : Machine) (pid : ℕ) (o : Option View) → MaybePlain (plain_in m pid o)
plain_in-Maybe m pid None = tt
plain_in-Maybe m pid (Some v) = plain_by-Maybe m pid v (stands_at v)

steps_then-Are : (o : Option Step) (rest : Machine → List Step) → MaybePlain o → ((m : Machine) → ArePlain (rest m)) → ArePlain (steps_then o rest)
steps_then-Are None rest is are = tt
steps_then-Are (Some s) rest is are = (is, are s.after)

plains-Are : (n pid : ℕ) (m : Machine) → ArePlain (plains n pid m)
plains-Are zero pid m = tt
plains-Are (suc n) pid m = steps_then-Are (plain_in m pid (seen m.bodies pid)) (plains n pid) (plain_in-Maybe m pid (seen m.bodies pid)) (plains-Are n pid)

or-true : (b : Bool) → (b || true) ≡ true
or-true true = refl
or-true false = refl

called-Maybe : (m : Machine) (pid : ℕ) (v : View) (o : Option Doing) → MaybeLast (option_map (call_step m pid v) o)
called-Maybe m pid v None = tt
called-Maybe m pid v (Some d) =
    Calls m.events pid (call_number v.body.cpu) (result_of d.act) d.extra refl (or-true (is_plain (transfer pid m.events (holds_of v.body) d.act)))

last_by-Maybe : (m : Machine) (pid : ℕ) (v : View) (reply : Option Answered) (e : Effect) → MaybeLast (last_by m pid v reply e)
last_by-Maybe m pid v reply (Next instr cpu memory) = tt
last_by-Maybe m pid v reply Call = called-Maybe m pid v (does m pid v reply (request m pid v))
last_by-Maybe m pid v reply (End status) = Ends m.events pid status refl refl

last_in-Maybe : (m : Machine) (pid : ℕ) (reply : Option Answered) (o : Option View) → MaybeLast (last_in m pid reply o)
last_in-Maybe m pid reply None = tt
last_in-Maybe m pid reply (Some v) = last_by-Maybe m pid v reply (stands_at v)

if-Maybe : (b : Bool) (o : Option Step) → MaybeLast o → MaybeLast (cond b o None)
if-Maybe true o is = is
if-Maybe false o is = tt

last_of-Maybe : (n pid : ℕ) (reply : Option Answered) (m : Machine) (plain : List Step) → MaybeLast (last_of n pid reply m plain)
last_of-Maybe n pid reply m plain = grind (arith, nat_tests, if-Maybe, last_in-Maybe)

-- a turn's instructions are the plain ones and the last
instructions-cons : (s : Step) (steps : List Step) (b : Bool) → is_instruction s.moved.inside ≡ b → instructions_in (s ∷ steps) ≡ cond b 1 0 + instructions_in steps
instructions-cons s steps b h1 = grind (arith, common_steps, nat_tests, sum_by-cons)

last-one : (o : Option Step) → MaybeLast o → instructions_in (option_to_list o) ≡ one_if_some o
last-one o h1 = grind (arith, common_steps, nat_tests, instructions-cons)

plain-all : (plain rest : List Step) → ArePlain plain → instructions_in (plain ++ rest) ≡ length plain + instructions_in rest
plain-all [] rest are = omega arith
plain-all (s ∷ plain) rest are = omega (arith, instructions-cons s (plain ++ rest) true are.0.one, plain-all plain rest are.1)

delivery-no : (o : Option Step) (rest : List Step) → MaybeDelivery o → instructions_in (option_to_list o ++ rest) ≡ instructions_in rest
delivery-no None rest is = refl
delivery-no (Some s) rest is = omega (arith, instructions-cons s rest false is.none)

of-parts : (t : Turn) → MaybeDelivery t.delivery → ArePlain t.plain → MaybeLast t.last → IsTurn t
of-parts t h1 h2 h3 = grind (arith, common_steps, nat_tests, delivery-no, plain-all, last-one)

pub turns-have-parts : TurnsHaveParts
turns-have-parts n pid reply m =
    let delivery = delivery_in m pid (seen m.bodies pid) in
    let m' = after_first m delivery in
    of-parts (turn n pid reply m) (delivery_in-Maybe m pid (seen m.bodies pid)) (plains-Are n pid m') (last_of-Maybe n pid reply m' (plains n pid m'))
