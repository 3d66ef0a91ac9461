-- Ends of legs, and choices that are brought into range.
use Rattle.std.proofs.Common.{◌≡◌, ℕ, [], ◌∷◌, None, Some, refl}
use Rattle.arn_base.specs.declared.boxes.Choice.{Choice}
use Rattle.arn_model.specs.declared.run_state.RunState.TheVariants as state
use Rattle.arn_model.specs.Turn.{runnable}
use Rattle.guest_legs.specs.Legs.{Ask, brought, leg_end}
use Rattle.guest_legs.specs.declared.leg.LegEnd.TheVariants.{More, Budget, Done, Stalled}
use Rattle.guest_legs.specs.declared.leg.Pick.{Pick}

-- how the machine stands comes before the budget, and the budget before the bytes
done_first : leg_end state.Done 0 300000 ≡ Some Done
done_first = refl

stalled_first : leg_end state.Stalled 0 300000 ≡ Some Stalled
stalled_first = refl

budget_next : leg_end state.CanGoOn 0 300000 ≡ Some Budget
budget_next = refl

enough : leg_end state.CanGoOn 1 262144 ≡ Some More
enough = refl

not_enough : leg_end state.CanGoOn 1 262143 ≡ None
not_enough = refl

-- where processes 3 and 7 can go on
abbrev picked : ℕ → ℕ → Pick
picked pid count = record { pid = pid; count = count }

abbrev choice : ℕ → ℕ → Choice
choice index count = record { index = index; count = count }

second : (ask : Ask) → runnable ask.machine ≡ 3 ∷ 7 ∷ [] → ask.left ≡ 100 → brought ask (choice 5 9) ≡ picked 7 9
second ask able left = rw (able, left) refl

first-once : (ask : Ask) → runnable ask.machine ≡ 3 ∷ 7 ∷ [] → ask.left ≡ 100 → brought ask (choice 0 0) ≡ picked 3 1
first-once ask able left = rw (able, left) refl

cut_to_left : (ask : Ask) → runnable ask.machine ≡ 3 ∷ 7 ∷ [] → ask.left ≡ 100 → brought ask (choice 1 101) ≡ picked 7 100
cut_to_left ask able left = rw (able, left) refl

cut_to_most : (ask : Ask) → runnable ask.machine ≡ 3 ∷ 7 ∷ [] → ask.left ≡ 5000000 → brought ask (choice 2 4294967295) ≡ picked 3 1000000
cut_to_most ask able left = rw (able, left) refl
