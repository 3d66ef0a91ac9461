-- A machine of a run is sound at each moment.
use Rattle.std.proofs.lemmas.Bool.Decides.{nat_tests}
use Rattle.std.proofs.Common.{ℕ, Bool, List, [], ◌∷◌, subst, arith}
use Rattle.arn_model.specs.Kernel.{Machine, at_first}
use Rattle.arn_model.specs.Laws.{EachRunAppends, EachRunIsSound}
use Rattle.arn_model.specs.Run.{Input, run, state_at, unless_reached, within}
use Rattle.arn_model.specs.Sound.{IsSoundMachine}
use Rattle.arn_model.specs.Step.{Step}
use Rattle.arn_model.specs.Tells.{Along}
use Rattle.arn_model.specs.Turn.{after_steps}
use Rattle.acts_model.specs.Moved.{is_instruction}

abbrev Sounds : Machine → List Step → Type 0
Sounds m steps = Along (λ m s. IsSoundMachine m) m steps

sound-next : (m : Machine) (s : Step) (steps : List Step) (b : Bool) (moment : ℕ) → IsSoundMachine m → ((k : ℕ) → IsSoundMachine (after_steps s.after (within k steps))) → IsSoundMachine (after_steps m (unless_reached b moment (λ left. s ∷ within left steps)))
sound-next m s steps b moment h1 h2 = grind (arith, nat_tests)

sound-within : (steps : List Step) (moment : ℕ) (m : Machine) → Sounds m steps → IsSoundMachine (after_steps m steps) → IsSoundMachine (after_steps m (within moment steps))
sound-within [] moment m along last = last
sound-within (s ∷ steps) moment m along last =
    sound-next m s steps (is_instruction s.moved.inside) moment along.0 (λ k. sound-within steps k s.after along.1 last)

pub sound-at : (inputs : List Input) (moment : ℕ) → EachRunAppends → EachRunIsSound → IsSoundMachine (state_at inputs moment)
sound-at inputs moment append sounds =
    sound-within (run inputs) moment at_first (sounds inputs).along (subst IsSoundMachine (append at_first inputs []).reached (sounds inputs).last)
