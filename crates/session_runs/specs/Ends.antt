-- How a run ends.
use Rattle.std.specs.Prelude.{◌≡◌, ◌⊎◌, ℕ, ◌-◌, List, [], ◌∷◌, ◌++◌, Some, None}
use Rattle.arn_lines.specs.declared.answer.RunEnd.{RunEnd}
use Rattle.arn_lines.specs.Texts.{ran_text}
use Rattle.guest_legs.specs.Legs.{Picked}
use Rattle.session_effects.specs.Effects.{Effect, Prints}
use Rattle.session_runs.specs.Runs.{Running, ends, next_leg, run_after, run_from}
use Rattle.session_runs.specs.Turns.{Turn}

-- a run on its way, after slices
abbrev pub running_after : Running → List Picked → Running
running_after r [] = r
running_after r (s ∷ slices) = running_after (next_leg (run_after r s)) slices

-- A run took slices until its machine was done or stalled or its budget spent, and not before; it left the others. The last that it printed is
-- how many instructions of the budget ran, and which of these it was.
pub record EndsSo (budget : ℕ) (r : Running) (slices : List Picked) (t : Turn) : Type 0 where
  pub taken : List Picked
  pub rest : List Picked
  pub are_slices : slices ≡ taken ++ rest
  pub end : RunEnd
  pub is_end : ends (running_after r taken) ≡ Some end
  pub not_before : (before after : List Picked) (s : Picked) → taken ≡ before ++ s ∷ after → ends (running_after r before) ≡ None
  pub done : List Effect
  pub effects : t.effects ≡ done ++ Prints (ran_text (budget - (running_after r taken).leg.left) end) ∷ []
  pub left : t.left ≡ Some rest

-- each run ends so, unless the slices end within it
abbrev pub RunsEnd : Type 0
RunsEnd = (budget : ℕ) (r : Running) (slices : List Picked) → ((run_from budget r slices).left ≡ None) ⊎ EndsSo budget r slices (run_from budget r slices)
