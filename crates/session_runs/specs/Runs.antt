-- What a line does that runs the machine: it takes slices until the machine is done or stalled or the budget is spent.
use Rattle.std.specs.Prelude.{ℕ, zero, suc, ◌-◌, nat_le, Bool, if◌then◌else◌, List, [], ◌∷◌, ◌++◌, Option, Some, None}
use Rattle.arn_base.specs.declared.records.Record.{Record}
use Rattle.arn_model.specs.declared.run_state.RunState.{RunState}
use Rattle.arn_model.specs.declared.run_state.RunState.TheVariants as state
use Rattle.arn_model.specs.Kernel.{Machine}
use Rattle.arn_model.specs.Turn.{run_state}
use Rattle.arn_lines.specs.declared.answer.RunEnd.{RunEnd}
use Rattle.arn_lines.specs.declared.answer.RunEnd.TheVariants.{Done, Stalled, Budget}
use Rattle.arn_lines.specs.Texts.{ran_text}
use Rattle.guest_legs.specs.declared.leg.LegEnd.{LegEnd}
use Rattle.guest_legs.specs.declared.leg.LegEnd.TheVariants as leg_end
use Rattle.guest_legs.specs.declared.leg.TheConstants.{MOST_LEG}
use Rattle.guest_legs.specs.Legs.{Going, Picked, ask_of, fresh, going_after}
use Rattle.guest_legs.specs.Pieces.{spelled_len}
use Rattle.session_effects.specs.Effects.{Effect, Commits, Prints}
use Rattle.session_runs.specs.Outputs.{outputs_text}
use Rattle.session_runs.specs.Touches.{AtSlice}
use Rattle.session_runs.specs.Turns.{Turn, Point, behind, cut_off}

-- a run within a leg: the leg, and the number of its first event
pub record Running : Type 0 where
  pub leg : Going
  pub first : ℕ

-- at the start of a leg, where so many instructions may run
abbrev pub begun : Machine → ℕ → Running
begun m left = record { leg = fresh m left; first = m.events }

-- after one more slice
abbrev pub run_after : Running → Picked → Running
run_after r s = record { leg = going_after r.leg s; first = r.first }

-- how a run ends, looked for in this order; none where it goes on
abbrev pub run_end : RunState → ℕ → Option RunEnd
run_end state.Done left = Some Done
run_end state.Stalled left = Some Stalled
run_end state.CanGoOn zero = Some Budget
run_end state.CanGoOn (suc left) = None

abbrev pub ends : Running → Option RunEnd
ends r = run_end (run_state r.leg.machine) r.leg.left

-- how a run ends with a leg, if it does
abbrev pub end_told : LegEnd → Option RunEnd
end_told leg_end.More = None
end_told leg_end.Done = Some Done
end_told leg_end.Stalled = Some Stalled
end_told leg_end.Budget = Some Budget

-- the leg's records are spelled by as many bytes as a leg may have
abbrev pub is_full : Running → Bool
is_full r = nat_le MOST_LEG (spelled_len r.leg.entries)

-- a leg that ends: its records are committed, and then what they tell is printed; nothing where it has no records
abbrev pub leg_effects : ℕ → List Record → List Effect
leg_effects first [] = []
leg_effects first (e ∷ entries) = Commits (e ∷ entries) ∷ Prints (outputs_text first (e ∷ entries)) ∷ []

abbrev pub effects_of : Running → List Effect
effects_of r = leg_effects r.first r.leg.entries

-- behind a slice a full leg ends, and the next one begins
abbrev pub closing : Running → List Effect
closing r = if is_full r then effects_of r else []

abbrev pub next_leg : Running → Running
next_leg r = if is_full r then begun r.leg.machine r.leg.left else r

-- a run that ends: its last leg ends, and then it is printed how many of the budget's instructions ran, and why no more do
abbrev pub ended : ℕ → Running → RunEnd → Point
ended budget r end slices = record { effects = effects_of r ++ Prints (ran_text (budget - r.leg.left) end) ∷ []; touches = []; left = Some slices }

abbrev pub unless_ended : Option RunEnd → (RunEnd → Turn) → Turn → Turn
unless_ended None last more = more
unless_ended (Some end) last more = last end

-- a run on its way, by recursion on the slices to come
abbrev pub run_from : ℕ → Running → Point
run_from budget r [] = unless_ended (ends r) (λ end. ended budget r end []) cut_off
run_from budget r (s ∷ slices) =
    unless_ended (ends r) (λ end. ended budget r end (s ∷ slices))
    (behind (closing (run_after r s)) (AtSlice (ask_of r.leg) ∷ []) (run_from budget (next_leg (run_after r s)) slices))

-- a whole run
abbrev pub run : Machine → ℕ → Point
run m budget = run_from budget (begun m budget)
