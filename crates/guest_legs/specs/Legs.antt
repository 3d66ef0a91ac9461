-- The slices of a leg, which a chooser picks, and what ends it.
use Rattle.std.specs.Prelude.{◌≡◌, ◌≤◌, ◌<◌, ◌+◌, ◌-◌, ◌%◌, ℕ, zero, suc, min, max, nat_le, true, if◌then◌else◌, List, [], ◌∷◌, ◌++◌, length, get_or, slice_get, option_map, Option, IfSome, None, Some}
use Rattle.arn_base.specs.declared.boxes.Choice.{Choice}
use Rattle.arn_base.specs.declared.records.Record.{Record}
use Rattle.parts_model.specs.declared.limits.TheConstants.{MOST_SLICE}
use Rattle.parts_model.specs.Replies.{Answered}
use Rattle.arn_model.specs.declared.run_state.RunState.{RunState}
use Rattle.arn_model.specs.declared.run_state.RunState.TheVariants as state
use Rattle.arn_model.specs.Kernel.{Machine}
use Rattle.arn_model.specs.Run.{Input, Slice, after_input, input_steps, instructions_in}
use Rattle.arn_model.specs.Turn.{is_possible, run_state, runnable}
use Rattle.log_model.specs.Records.{input_records}
use Rattle.guest_legs.specs.Pieces.{spelled_len}
use Rattle.guest_legs.specs.declared.leg.LegEnd.{LegEnd}
use Rattle.guest_legs.specs.declared.leg.Pick.{Pick}
use Rattle.guest_legs.specs.declared.leg.LegEnd.TheVariants.{More, Budget, Done, Stalled}
use Rattle.guest_legs.specs.declared.leg.TheConstants.{MOST_LEG}

-- what ends a leg before the next slice, looked for in this order: how the machine stands, what is left of the budget, and how
-- many bytes its records are spelled by
abbrev pub leg_end : RunState → ℕ → ℕ → Option LegEnd
leg_end state.Done left spelled = Some Done
leg_end state.Stalled left spelled = Some Stalled
leg_end state.CanGoOn zero spelled = Some Budget
leg_end state.CanGoOn (suc left) spelled = if nat_le MOST_LEG spelled then Some More else None

-- a leg on its way: the machine, what is left of the budget, and the leg's records so far
pub record Going : Type 0 where
  pub machine : Machine
  pub left : ℕ
  pub entries : List Record

-- a leg at its start
abbrev pub fresh : Machine → ℕ → Going
fresh m budget = record { machine = m; left = budget; entries = [] }

-- what ends it here
abbrev pub end_of : Going → Option LegEnd
end_of g = leg_end (run_state g.machine) g.left (spelled_len g.entries)

-- a slice as it was picked, with the reply of the device that it asked
pub record Picked : Type 0 where
  pub pick : Pick
  pub reply : Option Answered

-- one that asked no device
abbrev pub unanswered : Pick → Picked
unanswered pick = record { pick = pick; reply = None }

abbrev pub input_of : Picked → Input
input_of s = Slice s.pick.pid s.pick.count s.reply

-- a leg after one more slice
abbrev pub going_after : Going → Picked → Going
going_after g s =
    let steps = input_steps g.machine (input_of s) in
    record {
      machine = after_input g.machine (input_of s);
      left = g.left - instructions_in steps;
      entries = g.entries ++ input_records (input_of s) steps;
    }

-- and after more of them
abbrev pub going_by : Going → List Picked → Going
going_by g [] = g
going_by g (s ∷ slices) = going_by (going_after g s) slices

-- the leg is open before each of these slices
abbrev pub StaysOpen : Going → List Picked → Type 0
StaysOpen g [] = Unit {0}
StaysOpen g (s ∷ slices) = (end_of g ≡ None) × StaysOpen (going_after g s) slices

-- where a slice is asked for: the machine, and what is left of the budget
pub record Ask : Type 0 where
  pub machine : Machine
  pub left : ℕ

abbrev pub ask : Machine → ℕ → Ask
ask m left = record { machine = m; left = left }

abbrev pub ask_of : Going → Ask
ask_of g = ask g.machine g.left

-- where each of these slices is asked for
abbrev pub asks_by : Going → List Picked → List Ask
asks_by g [] = []
asks_by g (s ∷ slices) = ask_of g ∷ asks_by (going_after g s) slices

-- A choice brought into range: one of the processes that can go on, in order of number, and from 1 to so many instructions, no more than
-- are left.
abbrev pub brought : Ask → Choice → Pick
brought ask choice =
    record {
      pid = get_or (runnable ask.machine) (choice.index % length (runnable ask.machine)) 0;
      count = min (min (max choice.count 1) MOST_SLICE) ask.left;
    }

-- the k-th slice is the k-th choice that is told, brought into range where it was asked for; the choices have moved on by as many
pub record PickedBy (before after : ℕ → Option Choice) (asks : List Ask) (slices : List Picked) : Type 0 where
  pub many : length asks ≡ length slices
  pub each : (k : ℕ) → IfSome (before k) (λ choice. option_map (λ s. s.pick) (slice_get slices k) ≡ option_map (λ ask. brought ask choice) (slice_get asks k))
  pub later : (k : ℕ) → after k ≡ before (length slices + k)

-- whatever is told, a slice is of a process that can go on, and of at least one instruction and no more than are left
pub record IsInRange (ask : Ask) (pick : Pick) : Type 0 where
  pub possible : is_possible ask.machine pick.pid pick.count ≡ true
  pub some : 0 < pick.count
  pub within : pick.count ≤ ask.left

-- each of these slices is
abbrev pub AreInRange : List Ask → List Picked → Type 0
AreInRange [] slices = Unit {0}
AreInRange (ask ∷ asks) [] = Unit {0}
AreInRange (ask ∷ asks) (s ∷ slices) = IsInRange ask s.pick × AreInRange asks slices
