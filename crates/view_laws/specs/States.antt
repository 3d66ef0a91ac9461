-- The state of a group alone on the records of a run.
use Rattle.std.specs.Prelude.{◌≡◌, ℕ, List, filter}
use Rattle.parts_model.specs.Processes.{live}
use Rattle.acts_model.specs.Bodies.{seen}
use Rattle.arn_model.specs.Run.{Input, machine_after, state_at}
use Rattle.arn_model.specs.Tells.{HasNumbers}
use Rattle.guest_bodies.specs.Follows.{Shows}
use Rattle.guest_bodies.specs.Shown.{Guests, seen_in}
use Rattle.guest_states.specs.State.{state_of}
use Rattle.history_model.specs.Alone.{Own, Makes, alone}
use Rattle.history_model.specs.Groups.{group_of, is_number}
use Rattle.log_model.specs.Records.{records}
use Rattle.replayer.specs.Lives.{live_in}

-- the members of a group that live in the machine at a moment, in order of number
abbrev pub live_members : List Input → ℕ → ℕ → List ℕ
live_members inputs g moment = filter (λ pid. is_number g (group_of (records inputs) pid)) (live (state_at inputs moment).kernel.processes)

-- The group alone doesn't disagree. Of processes that see what it makes, those live that live in the machine, and their state is the state of
-- these in the machine.
pub record GroupStateRun (inputs : List Input) (g moment : ℕ) : Type 0 where
  pub own : Own
  pub agrees : alone (records inputs) g moment ≡ Makes own
  pub live : (guests : Guests) → Shows guests own.bodies → live_in guests ≡ live_members inputs g moment
  pub state : (guests : Guests) → Shows guests own.bodies
      → state_of (seen_in guests) (live_in guests) ≡ state_of (seen (state_at inputs moment).bodies) (live_members inputs g moment)

abbrev pub GroupStatesAreOfRuns : Type 0
GroupStatesAreOfRuns = (inputs : List Input) (g moment : ℕ) → HasNumbers (machine_after inputs).kernel → GroupStateRun inputs g moment
