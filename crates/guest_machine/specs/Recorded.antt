-- A kernel with how many instructions its machine ran, and what inputs make of it.
use Rattle.std.specs.Prelude.{◌≡◌, ◌<◌, ◌+◌, ◌^◌, ℕ, List, ◌++◌, Bool, length, nat_lt}
use Rattle.arn_base.specs.declared.records.Record.{Record}
use Rattle.arn_model.specs.Kernel.{Machine}
use Rattle.arn_model.specs.Run.{Input, machine_from, machine_after, run, steps_from, instructions_in}
use Rattle.log_model.specs.Records.{records_from}
use Rattle.guest_calls.specs.State.{State, StandsFor, state_first}

-- a kernel's state, and how many instructions have run
pub record Recorded : Type 0 where
  pub kernel : State
  pub instructions : ℕ

-- before anything has come from outside
abbrev pub recorded_first : Recorded
recorded_first = record { kernel = state_first; instructions = 0 }

-- a fact of each machine for which the state stands
abbrev pub OfEach : State → (Machine → Type 0) → Type 0
OfEach s P = (m : Machine) → StandsFor s m → P m

-- the state stands for some machine
pub record IsReal (s : State) : Type 0 where
  pub machine : Machine
  pub stands : StandsFor s machine

-- there has been a process
abbrev pub has_process : State → Bool
has_process s = nat_lt 0 (length s.kernel.processes)

-- Where the old state stands for a machine, the new one stands for what these inputs lead to from it, and these are their records, behind
-- others.
pub record Runs (m : Machine) (inputs : List Input) (old new : Recorded) (out out' : List Record) : Type 0 where
  pub leads : StandsFor new.kernel (machine_from m inputs)
  pub counted : new.instructions ≡ old.instructions + instructions_in (steps_from m inputs)
  pub recorded : out' ≡ out ++ records_from m inputs

-- what these inputs lead to from the start
pub record IsAfter (r : Recorded) (inputs : List Input) : Type 0 where
  pub leads : StandsFor r.kernel (machine_after inputs)
  pub counted : r.instructions ≡ instructions_in (run inputs)

-- so many more events and instructions can be counted
pub record HasRoom (r : Recorded) (more ran : ℕ) : Type 0 where
  pub events : r.kernel.events + more < 2 ^ 64
  pub instructions : r.instructions + ran < 2 ^ 128
