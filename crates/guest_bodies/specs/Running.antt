-- Many instructions of a process, one behind the other.
use Rattle.std.specs.Prelude.{◌≡◌, ◌<◌, ℕ, zero, suc, List}
use Rattle.arn_base.specs.Window.{Window}
use Rattle.arn_base.specs.declared.machine.Cpu.{Cpu}
use Rattle.rv64_core.specs.Outcome.{LeadsTo, WouldStore}
use Rattle.rv64_core.specs.declared.outcome.Outcome.{Outcome}
use Rattle.rv64_core.specs.declared.outcome.Outcome.TheVariants as outcome
use Rattle.rv64_model.specs.Instruction.{Effect, Call, End, instruction}
use Rattle.guest_bodies.specs.Follows.{KeepsWatches, Ran}
use Rattle.guest_bodies.specs.Shown.{Guests}

-- behind what ran before, the process runs one more instruction, which the next one follows
pub record RanAnother (Before : Guests → Type 0) (p : ℕ) (new : Guests) : Type 0 where
  pub between : Guests
  pub before : Before between
  pub ran : Ran outcome.Next p between new
  pub watches : KeepsWatches between new

-- the process runs so many instructions one behind the other, each of which the next one follows
abbrev pub RanMany : ℕ → ℕ → Guests → Guests → Type 0
RanMany zero p old new = new ≡ old
RanMany (suc n) p old new = RanAnother (RanMany n p old) p new

-- Why no more instructions run than so many of those that may: all that may have run, or the next one is a call or an end, or its store found no memory.
abbrev pub StopsAt : Outcome → ℕ → ℕ → Effect → Type 0
StopsAt outcome.Next ran count effect = ran ≡ count
StopsAt outcome.Call ran count effect = (ran < count) × (effect ≡ Call)
StopsAt (outcome.End status) ran count effect = (ran < count) × (effect ≡ End status)
StopsAt outcome.NoMemory ran count effect = (ran < count) × WouldStore effect

-- the instruction at which the process stops is counted too, whatever stops it
abbrev pub stop_count : Outcome → ℕ
stop_count outcome.Next = 0
stop_count outcome.Call = 1
stop_count (outcome.End status) = 1
stop_count outcome.NoMemory = 1

-- behind those before, one more instruction leads to these registers and this memory
pub record LeadsAnother {M : Type 0} (windows : M → List Window) (Before : Cpu → M → Type 0) (cpu : Cpu) (memory : M) : Type 0 where
  pub cpu_between : Cpu
  pub memory_between : M
  pub before : Before cpu_between memory_between
  pub leads : LeadsTo (instruction cpu_between (windows memory_between)) cpu (windows memory)

-- so many instructions, each of which the next one follows, lead from these registers and this memory to those
abbrev pub LeadsMany : {M : Type 0} → (M → List Window) → ℕ → Cpu → M → Cpu → M → Type 0
LeadsMany windows zero cpu memory cpu' memory' = (cpu' ≡ cpu) × (windows memory' ≡ windows memory)
LeadsMany windows (suc n) cpu memory cpu' memory' = LeadsAnother windows (LeadsMany windows n cpu memory) cpu' memory'
