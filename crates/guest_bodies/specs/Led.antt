-- Instructions on registers and a memory, and what an observer is told of them.
use Rattle.std.specs.Prelude.{◌≡◌, ℕ, zero, suc, ◌+◌, ◌<◌, List}
use Rattle.arn_base.specs.Window.{Window}
use Rattle.arn_base.specs.declared.machine.Cpu.{Cpu}
use Rattle.rv64_isa.specs.declared.instruction.Instr.{Instr}
use Rattle.rv64_model.specs.Instruction.{Next, instruction}

-- behind those before, one more instruction leads to these registers and this memory, and the observer was told of it
pub record LedAnother {M A : Type 0} (windows : M → List Window) (runs : A → ℕ → Instr → Cpu → A → Type 0) (p : ℕ) (Before : Cpu → M → A → Type 0) (cpu : Cpu) (memory : M) (y : A) : Type 0 where
  pub cpu_between : Cpu
  pub memory_between : M
  pub observer_between : A
  pub instr : Instr
  pub before : Before cpu_between memory_between observer_between
  pub leads : instruction cpu_between (windows memory_between) ≡ Next instr cpu (windows memory)
  pub told : runs observer_between p instr cpu_between y

-- so many, one after the other
abbrev pub LedMany : {M A : Type 0} → (M → List Window) → (A → ℕ → Instr → Cpu → A → Type 0) → ℕ → ℕ → Cpu → M → A → Cpu → M → A → Type 0
LedMany windows runs p zero cpu memory x cpu' memory' y = (cpu' ≡ cpu) × (windows memory' ≡ windows memory) × (y ≡ x)
LedMany windows runs p (suc n) cpu memory x cpu' memory' y = LedAnother windows runs p (LedMany windows runs p n cpu memory x) cpu' memory' y

-- So many, and the next one, which was counted, didn't run: the observer failed at it, or its store found no memory.
pub record LedFails {M A : Type 0} (windows : M → List Window) (runs : A → ℕ → Instr → Cpu → A → Type 0) (p count : ℕ) (cpu : Cpu) (memory : M) (x : A) (cpu' : Cpu) (memory' : M) (before after : ℕ) : Type 0 where
  pub ran : ℕ
  pub observer : A
  pub led : LedMany windows runs p ran cpu memory x cpu' memory' observer
  pub less : ran < count
  pub counted : after ≡ before + ran + 1
