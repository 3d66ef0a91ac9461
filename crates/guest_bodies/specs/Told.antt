-- Instructions of a process, and what an observer is told of them.
use Rattle.std.specs.Prelude.{◌≡◌, ℕ, zero, suc, ◌+◌, ◌<◌}
use Rattle.arn_base.specs.declared.machine.Cpu.{Cpu}
use Rattle.rv64_isa.specs.declared.instruction.Instr.{Instr}
use Rattle.rv64_model.specs.Instruction.{Effect, Next, Call, End}
use Rattle.guest_bodies.specs.Follows.{Executed}
use Rattle.guest_bodies.specs.Shown.{Guests}

-- it is a call, or it ends the process
abbrev pub IsStop : Effect → Type 0
IsStop (Next instr cpu memory) = ⊥
IsStop Call = Unit {0}
IsStop (End status) = Unit {0}

-- The process took an instruction. The observer was told of it, with the registers before it.
pub record ToldOne {A : Type 0} (runs : A → ℕ → Instr → Cpu → A → Type 0) (p : ℕ) (old new : Guests) (x y : A) : Type 0 where
  pub instr : Instr
  pub executed : Executed instr p old new
  pub told : runs x p instr executed.before.body.cpu y

-- so many, one after the other
abbrev pub ToldMany : {A : Type 0} → (A → ℕ → Instr → Cpu → A → Type 0) → ℕ → ℕ → Guests → Guests → A → A → Type 0
ToldMany runs p zero old new x y = (new ≡ old) × (y ≡ x)
ToldMany {A} runs p (suc n) old new x y = (mid : Guests) × (z : A) × ToldMany runs p n old mid x z × ToldOne runs p mid new z y

-- So many were taken, of which the observer was told. The next one was counted and not taken: the observer failed at it, or its store found no memory.
pub record FailsAt {A : Type 0} (runs : A → ℕ → Instr → Cpu → A → Type 0) (p count : ℕ) (old new : Guests) (x : A) (before after : ℕ) : Type 0 where
  pub ran : ℕ
  pub observer : A
  pub told : ToldMany runs p ran old new x observer
  pub less : ran < count
  pub counted : after ≡ before + ran + 1
