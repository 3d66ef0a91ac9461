-- How processes change: as the definitions of acts say. They speak of bodies and memories; what is promised is what processes see of both.
use Rattle.std.specs.Prelude.{◌≡◌, ◌≢◌, ℕ, List, Option, Some, option_map}
use Rattle.arn_base.specs.Window.{Window}
use Rattle.arn_base.specs.declared.machine.Cpu.{Cpu}
use Rattle.acts_model.specs.Acts.{Act, Returns, Receives, Gives, Starts, Forks, Founds, Shares, Leaves, Delivers, Exits, Faults, Dies}
use Rattle.acts_model.specs.Bodies.{Bodies, View, seen, put}
use Rattle.acts_model.specs.Views.{stands_at, with_cpu, with_reach}
use Rattle.rv64_core.specs.Outcome.{Tells}
use Rattle.rv64_isa.specs.declared.instruction.Instr.{Instr}
use Rattle.rv64_model.specs.Instruction.{Next}
use Rattle.rv64_core.specs.declared.outcome.Outcome.{Outcome}
use Rattle.guest_bodies.specs.Shown.{Guests, Watch, seen_in, watch_in}

-- each process sees what it sees among these bodies
pub record Shows (guests : Guests) (b : Bodies) : Type 0 where
  pub same : (p : ℕ) → seen_in guests p ≡ seen b p

-- bodies that show the same before the change show the same after it
pub record Follows (old : Guests) (change : Bodies → Bodies) (new : Guests) : Type 0 where
  pub shows : (b : Bodies) → Shows old b → Shows new (change b)

-- no process takes signals otherwise than before
pub record KeepsWatches (old new : Guests) : Type 0 where
  pub kept : (p : ℕ) → watch_in new p ≡ watch_in old p

-- one process takes signals otherwise; what each sees is as before
pub record Rewatches (p : ℕ) (change : Watch → Watch) (old new : Guests) : Type 0 where
  pub own : watch_in new p ≡ option_map change (watch_in old p)
  pub kept : (q : ℕ) → q ≢ p → watch_in new q ≡ watch_in old q
  pub seen : (q : ℕ) → seen_in new q ≡ seen_in old q

-- one process takes signals so, and all others as before
pub record SetsWatch (p : ℕ) (watch : Option Watch) (old new : Guests) : Type 0 where
  pub own : watch_in new p ≡ watch
  pub kept : (q : ℕ) → q ≢ p → watch_in new q ≡ watch_in old q

-- to its own process the act is a result, and no more
abbrev pub IsResult : Act → ℕ → Type 0
IsResult (Returns result) r = result ≡ r
IsResult (Receives at bytes result) r = ⊥
IsResult (Gives at len result) r = result ≡ r
IsResult (Starts file block block_len) r = ⊥
IsResult (Forks child) r = ⊥
IsResult (Founds child) r = child ≡ r
IsResult Shares r = ⊥
IsResult Leaves r = ⊥
IsResult (Delivers signal handler cut) r = ⊥
IsResult Exits r = ⊥
IsResult (Faults status) r = ⊥
IsResult (Dies signal cut) r = ⊥

-- the act ends its process
abbrev pub IsEnd : Act → Type 0
IsEnd (Returns result) = ⊥
IsEnd (Receives at bytes result) = ⊥
IsEnd (Gives at len result) = ⊥
IsEnd (Starts file block block_len) = ⊥
IsEnd (Forks child) = ⊥
IsEnd (Founds child) = ⊥
IsEnd Shares = ⊥
IsEnd Leaves = ⊥
IsEnd (Delivers signal handler cut) = ⊥
IsEnd Exits = Unit {0}
IsEnd (Faults status) = Unit {0}
IsEnd (Dies signal cut) = Unit {0}

-- The process runs the instruction at which it stands: the outcome tells of it, and the process sees the registers and the windows after it.
pub record Ran (outcome : Outcome) (p : ℕ) (old new : Guests) : Type 0 where
  pub before : View
  pub cpu : Cpu
  pub memory : List Window
  pub stood : seen_in old p ≡ Some before
  pub tells : Tells outcome (stands_at before) cpu memory
  pub follows : Follows old (put p (with_reach memory (with_cpu cpu before))) new

-- It takes this instruction, which the next one follows, and sees the registers and the windows after it.
pub record Executed (instr : Instr) (p : ℕ) (old new : Guests) : Type 0 where
  pub before : View
  pub cpu : Cpu
  pub memory : List Window
  pub stood : seen_in old p ≡ Some before
  pub is_next : stands_at before ≡ Next instr cpu memory
  pub follows : Follows old (put p (with_reach memory (with_cpu cpu before))) new
