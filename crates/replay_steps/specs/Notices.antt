-- What an observer is told of what happens inside a group.
use Rattle.std.specs.Prelude.{◌≡◌, ℕ, List, [], ◌∷◌, ◌++◌, Option, Some, None}
use Rattle.arn_base.specs.declared.machine.Cpu.{Cpu}
use Rattle.arn_base.specs.declared.records.Record.{Record}
use Rattle.arn_base.specs.declared.records.Record.TheVariants as entry
use Rattle.rv64_isa.specs.declared.instruction.Instr.{Instr}
use Rattle.acts_model.specs.Moved.{Event, Inside}
use Rattle.acts_model.specs.Transfers.{Transfer, Runs, Forks, Begins}

-- one call of an observer
pub data Notice : Type 0 where
  -- a member begins at an event, made by its parent, where it has one
  BeginsAt : (pid event : ℕ) → (parent : Option ℕ) → Notice
  -- it runs an instruction
  Steps : (pid : ℕ) → Instr → (before : Cpu) → Notice
  -- an event happens
  Happens : (event : ℕ) → Record → (before : Cpu) → Notice

-- the boot begins process 1, without a parent
abbrev pub booted : ℕ → Record → List Notice
booted event (entry.Boot name give) = BeginsAt 1 event None ∷ []
booted event other = []

-- a fork begins a child that joins the group, behind the event that made it
abbrev pub joined : ℕ → Transfer → List Notice
joined event (Forks pid child from into) = BeginsAt child event (Some pid) ∷ []
joined event other = []

abbrev pub event_notices : Inside → Event → List Notice
event_notices i event = booted event.number event.entry ++ Happens event.number event.entry i.before ∷ joined event.number i.transfer

abbrev pub notices_of : Inside → Option Event → List Notice
notices_of i None = []
notices_of i (Some event) = event_notices i event

-- an instruction; the group's first process, which the fork of another group made; or another event
abbrev pub notices_by : Inside → Transfer → List Notice
notices_by i (Runs pid instr place) = Steps pid instr i.before ∷ []
notices_by i (Begins pid made) = BeginsAt pid made None ∷ []
notices_by i other = notices_of i i.event

-- what is told of it, in order
abbrev pub notices : Inside → List Notice
notices i = notices_by i i.transfer

-- what an observer says of its calls: a relation between its value before each and that after it
pub record Listener (A : Type 0) : Type 1 where
  pub begins : A → ℕ → ℕ → Option ℕ → A → Type 0
  pub runs : A → ℕ → Instr → Cpu → A → Type 0
  pub hears : A → ℕ → Record → Cpu → A → Type 0

abbrev pub Says : {A : Type 0} → Listener A → Notice → A → A → Type 0
Says l (BeginsAt pid event parent) x y = l.begins x pid event parent y
Says l (Steps pid instr before) x y = l.runs x pid instr before y
Says l (Happens event entry before) x y = l.hears x event entry before y

-- it was told these, one after the other
abbrev pub Told : {A : Type 0} → Listener A → List Notice → A → A → Type 0
Told l [] x y = x ≡ y
Told {A} l (n ∷ notices) x y = (z : A) × Says l n x z × Told l notices z y
