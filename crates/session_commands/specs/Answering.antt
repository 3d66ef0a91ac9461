-- What is carried out where a command is answered, and what where its answer halts.
use Rattle.std.specs.Prelude.{◌≡◌, ◌⊎◌, ◌<◌, ◌≤◌, ℕ, ◌+◌, ◌++◌, true, false, Bool, List}
use Rattle.arn_base.specs.declared.disk.Disk.{Ghosts}
use Rattle.arn_base.specs.declared.records.Differs.{Differs}
use Rattle.arn_base.specs.declared.records.Record.{Record}
use Rattle.arn_base.specs.Faults.{Rose}
use Rattle.log_model.specs.Records.{IsRun, named, records}
use Rattle.log_store.specs.declared.size.TheConstants.{MOST_LOG}
use Rattle.record_match.specs.Differs.{IsFirstDifference}
use Rattle.arn_commands.specs.declared.command.Command.{Command}
use Rattle.session_effects.specs.Effects.{Effect}
use Rattle.session_effects.specs.declared.halt.Halt.{Halt}
use Rattle.session_effects.specs.declared.halt.Halt.TheVariants as halt
use Rattle.session_runs.specs.Ready.{IsNotMade}
use Rattle.session_runs.specs.Standing.{HaltsBehind, Proceeds, Standpoint}
use Rattle.session_runs.specs.Touches.{Answering, named_at}
use Rattle.session_runs.specs.Turns.{finished}
use Rattle.session_commands.specs.Cost.{cost, cost_of_turn, machine_cost}
use Rattle.session_commands.specs.Given.{Given}
use Rattle.session_commands.specs.Lines.{needs_machine, turn}

-- effects halted somewhere: some were carried out, and of the others some of the first at most
pub record HaltsIn (stops : List Effect → List Effect → Type 0) (effects : List Effect) : Type 0 where
  pub done : List Effect
  pub undone : List Effect
  pub are_effects : effects ≡ done ++ undone
  pub stopped : stops done undone

-- what made a command halt, by the counts of faults of the disk and of the sink: the records of its log may be none of a run's, too
abbrev pub IsLineCause : Halt → ℕ → ℕ → ℕ → ℕ → Type 0
IsLineCause halt.Disk disk disk' sink sink' = Rose disk disk'
IsLineCause halt.Sink disk disk' sink sink' = Rose sink sink'
IsLineCause halt.NoMemory disk disk' sink sink' = Unit {0}
IsLineCause (halt.Full log payload) disk disk' sink sink' = MOST_LOG < log + 5 + payload
IsLineCause (halt.Differs d) disk disk' sink sink' = Unit {0}
IsLineCause halt.Source disk disk' sink sink' = ⊥
IsLineCause halt.Long disk disk' sink sink' = ⊥

-- the records aren't those of a run, and this is where that shows first
pub record IsNoRun (history : List Record) (d : Differs) : Type 0 where
  pub is_first : IsFirstDifference history (records (named history)) d
  pub is_none : ¬ IsRun history

-- a halt that blames the records of the history blames them rightly
abbrev pub BlamesRecords : Halt → List Record → Type 0
BlamesRecords (halt.Differs d) history = IsNoRun history d
BlamesRecords halt.NoMemory history = Unit {0}
BlamesRecords halt.Source history = Unit {0}
BlamesRecords halt.Long history = Unit {0}
BlamesRecords halt.Sink history = Unit {0}
BlamesRecords halt.Disk history = Unit {0}
BlamesRecords (halt.Full log payload) history = Unit {0}

-- nothing was carried out, and no slice taken
pub record IsUntouched {D A : Type 0} (old new : Standpoint D A) : Type 0 where
  pub disk : new.disk ≡ old.disk
  pub store : new.store ≡ old.store
  pub held : new.held ≡ old.held
  pub choices : (k : ℕ) → new.around.choices k ≡ old.around.choices k
  pub answers : new.around.answers ≡ old.around.answers

-- no machine was made: nothing was carried out, and only what the records name was run again
pub record IsNotBegun {D A : Type 0} (why : Halt) (is_there : Bool) (old new : Standpoint D A) : Type 0 where
  pub not_made : IsNotMade why
  pub untouched : IsUntouched old new
  pub executed : new.around.steps ≤ old.around.steps + machine_cost is_there old.store.entries

module _ {D A : Type 0} (d : Ghosts D) (who : Answering A) (g : Given) (is_there : Bool) where
  -- A command was answered: all that it asks for was carried out. Where it needs the machine, the history is that of a run.
  pub record IsAnswered (command : Command) (old new : Standpoint D A) : Type 0 where
    pub advances : Proceeds d who (turn g old.store.entries command) finished (cost g is_there old.store.entries new.store.entries command) old new
    pub on_run : needs_machine g old.store.entries command ≡ true → IsRun old.store.entries

  -- Its answer halted. Where it needs the machine, the history is that of a run, or no machine was made.
  pub record IsHalted (why : Halt) (command : Command) (old new : Standpoint D A) : Type 0 where
    pub beside : ℕ
    pub stops : HaltsBehind d who why (turn g old.store.entries command) beside old new
    pub costs : beside ≤ cost_of_turn g is_there old.store.entries command (turn g old.store.entries command (named_at stops.touches stops.slices ++ named_at stops.lost_touches stops.lost))
    pub on_run : needs_machine g old.store.entries command ≡ true → IsRun old.store.entries ⊎ IsNotBegun why is_there old new

-- it halted since the records of the history are none of a run's: it needs the machine, which wasn't there, and none was made
pub record FindsNoRun {D A : Type 0} (g : Given) (is_there : Bool) (at : Differs) (command : Command) (old new : Standpoint D A) : Type 0 where
  pub is_no_run : IsNoRun old.store.entries at
  pub absent : is_there ≡ false
  pub needs : needs_machine g old.store.entries command ≡ true
  pub not_begun : IsNotBegun (halt.Differs at) is_there old new

-- a halt that blames the records of the history finds that they are none of a run's
abbrev pub BlamesRightly : {D A : Type 0} → Given → Bool → Halt → Command → Standpoint D A → Standpoint D A → Type 0
BlamesRightly g is_there (halt.Differs at) command old new = FindsNoRun g is_there at command old new
BlamesRightly g is_there why command old new = Unit {0}
