-- How it stands with a session, and what lies between two points of it.
use Rattle.std.specs.Prelude.{ℕ, List, Option}
use Rattle.arn_base.specs.declared.boxes.Choice.{Choice}
use Rattle.arn_base.specs.declared.disk.Disk.{Ghosts}
use Rattle.log_model.specs.Records.{IsRun}
use Rattle.log_store.specs.Stores.{StoreState}
use Rattle.session_effects.specs.Standing.{Carries}
use Rattle.session_effects.specs.declared.halt.Halt.{Halt}
use Rattle.session_effects.specs.declared.outside.Outside.{Outside}
use Rattle.session_runs.specs.Points.{Advances, Stops, Surroundings, around}
use Rattle.session_runs.specs.Touches.{Answering}
use Rattle.session_runs.specs.Turns.{Point}

-- the disk and the store of its log, what the sink holds if it tells, and what surrounds the machine
pub record Standpoint (D A : Type 0) : Type 0 where
  pub disk : D
  pub store : StoreState
  pub held : Option (List ℕ)
  pub around : Surroundings A

abbrev pub standpoint : {D A : Type 0} → D → StoreState → Option (List ℕ) → Surroundings A → Standpoint D A
standpoint disk store held around = record { disk = disk; store = store; held = held; around = around }

-- the same of a store and of what is lent, by what a chooser and a sink tell
abbrev pub standing : {C A D K L : Type 0} → (C → ℕ → Option Choice) → (K → Option (List ℕ)) → StoreState → Outside C A D K L → Standpoint D A
standing choices holds store o = standpoint o.disk.now store (holds o.sink.now) (around (choices o.chooser.now) o.answers.now o.steps.now)

module _ {D A : Type 0} (d : Ghosts D) (who : Answering A) where
  -- a session went on from one point to a later one
  abbrev pub Proceeds : Point → Point → ℕ → Standpoint D A → Standpoint D A → Type 0
  Proceeds from to cost old new = Advances who from to old.around new.around cost (Carries IsRun d old.disk new.disk old.store new.store old.held new.held)

  -- it halted behind a point
  abbrev pub HaltsBehind : Halt → Point → ℕ → Standpoint D A → Standpoint D A → Type 0
  HaltsBehind why from cost old new = Stops IsRun d who old.disk new.disk old.store.entries old.held new.held why from old.around new.around cost
