-- A store that goes on while effects are carried out, and why that halts.
use Rattle.std.specs.Prelude.{◌≡◌, ℕ, ◌+◌, ◌<◌, List, ◌++◌, All, Option, IfSome, IsTrue}
use Rattle.arn_base.specs.declared.records.Record.{Record}
use Rattle.arn_base.specs.declared.disk.Disk.{Ghosts}
use Rattle.arn_base.specs.Faults.{Rose}
use Rattle.result_log.specs.Spelling.{HasSpelling}
use Rattle.log_store.specs.Stores.{StoreState, IsLeftBy}
use Rattle.log_store.specs.declared.size.TheConstants.{MOST_LOG}
use Rattle.session_effects.specs.Effects.{Effect, committed}
use Rattle.session_effects.specs.Carrying.{CarriesOut}
use Rattle.session_effects.specs.declared.halt.Halt.{Halt}
use Rattle.session_effects.specs.declared.halt.Halt.TheVariants as halt

-- a store that can go on, over a disk as it left it, whose records have spellings
pub record IsOpen {D : Type 0} (d : Ghosts D) (store : StoreState) (disk : D) : Type 0 where
  pub usable : IsTrue store.usable
  pub left : IfSome (d.image disk) (IsLeftBy store)
  pub spelled : All HasSpelling store.entries

-- the effects were carried out with a store that stays open, and holds what they commit
pub record Carries {D : Type 0} (is_run : List Record → Type 0) (d : Ghosts D) (old new : D)
    (store store' : StoreState) (held holds : Option (List ℕ)) (effects : List Effect) : Type 0 where
  pub stays_open : IsOpen d store' new
  pub entries : store'.entries ≡ store.entries ++ committed effects
  pub out : CarriesOut is_run d old new store.entries held holds effects

-- what made effects halt, by the counts of faults of the disk and of the sink: a log that is full has no room for the commit
abbrev pub IsCause : Halt → ℕ → ℕ → ℕ → ℕ → Type 0
IsCause halt.Disk disk disk' sink sink' = Rose disk disk'
IsCause halt.Sink disk disk' sink sink' = Rose sink sink'
IsCause halt.NoMemory disk disk' sink sink' = Unit {0}
IsCause (halt.Full log payload) disk disk' sink sink' = MOST_LOG < log + 5 + payload
IsCause (halt.Differs d) disk disk' sink sink' = ⊥
IsCause halt.Source disk disk' sink sink' = ⊥
IsCause halt.Long disk disk' sink sink' = ⊥
