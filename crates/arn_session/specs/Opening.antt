-- A session that ends before it begins, since its log wasn't opened.
use Rattle.std.specs.Prelude.{◌≡◌, ℕ, ◌≤◌, List, [], length}
use Rattle.arn_base.specs.declared.records.Record.{Record}
use Rattle.arn_base.specs.declared.disk.Disk.{Ghosts}
use Rattle.log_store.specs.Log.{IsLog}
use Rattle.log_store.specs.declared.size.TheConstants.{MOST_LOG}
use Rattle.session_effects.specs.Carrying.{IsAtRest, Keeps}
use Rattle.arn_session.specs.declared.status.Status.{Status}
use Rattle.arn_session.specs.declared.status.Status.TheVariants as status
use Rattle.arn_session.specs.declared.status.Damage.TheVariants as damage

-- nothing was taken of the source and nothing put into the sink, no choice was asked for and no device, and no instruction was executed
pub record NeverBegan {S K C V : Type 0} (source source' : S) (sink sink' : K) (chooser chooser' : C) (devices devices' : V) (steps steps' : ℕ) : Type 0 where
  pub untaken : source' ≡ source
  pub unput : sink' ≡ sink
  pub unchosen : chooser' ≡ chooser
  pub unasked : devices' ≡ devices
  pub idle : steps' ≡ steps

-- the same, and of a disk at rest a stop at any moment leaves the history
pub record FailsToOpen {S K C V D : Type 0} (is_run : List Record → Type 0) (d : Ghosts D) (old new : D)
    (history : List Record) (source source' : S) (sink sink' : K) (chooser chooser' : C) (devices devices' : V) (steps steps' : ℕ) : Type 0 where
  pub never : NeverBegan source source' sink sink' chooser chooser' devices devices' steps steps'
  pub keeps : IsAtRest d old history → Keeps is_run d old new history [] []

-- the session opened its log: it ended neither by its words nor by the bytes of its log, nor perhaps by its disk or by want of
-- memory before that
abbrev pub HasOpened : Status → Type 0
HasOpened status.Done = Unit {0}
HasOpened status.Usage = ⊥
HasOpened status.Disk = ⊥
HasOpened (status.Damaged (damage.TooLong len)) = ⊥
HasOpened (status.Damaged (damage.NotLog at)) = ⊥
HasOpened (status.Damaged (damage.Malformed at)) = ⊥
HasOpened (status.Damaged (damage.Broken place)) = Unit {0}
HasOpened (status.Damaged (damage.Differs d)) = Unit {0}
HasOpened status.NoMemory = ⊥
HasOpened status.Source = Unit {0}
HasOpened status.Sink = Unit {0}
HasOpened (status.Full log payload) = Unit {0}
HasOpened status.Long = Unit {0}

-- the session read its text: it ended neither in its opening nor, perhaps, by its disk or by want of memory in that
abbrev pub HasBegun : Status → Type 0
HasBegun status.Done = Unit {0}
HasBegun status.Usage = ⊥
HasBegun status.Disk = ⊥
HasBegun (status.Damaged (damage.TooLong len)) = ⊥
HasBegun (status.Damaged (damage.NotLog at)) = ⊥
HasBegun (status.Damaged (damage.Malformed at)) = ⊥
HasBegun (status.Damaged (damage.Broken place)) = ⊥
HasBegun (status.Damaged (damage.Differs d)) = Unit {0}
HasBegun status.NoMemory = ⊥
HasBegun status.Source = Unit {0}
HasBegun status.Sink = Unit {0}
HasBegun (status.Full log payload) = Unit {0}
HasBegun status.Long = Unit {0}

-- a session that opened its log has one that isn't too long
abbrev pub IsOpened : Status → List ℕ → Type 0
IsOpened status bytes = HasOpened status → (history : List Record) × IsLog bytes history × (length bytes ≤ MOST_LOG)
