-- Disks in memory.
use Rattle.std.specs.Prelude.{◌≡◌, ℕ, ◌+◌, ◌≤◌, ◌⊎◌, min, List, [], ◌∷◌, length, reverse, Contains, Result, OnOk, IsErrOf}
use Rattle.arn_base.specs.declared.errors.Stop.{Stop}
use Rattle.arn_base.specs.declared.errors.Stop.TheVariants.{Failed, NoMemory}
use Rattle.arn_base.specs.Faults.{greatest, NeverFalls}
use Rattle.log_disk.specs.declared.medium.Medium.{Medium}
use Rattle.log_disk.specs.Crash.{Held, Crash, durable}
use Rattle.log_disk.specs.Image.{image_bytes}
use Rattle.log_disk.specs.Past.{states_before}

-- what a disk holds, and what it held before each change, the last first
pub record InMemory : Type 0 where
  pub held : Held
  pub past : List Held

-- nothing has changed yet
abbrev pub fresh : List ℕ → InMemory
fresh bytes = record { held = durable bytes; past = [] }

-- after a change
abbrev pub changed : Held → InMemory → InMemory
changed held disk = record { held = held; past = disk.held ∷ disk.past }

-- the moment is the number of changes
abbrev pub moment_of : InMemory → ℕ
moment_of disk = length disk.past

-- a crash at one of these moments, no earlier than a time, may have left the bytes
abbrev pub LeftBefore : List Held → ℕ → List ℕ → Type 0
LeftBefore [] since bytes = ⊥
LeftBefore (held ∷ past) since bytes =
    ((since ≤ length past) × Crash held bytes) ⊎ LeftBefore past since bytes

-- a crash since a time may have left the bytes
abbrev pub LeftSince : InMemory → ℕ → List ℕ → Type 0
LeftSince disk since bytes = Crash disk.held bytes ⊎ LeftBefore disk.past since bytes

-- what a disk in memory holds and held
abbrev pub state_of : Medium → InMemory
state_of medium = record {
  held = record {
    image = image_bytes medium.image;
    written = medium.written.items;
    smallest = medium.smallest;
    greatest = medium.greatest;
  };
  past = states_before (image_bytes medium.image) (reverse medium.past.items);
}

-- a disk in memory; the numbers of the calls to fail; how many calls there were; and how many of
-- these were faults
pub record Fused : Type 0 where
  pub disk : InMemory
  pub fails : List ℕ
  pub calls : ℕ
  pub faults : ℕ

-- before the first call
abbrev pub fused : List ℕ → List ℕ → Fused
fused bytes fails = record { disk = fresh bytes; fails = fails; calls = 0; faults = 0 }

-- the number of the coming call is listed
abbrev pub IsListed : Fused → Type 0
IsListed fused = Contains fused.fails fused.calls

-- a call was counted, and as a fault exactly where it was listed
pub record Counts (old new : Fused) : Type 0 where
  pub fails : new.fails ≡ old.fails
  pub calls : new.calls ≡ min (old.calls + 1) greatest
  pub fault : IsListed old → new.faults ≡ min (old.faults + 1) greatest
  pub no_fault : ¬ IsListed old → new.faults ≡ old.faults
  pub faults : NeverFalls old.faults new.faults

-- a call made one change where it succeeded, another where it failed, and none for want of memory
pub record Makes (result : Result (Unit {0}) Stop) (done torn : Held) (old new : InMemory) :
    Type 0 where
  pub ok : OnOk result (new ≡ changed done old)
  pub failed : IsErrOf result Failed → new ≡ changed torn old
  pub no_memory : IsErrOf result NoMemory → new ≡ old
