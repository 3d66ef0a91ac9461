-- How those who answer for devices were touched, and that what is gone isn't asked any more.
use Rattle.std.specs.Prelude.{◌≡◌, ◌==◌, ◌&&◌, not, ℕ, Bool, List, [], ◌∷◌, ◌++◌}
use Rattle.std.specs.List.{list_any}
use Rattle.arn_model.specs.Laws.{EachRunAppends}
use Rattle.arn_model.specs.Tells.{HasNumbers}
use Rattle.guest_legs.specs.LegLaws.{LegsAsNamed}
use Rattle.guest_legs.specs.Legs.{Picked}
use Rattle.log_model.specs.Laws.{RecordsAppend}
use Rattle.replay_laws.specs.Laws.{RecordsTellRuns}
use Rattle.session_runs.specs.Laws.{SlicesUnplugNothing}
use Rattle.session_runs.specs.Touches.{Answering, Touch, AtSlice, AtUnplug, TouchedBy, unplugs_in}

-- touches unplug this device
abbrev pub unplugs_it : List Touch → ℕ → Bool
unplugs_it touches device = list_any (λ d. d == device) (unplugs_in touches)

-- Each slice is asked for on a machine of which just these devices were unplugged, and those that were unplugged before it; to a guest such a
-- one is absent, and it isn't asked. (A machine in which 2^63 processes have been made is another matter.)
abbrev pub GoneBefore : List ℕ → List Touch → Type 0
GoneBefore gone [] = Unit {0}
GoneBefore gone (AtSlice ask ∷ touches) = (HasNumbers ask.machine.kernel → ask.machine.kernel.unplugged ≡ gone) × GoneBefore gone touches
GoneBefore gone (AtUnplug n ∷ touches) = GoneBefore (gone ++ n ∷ []) touches

-- Those who answer for devices were touched in this order and not otherwise: they were asked where slices ask, and nowhere else, and lost the
-- devices that lines unplugged. A device is there where it was, and none of these touches unplugged it.
pub record WereTouched {A : Type 0} (who : Answering A) (old new : A) : Type 0 where
  pub touches : List Touch
  pub slices : List Picked
  pub touched : TouchedBy who touches slices old new
  pub filled : (device : ℕ) → who.filled new device ≡ (who.filled old device && not (unplugs_it touches device))

-- the same, where these devices were gone before, and were asked no more
pub record WereSpared {A : Type 0} (who : Answering A) (gone : List ℕ) (old new : A) : Type 0 where
  pub were : WereTouched who old new
  pub spared : GoneBefore gone were.touches

-- what the records of runs tell of devices that were unplugged
pub record GoneLaws : Type 0 where
  pub tell : RecordsTellRuns
  pub records : RecordsAppend
  pub runs : EachRunAppends
  pub legs : LegsAsNamed
  pub slices : SlicesUnplugNothing
