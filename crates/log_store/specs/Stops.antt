-- What a stop of the machine leaves on a disk.
use Rattle.std.specs.Prelude.{◌≡◌, ◌⊎◌, ℕ, ◌≤◌, List, ◌++◌, Option, is_some, IfSome}
use Rattle.arn_base.specs.Disk.{NoMore, Only}
use Rattle.arn_base.specs.Faults.{NeverFalls}

-- nothing is pending: a stop now leaves what a read gives
abbrev pub NothingPending : {D : Type 0} → (D → Option (List ℕ)) → (D → List ℕ → Type 0) → D
    → Type 0
NothingPending image may_leave disk = IfSome (image disk) (λ bytes. Only bytes (may_leave disk))

-- a stop at any moment from the old state to the new leaves bytes that have P
pub record LeavesOnly {D : Type 0} (moment : D → ℕ) (left_since : D → ℕ → List ℕ → Type 0)
    (old new : D) (P : List ℕ → Type 0) : Type 0 where
  pub later : moment old ≤ moment new
  pub each : (bytes : List ℕ) → left_since new (moment old) bytes → P bytes
  -- for a run that began earlier
  pub before : (time : ℕ) (bytes : List ℕ) → time ≤ moment old → left_since new time bytes →
      left_since old time bytes ⊎ P bytes

-- the disk was read at most: it tells the same, and a stop leaves nothing else
pub record IsOnlyRead {D : Type 0} (image : D → Option (List ℕ)) (may_leave : D → List ℕ → Type 0)
    (moment : D → ℕ) (left_since : D → ℕ → List ℕ → Type 0) (old new : D) : Type 0 where
  pub told : image new ≡ image old
  pub no_more : NoMore (may_leave old) (may_leave new)
  pub any_moment : LeavesOnly moment left_since old new (may_leave old)

-- the disk goes on: it tells its bytes if it told them, and its count of faults doesn't fall
pub record GoesOn {D : Type 0} (image : D → Option (List ℕ)) (faults : D → ℕ) (old new : D)
    : Type 0 where
  pub tells : is_some (image new) ≡ is_some (image old)
  pub never_falls : NeverFalls (faults old) (faults new)

-- a stop now may leave these bytes, with others behind them
pub record MayStayShut (may_leave : List ℕ → Type 0) (old : List ℕ) : Type 0 where
  pub rest : List ℕ
  pub stays : may_leave (old ++ rest)
