-- What every disk promises of what a stop leaves.
use Rattle.std.proofs.Common.{ℕ, ◌≤◌, List, IfSome}
use Rattle.arn_base.specs.declared.disk.Disk.{Ghosts}

-- what it reads is among what a stop may leave
abbrev pub MayStay : (D : Type 0) → Ghosts D → Type 0
MayStay D d = (disk : D) → IfSome (d.image disk) (d.may_leave disk)

-- this moment is one of those since an earlier one
abbrev pub CountsNow : (D : Type 0) → Ghosts D → Type 0
CountsNow D d = (disk : D) (since : ℕ) (bytes : List ℕ) → since ≤ d.moment disk → d.may_leave disk bytes → d.left_since disk since bytes

-- since this moment there is no other
abbrev pub OnlyNow : (D : Type 0) → Ghosts D → Type 0
OnlyNow D d = (disk : D) (bytes : List ℕ) → d.left_since disk (d.moment disk) bytes → d.may_leave disk bytes
