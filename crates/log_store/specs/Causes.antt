-- Why a store refuses.
use Rattle.std.specs.Prelude.{◌≡◌, ℕ, ◌<◌, ◌≤◌, List, length}
use Rattle.arn_base.specs.declared.errors.Stop.{Stop}
use Rattle.arn_base.specs.declared.errors.Stop.TheVariants as stop
use Rattle.log_store.specs.declared.errors.CommitError.{CommitError}
use Rattle.log_store.specs.declared.errors.CommitError.TheVariants as commit
use Rattle.log_store.specs.declared.errors.OpenError.{OpenError}
use Rattle.log_store.specs.declared.errors.OpenError.TheVariants as opening
use Rattle.log_store.specs.declared.size.TheConstants.{MOST_LOG}
use Rattle.log_store.specs.Refused.{IsBroken, IsMisnamed, IsNoLog}

-- what a disk's refusal is called by a commit
abbrev pub commit_error_of : Stop → CommitError
commit_error_of stop.Failed = commit.Disk
commit_error_of stop.NoMemory = commit.NoMemory

-- what a disk's refusal is called by an opening
abbrev pub open_error_of : Stop → OpenError
open_error_of stop.Failed = opening.Disk
open_error_of stop.NoMemory = opening.NoMemory

-- why these bytes of a disk weren't opened
abbrev pub IsCauseOf : List ℕ → OpenError → Type 0
IsCauseOf bytes (opening.TooLong len) = (len ≡ length bytes) × (MOST_LOG < len)
IsCauseOf bytes (opening.NotLog at) =
    (length bytes ≤ MOST_LOG) × IsMisnamed bytes at × IsNoLog bytes
IsCauseOf bytes (opening.Malformed at) =
    (length bytes ≤ MOST_LOG) × IsBroken bytes at × IsNoLog bytes
IsCauseOf bytes opening.Disk = Unit {0}
IsCauseOf bytes opening.NoMemory = Unit {0}

-- the error blames the bytes of the disk
abbrev pub BlamesBytes : OpenError → Type 0
BlamesBytes (opening.TooLong len) = Unit {0}
BlamesBytes (opening.NotLog at) = Unit {0}
BlamesBytes (opening.Malformed at) = Unit {0}
BlamesBytes opening.Disk = ⊥
BlamesBytes opening.NoMemory = ⊥
