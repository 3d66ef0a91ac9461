-- Errors of the host.
use Rattle.std.specs.Prelude.{ℕ, Option, None, Some}
use Rattle.std.specs.declared.io.ErrorKind.{ErrorKind}
use Rattle.std.specs.declared.io.ErrorKind.TheVariants.{OutOfMemory}
use Rattle.arn_base.specs.declared.errors.Stop.{Stop}
use Rattle.arn_base.specs.declared.errors.Stop.TheVariants.{Failed, NoMemory}
use Rattle.host_disk.specs.declared.file_disk.Failures.{Failures}

-- want of memory, or else a failure
abbrev pub stop_of : ErrorKind → Stop
stop_of OutOfMemory = NoMemory
stop_of _ = Failed

-- how often the host has failed
abbrev pub times : Option Failures → ℕ
times None = 0
times (Some failures) = failures.count
