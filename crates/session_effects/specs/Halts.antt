-- What errors make a halt.
use Rattle.arn_base.specs.declared.errors.Stop.{Stop}
use Rattle.arn_base.specs.declared.errors.Stop.TheVariants as stop
use Rattle.log_store.specs.declared.errors.CommitError.{CommitError}
use Rattle.log_store.specs.declared.errors.CommitError.TheVariants as commit
use Rattle.session_effects.specs.declared.halt.Halt.{Halt}
use Rattle.session_effects.specs.declared.halt.Halt.TheVariants as halt

-- what a sink that stops makes
abbrev pub halt_of : Stop → Halt
halt_of stop.Failed = halt.Sink
halt_of stop.NoMemory = halt.NoMemory

-- what a commit that doesn't succeed makes
abbrev pub commit_halt_of : CommitError → Halt
commit_halt_of commit.Disk = halt.Disk
commit_halt_of (commit.Full log payload) = halt.Full log payload
commit_halt_of commit.NoMemory = halt.NoMemory
