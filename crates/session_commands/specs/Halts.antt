-- What errors make a halt.
use Rattle.record_match.specs.declared.differs.RebuildError.{RebuildError}
use Rattle.record_match.specs.declared.differs.RebuildError.TheVariants as rebuild
use Rattle.session_effects.specs.declared.halt.Halt.{Halt}
use Rattle.session_effects.specs.declared.halt.Halt.TheVariants as halt

-- what ends a session whose machine can't be made again
abbrev pub rebuild_halt_of : RebuildError → Halt
rebuild_halt_of (rebuild.Differs d) = halt.Differs d
rebuild_halt_of rebuild.NoMemory = halt.NoMemory
