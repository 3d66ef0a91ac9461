-- What ends a session whose next command isn't read.
use Rattle.arn_commands.specs.declared.error.ReadError.{ReadError}
use Rattle.arn_commands.specs.declared.error.ReadError.TheVariants as read
use Rattle.session_effects.specs.declared.halt.Halt.{Halt}
use Rattle.session_effects.specs.declared.halt.Halt.TheVariants as halt

abbrev pub read_halt_of : ReadError → Halt
read_halt_of read.Source = halt.Source
read_halt_of read.Long = halt.Long
read_halt_of read.NoMemory = halt.NoMemory
