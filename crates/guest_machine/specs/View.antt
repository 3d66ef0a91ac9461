-- What the fields of a machine stand for.
use Rattle.guest_machine.specs.declared.machine.Machine.TheInside.{Inside}
use Rattle.guest_machine.specs.Recorded.{Recorded}

abbrev pub recorded_of : Inside → Recorded
recorded_of m = record { kernel = m.kernel; instructions = m.instructions }
