-- The tables of a state, to be read.
use Rattle.guest_requests.specs.Tables.{Tables}
use Rattle.guest_calls.specs.State.{State}

abbrev pub tables_in : State → Tables
tables_in s = record { guests = s.guests; kernel = s.kernel }
