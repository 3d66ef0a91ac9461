-- What is kept beside the log of a history.
use Rattle.std.specs.Prelude.{List, IfSome, None, Option, Some}
use Rattle.arn_base.specs.declared.records.Record.{Record}
use Rattle.guest_machine.specs.Recorded.{Recorded}
use Rattle.session_runs.specs.Ready.{IsReady}

-- the machine, if there is one, belongs to the records of the log, and so does what answers questions about them
pub record IsSound {Q : Type 0} (knows : Q → List Record → Type 0) (made : Option Recorded) (asked : Q) (history : List Record) : Type 0 where
  pub machine : IfSome made (λ m. IsReady m history)
  pub questions : knows asked history

-- the machine is there, and belongs to the records of the log
abbrev pub IsThere : Option Recorded → List Record → Type 0
IsThere None history = ⊥
IsThere (Some m) history = IsReady m history
