-- The machine of a history, and what keeps it from being made.
use Rattle.std.specs.Prelude.{List}
use Rattle.arn_base.specs.declared.records.Record.{Record}
use Rattle.arn_model.specs.Kernel.{Machine}
use Rattle.arn_model.specs.Run.{machine_after}
use Rattle.log_model.specs.Records.{IsRun, named}
use Rattle.guest_machine.specs.Recorded.{IsAfter, Recorded}
use Rattle.session_effects.specs.declared.halt.Halt.{Halt}
use Rattle.session_effects.specs.declared.halt.Halt.TheVariants as halt

-- the machine to which the records of a history lead
abbrev pub machine_of : List Record → Machine
machine_of history = machine_after (named history)

-- this is the one to which they lead, and they are the records of a run
pub record IsReady (r : Recorded) (history : List Record) : Type 0 where
  pub is_after : IsAfter r (named history)
  pub is_run : IsRun history

-- what keeps a machine from being made: the records, or want of memory
abbrev pub IsNotMade : Halt → Type 0
IsNotMade (halt.Differs d) = Unit {0}
IsNotMade halt.NoMemory = Unit {0}
IsNotMade halt.Source = ⊥
IsNotMade halt.Long = ⊥
IsNotMade halt.Sink = ⊥
IsNotMade halt.Disk = ⊥
IsNotMade (halt.Full log payload) = ⊥
