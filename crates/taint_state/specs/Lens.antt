-- How many bytes an act moves, as its event has them.
use Rattle.std.specs.Prelude.{◌≡◌, ℕ, length, Option, Some, None, IfSome}
use Rattle.arn_base.specs.declared.machine.Cpu.{Cpu}
use Rattle.arn_base.specs.declared.records.Record.{Record}
use Rattle.acts_model.specs.Acts.{Act, Starts, Receives, Gives}
use Rattle.acts_model.specs.Records.{event_len}
use Rattle.acts_model.specs.Told.{act_of}

-- what it received, what it gave, or the image file
abbrev pub moved_len : Act → Option ℕ
moved_len (Receives at bytes result) = Some (length bytes)
moved_len (Gives at len result) = Some len
moved_len (Starts file block block_len) = Some (length file)
moved_len act = None

-- so many bytes the event has
abbrev pub HasLen : ℕ → Act → Type 0
HasLen count act = IfSome (moved_len act) (λ len. len ≡ count)

-- of each act that a record tells
abbrev pub ActsHaveLen : Type 0
ActsHaveLen = (cpu : Cpu) (e : Record) → IfSome (act_of cpu e) (HasLen (event_len e))
