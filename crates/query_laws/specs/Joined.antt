-- Which bytes an event has, by a test.
use Rattle.std.specs.Prelude.{ℕ, nat_lt, ◌&&◌, Bool, false, Option, Some, None, is_some}
use Rattle.arn_base.specs.declared.records.Record.{Record}
use Rattle.acts_model.specs.Records.{event_len}
use Rattle.acts_model.specs.Transfers.{is_private}
use Rattle.history_model.specs.Exchanges.{founded}
use Rattle.lineage_model.specs.Flow.{At, Byte, StartRegister, StartSlot, StartMemory}

-- a register of a process, but x0, and a byte of it
abbrev pub is_register_byte : ℕ → ℕ → Bool
is_register_byte r i = nat_lt 0 r && (nat_lt r 32 && nat_lt i 8)

-- whether an event has a byte
abbrev pub has_byte : Record → At → Bool
has_byte e (Byte k) = nat_lt k (event_len e)
has_byte e (StartRegister r i) = is_some (founded e) && is_register_byte r i
has_byte e (StartSlot r i) = is_some (founded e) && is_register_byte r i
has_byte e (StartMemory at) = is_some (founded e) && is_private at

abbrev pub is_there : Option Record → At → Bool
is_there None at = false
is_there (Some e) at = has_byte e at
