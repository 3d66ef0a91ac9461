-- Devices that were unplugged in a history.
use Rattle.std.specs.Prelude.{ℕ, ◌==◌, Bool, List, filter_map, Option, Some, None}
use Rattle.std.specs.List.{list_any}
use Rattle.arn_base.specs.declared.records.Record.{Record}
use Rattle.arn_base.specs.declared.records.Record.TheVariants as entry

-- the device that a record says was unplugged
abbrev pub unplugged_by : Record → Option ℕ
unplugged_by (entry.Unplug device) = Some device
unplugged_by other = None

-- the devices that records say were unplugged, in order
abbrev pub unplugged_in : List Record → List ℕ
unplugged_in entries = filter_map unplugged_by entries

-- the device of this number was unplugged: no slot holds it any more, whatever a session is handed
abbrev pub is_gone : List Record → ℕ → Bool
is_gone entries device = list_any (λ d. d == device) (unplugged_in entries)
