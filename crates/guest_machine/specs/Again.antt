-- The inputs that records name, one by one, and what it costs to run them.
use Rattle.std.specs.Prelude.{ℕ, ◌+◌, Bool, true, false, List, [], ◌∷◌, count_by}
use Rattle.arn_base.specs.declared.records.Record.{Record}
use Rattle.arn_base.specs.declared.records.Record.TheVariants as entry
use Rattle.arn_model.specs.Run.{Input, File, Boot, Typed, Unplug, Slice, instructions_in, run}
use Rattle.log_model.specs.Records.{named, reply_behind}

-- the input that a record names, with these records behind it
abbrev pub named_first : Record → List Record → List Input
named_first (entry.File name bytes) behind = File name bytes ∷ []
named_first (entry.Boot name give) behind = Boot name ∷ []
named_first (entry.Typed bytes) behind = Typed bytes ∷ []
named_first (entry.Unplug device) behind = Unplug device ∷ []
named_first (entry.Slice pid ran) behind = Slice pid ran (reply_behind behind) ∷ []
named_first (entry.Signal pid signal cut handler) behind = []
named_first (entry.Call pid number result more) behind = []
named_first (entry.End pid status) behind = []

-- the record names a slice
abbrev pub is_slice : Record → Bool
is_slice (entry.File name bytes) = false
is_slice (entry.Boot name give) = false
is_slice (entry.Typed bytes) = false
is_slice (entry.Unplug device) = false
is_slice (entry.Slice pid ran) = true
is_slice (entry.Signal pid signal cut handler) = false
is_slice (entry.Call pid number result extra) = false
is_slice (entry.End pid status) = false

-- how many instructions the inputs that records name run, and how many slices they name
abbrev pub rebuild_cost : List Record → ℕ
rebuild_cost entries = instructions_in (run (named entries)) + count_by is_slice entries
