-- What processes wrote to the console, summed up.
use Rattle.std.specs.Prelude.{ℕ, List, [], ◌++◌, codes, decimal, flat_map}
use Rattle.arn_base.specs.declared.records.Extra.{Extra}
use Rattle.arn_base.specs.declared.records.Extra.TheVariants as extra
use Rattle.arn_base.specs.declared.records.Record.{Record}
use Rattle.arn_base.specs.declared.records.Record.TheVariants as entry

-- the bytes that a call wrote to the console
abbrev pub to_console : Extra → List ℕ
to_console (extra.Console bytes) = bytes
to_console other = []

-- the bytes that a record tells to have been written there
abbrev pub written_by : Record → List ℕ
written_by (entry.Call pid number result more) = to_console more
written_by other = []

-- all that records tell
abbrev pub written : List Record → List ℕ
written entries = flat_map written_by entries

-- `gen processes N bytes 4096 sum S pairs P`
abbrev pub gen_text : ℕ → ℕ → ℕ → List ℕ
gen_text processes sum pairs =
    codes "gen processes " ++ (decimal processes ++ (codes " bytes 4096 sum " ++ (decimal sum ++ (codes " pairs " ++ (decimal pairs ++ codes "\n")))))
