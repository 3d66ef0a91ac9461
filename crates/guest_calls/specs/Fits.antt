-- How much a call's record holds beside the result.
use Rattle.std.specs.Prelude.{◌<◌, ◌≤◌, ◌^◌, IsTrue, length}
use Rattle.arn_base.specs.declared.records.Extra.{Extra}
use Rattle.arn_base.specs.declared.records.Extra.TheVariants as extra
use Rattle.parts_model.specs.declared.limits.TheConstants.{MOST_FILE_BYTES, MOST_TRANSFER}
use Rattle.parts_model.specs.Files.{is_name}

-- bytes and their origins are no more than a file has, bytes that are moved no more than one call moves, and names are names
abbrev pub IsShort : Extra → Type 0
IsShort extra.Nothing = Unit {0}
IsShort (extra.Give give) = (length give.bytes ≤ MOST_FILE_BYTES) × (length give.origins ≤ MOST_FILE_BYTES)
IsShort (extra.Start start) = length start.blocks < 2 ^ 16
IsShort (extra.Put file at bytes) = length bytes ≤ MOST_TRANSFER
IsShort (extra.Console bytes) = length bytes ≤ MOST_TRANSFER
IsShort (extra.Reply device bytes) = length bytes ≤ MOST_TRANSFER
IsShort extra.Fault = Unit {0}
IsShort extra.Absent = Unit {0}
IsShort (extra.Name file path) = IsTrue (is_name path)
IsShort (extra.Sent device bytes) = length bytes ≤ MOST_TRANSFER
