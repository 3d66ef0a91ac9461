-- The events of a history, each with its LF.
use Rattle.std.specs.Prelude.{ℕ, List, [], ◌++◌, codes, decimal, Option, Some, None}
use Rattle.std.specs.Fmt.{signed_decimal}
use Rattle.std.specs.Int.{w64, cast_signed}
use Rattle.arn_base.specs.declared.records.Record.{Record}
use Rattle.arn_base.specs.declared.records.Record.TheVariants as entry
use Rattle.acts_model.specs.Records.{process_of}
use Rattle.arn_lines.specs.Texts.{line_end}

-- a number, or `-` where there is none
abbrev pub number_text : Option ℕ → List ℕ
number_text None = codes "-"
number_text (Some n) = decimal n

-- what a call answers, with its sign: 64 bits in two's complement
abbrev pub result_text : ℕ → List ℕ
result_text result = signed_decimal (cast_signed w64 result)

-- what happened; a slice is no event and has no word
abbrev pub what_text : Record → List ℕ
what_text (entry.File name bytes) = codes "file"
what_text (entry.Boot name give) = codes "boot"
what_text (entry.Typed bytes) = codes "type"
what_text (entry.Unplug device) = codes "unplug." ++ decimal device
what_text (entry.Slice pid ran) = []
what_text (entry.Signal pid signal cut handler) = codes "signal." ++ decimal signal
what_text (entry.Call pid number result more) = codes "call." ++ decimal number ++ codes "." ++ result_text result
what_text (entry.End pid status) = codes "end." ++ decimal status

-- `event E M P WHAT LEN`: at a moment, of a process if it has one, with so many bytes
abbrev pub event_line : ℕ → ℕ → Record → ℕ → List ℕ
event_line event moment e len =
    codes "event " ++ decimal event ++ codes " " ++ decimal moment ++ codes " " ++ number_text (process_of e) ++ codes " " ++ what_text e ++ codes " " ++ decimal len ++ line_end
