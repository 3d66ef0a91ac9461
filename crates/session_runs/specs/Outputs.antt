-- What records tell that processes wrote to the console.
use Rattle.std.specs.Prelude.{ℕ, ◌+◌, if◌then◌else◌, List, [], ◌∷◌, ◌++◌}
use Rattle.arn_base.specs.declared.records.Extra.{Extra}
use Rattle.arn_base.specs.declared.records.Extra.TheVariants as extra
use Rattle.arn_base.specs.declared.records.Record.{Record}
use Rattle.arn_base.specs.declared.records.Record.TheVariants as entry
use Rattle.acts_model.specs.Records.{is_event}
use Rattle.arn_lines.specs.Texts.{out_text}

-- the line of an event that wrote at least one byte
abbrev pub written_text : ℕ → ℕ → Extra → List ℕ
written_text event pid (extra.Console (b ∷ bytes)) = out_text event pid (b ∷ bytes)
written_text event pid more = []

abbrev pub output_text : ℕ → Record → List ℕ
output_text event (entry.Call pid number result more) = written_text event pid more
output_text event other = []

-- the lines of records, whose events are numbered from here on
abbrev pub outputs_text : ℕ → List Record → List ℕ
outputs_text event [] = []
outputs_text event (e ∷ entries) = if is_event e then output_text event e ++ outputs_text (event + 1) entries else outputs_text event entries
