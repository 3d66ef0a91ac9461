use Rattle.std.proofs.Common.{◌≡◌, ◌++◌, List, take, flat_map, string_bytes}
use Rattle.arn_base.specs.declared.records.Record.{Record}
use Rattle.history_index.specs.Indexes.{Indexes}
use Rattle.session_reports.specs.Groups.{group_text}
use Rattle.session_reports.proofs.groups.push_each.Given as goal

abbrev pub invariant-loop-group : goal.invariant-loop-group
invariant-loop-group l =
    (entries : List Record) → Indexes l.index entries
    → string_bytes l.lines ≡ string_bytes l.initial.lines ++ flat_map (group_text entries) (take l.group-index l.groups)
