-- What is printed of the groups of a history.
use Rattle.std.specs.Prelude.{ℕ, List, ◌++◌, flat_map, length}
use Rattle.arn_base.specs.declared.records.Record.{Record}
use Rattle.history_model.specs.Groups.{count_of}
use Rattle.history_index.specs.Lookups.{groups_in, members_of}
use Rattle.report_texts.specs.Totals.{group_line, groups_line}

-- a group, with the number of its processes and what they have run
abbrev pub group_text : List Record → ℕ → List ℕ
group_text entries group = group_line group (length (members_of entries group)) (count_of entries group)

-- each group, in order of number, and behind them how many there are
abbrev pub groups_text : List Record → List ℕ
groups_text entries = flat_map (group_text entries) (groups_in entries) ++ groups_line (length (groups_in entries))
