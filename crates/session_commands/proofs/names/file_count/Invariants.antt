use Rattle.std.proofs.Common.{◌≡◌, take, count_by}
use Rattle.history_model.specs.Names.{is_file}
use Rattle.session_commands.proofs.names.file_count.Given as goal

abbrev pub invariant-loop-entry : goal.invariant-loop-entry
invariant-loop-entry l = l.count ≡ count_by is_file (take l.entry-index l.entries)
