use Rattle.std.proofs.Common.{◌≡◌, ◌++◌, take, flat_map, string_bytes}
use Rattle.session_reports.specs.Processes.{process_text}
use Rattle.session_reports.proofs.processes.push_each.Given as goal

abbrev pub invariant-loop-pid : goal.invariant-loop-pid
invariant-loop-pid l =
    string_bytes l.lines ≡ string_bytes l.initial.lines ++ flat_map (process_text l.entries) (take l.pid-index l.pids)
