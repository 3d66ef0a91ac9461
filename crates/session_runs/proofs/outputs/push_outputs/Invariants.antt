-- What was written, and what is behind it, is all.
use Rattle.std.proofs.Common.{◌≡◌, ◌+◌, ◌≤◌, ◌++◌, drop, string_bytes}
use Rattle.session_runs.specs.Outputs.{outputs_text}
use Rattle.session_runs.proofs.outputs.push_outputs.Given as goal

abbrev pub invariant-loop-entry : goal.invariant-loop-entry
invariant-loop-entry l =
    record {
      written : string_bytes l.text ++ outputs_text l.event (drop l.entry-index l.entries) ≡ string_bytes l.initial.text ++ outputs_text l.first l.entries;
      counted : l.event ≤ l.first + l.entry-index;
    }
