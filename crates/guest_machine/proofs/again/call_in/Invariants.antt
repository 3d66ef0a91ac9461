use Rattle.std.proofs.Common.{◌≡◌, drop}
use Rattle.log_model.specs.Records.{reply_behind}
use Rattle.guest_machine.proofs.again.call_in.Given as goal

abbrev pub invariant-loop-entry : goal.invariant-loop-entry
invariant-loop-entry l = reply_behind l.behind ≡ reply_behind (drop l.entry-index l.behind)
