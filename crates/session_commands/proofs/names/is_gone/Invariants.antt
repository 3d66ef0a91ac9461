use Rattle.std.proofs.Common.{◌≡◌, drop}
use Rattle.history_model.specs.Unplugged.{is_gone}
use Rattle.session_commands.proofs.names.is_gone.Given as goal

abbrev pub invariant-loop-entry : goal.invariant-loop-entry
invariant-loop-entry l = is_gone l.entries l.device ≡ is_gone (drop l.entry-index l.entries) l.device
