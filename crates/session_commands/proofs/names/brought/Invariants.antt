use Rattle.std.proofs.Common.{◌≡◌, drop, option_map}
use Rattle.history_model.specs.Names.{brought_from}
use Rattle.history_model.specs.Names as names
use Rattle.session_commands.proofs.names.brought.Given as goal

abbrev pub invariant-loop-entry : goal.invariant-loop-entry
invariant-loop-entry l = names.brought l.entries l.name ≡ brought_from (drop l.entry-index l.entries) l.name (option_map (λ bytes. bytes.now) l.last)
