use Rattle.std.proofs.Common.{◌≡◌, ◌++◌, ◌≤◌, drop}
use Rattle.history_model.specs.Events.{events}
use Rattle.history_model.specs.Groups.{event_group}
use Rattle.exchange_graph.specs.Links.{links_from, links_of}
use Rattle.exchange_graph.proofs.links.links.Given as goal

abbrev pub invariant-loop-entry : goal.invariant-loop-entry
invariant-loop-entry l =
    record {
      few : l.event ≤ l.entry-index;
      rest : l.links.items ++ links_from (event_group l.entries) l.event (events (drop l.entry-index l.entries)) ≡ links_of l.entries;
    }
