use Rattle.std.proofs.Common.{◌≡◌, ◌++◌, List, drop}
use Rattle.arn_base.specs.declared.records.Record.{Record}
use Rattle.history_index.specs.Indexes.{Indexes}
use Rattle.history_model.specs.Groups.{event_group}
use Rattle.exchange_graph.specs.Links.{byte_links}
use Rattle.exchange_graph.proofs.links.push_origins.Given as goal

abbrev pub invariant-loop-origin : goal.invariant-loop-origin
invariant-loop-origin l =
    (entries : List Record) → Indexes l.index entries → l.links.items ++ byte_links (event_group entries) l.to (drop l.origin-index l.origins) ≡ l.initial.links.items ++ byte_links (event_group entries) l.to l.origins
