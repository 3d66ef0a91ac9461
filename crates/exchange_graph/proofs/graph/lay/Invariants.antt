use Rattle.std.proofs.Common.{take}
use Rattle.exchange_graph.specs.Graphs.{AreLaid}
use Rattle.exchange_graph.proofs.graph.lay.Given as goal

abbrev pub invariant-loop-link : goal.invariant-loop-link
invariant-loop-link l = AreLaid (record { sources = l.sources; sinks = l.sinks }) (take l.link-index l.links)
