use Rattle.exchange_graph.proofs.Edges.{link, laid-more}
use Rattle.exchange_graph.proofs.graph.lay.Goals as goal

pub loop-link-preserved : goal.loop-link-preserved
loop-link-preserved c =
    laid-more c.args.links.now c.loop-link.link-index (link 0 0) c.loop-link.sources c.loop-link.sinks c.add.new.self c.add-in-loop-link.new.self c.loop-link-test.true c.loop-link.invariant c.in_ok-add.ensures.ok c.in_ok-add-2.ensures.ok
