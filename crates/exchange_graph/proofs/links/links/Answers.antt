use Rattle.std.proofs.Common.{sym}
use Rattle.exchange_graph.proofs.Few.{founded-few}
use Rattle.exchange_graph.proofs.links.links.Goals as goal

pub push_event-requires : goal.push_event-requires
push_event-requires c =
    founded-few c.args.entries.now c.entry-item.result c.requires.indexed.stands c.requires.countable.few
    (c.loop-entry.entry-index, c.loop-entry-test.true, sym c.entry-item.is)
