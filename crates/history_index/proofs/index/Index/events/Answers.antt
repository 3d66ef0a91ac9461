use Rattle.std.proofs.Common.{◌∙◌}
use Rattle.history_index.proofs.Lookups.{events-told}
use Rattle.history_index.proofs.index.Index.events.Goals as goal

pub returns : goal.returns
returns c entries i = c.event_count.ensures ∙ events-told c.args.self.now entries i
