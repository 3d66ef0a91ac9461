use Rattle.std.proofs.Common.{sym, ◌∙◌}
use Rattle.replayer.proofs.Founders.{event-placed, got-same}
use Rattle.replayer.proofs.founding.record_of.Goals as goal

pub returns : goal.returns
returns c =
    let at = c.get.ensures.lookup in
    got-same _ c.args.entries.now c.in_ok-place.place c.get.result at.3 at.1
    ∙ event-placed c.args.entries.now c.in_ok-place.place c.args.event (sym (c.in_ok-place.ensures c.args.entries.now c.requires.indexed))
