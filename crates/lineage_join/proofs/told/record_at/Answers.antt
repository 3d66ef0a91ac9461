use Rattle.std.proofs.Common.{◌∙◌, sym}
use Rattle.lineage_join.proofs.Records.{found}
use Rattle.lineage_join.proofs.told.record_at.Goals as goal

pub returns : goal.returns
returns c = c.at_place.ensures ∙ found c.args.entries.now c.args.event c.in_ok-place.place (sym (c.event_place.ensures c.args.entries.now c.requires) ∙ c.in_ok-place.was)
