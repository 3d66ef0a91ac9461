use Rattle.std.proofs.Common.{sym, ◌∙◌}
use Rattle.lineage_join.specs.Laws.{reaches}
use Rattle.followed_groups.specs.Following.{items_followed}
use Rattle.followed_pairs.proofs.Outward.{out-more}
use Rattle.followed_pairs.proofs.sinks.add_event.Goals as goal

pub returns-in_ok-add_sink : goal.returns-in_ok-add_sink
returns-in_ok-add_sink c =
    out-more c.args.entries.now (reaches c.args.entries.now (items_followed c.args.followed.now)) c.args.asked c.args.event c.args.groups.now c.args.found.now c.add_sink.new.found (sym c.goes_out.ensures ∙ c.if-goes_out.true) c.in_ok-add_sink.ensures
