use Rattle.std.proofs.Common.{refl, sym, ◌∙◌}
use Rattle.query_model.specs.Forth as model
use Rattle.followed_pairs.proofs.More.{any-at, none-at-all, none-yet}
use Rattle.followed_pairs.proofs.copies.has_copy.Goals as goal

pub loop-origin-init : goal.loop-origin-init
loop-origin-init c = refl

pub returns-then-is_copy : goal.returns-then-is_copy
returns-then-is_copy c =
    sym (any-at (model.is_copy c.args.asked.event c.args.asked.from c.args.asked.len) c.args.origins.now c.loop-origin.origin-index _ c.loop-origin-test.true (sym c.is_copy.ensures ∙ c.if-is_copy.true))

pub loop-origin-preserved : goal.loop-origin-preserved
loop-origin-preserved c =
    none-yet (model.is_copy c.args.asked.event c.args.asked.from c.args.asked.len) c.args.origins.now c.loop-origin.origin-index _ c.loop-origin-test.true c.loop-origin.invariant (sym c.is_copy.ensures ∙ c.if-is_copy.false)

pub returns : goal.returns
returns c = none-at-all (model.is_copy c.args.asked.event c.args.asked.from c.args.asked.len) c.args.origins.now c.loop-origin.origin-index c.loop-origin-test.false c.loop-origin.invariant
