use Rattle.std.proofs.Common.{refl, ◌∙◌, arith}
use Rattle.taint_group.proofs.Placing.{grown-by, nth-grown}
use Rattle.taint_group.proofs.places.grow.Goals as goal

pub loop-init : goal.loop-init
loop-init g c = record { same = λ p. refl; count = omega (arith, c.len-counter.ensures, c.args.values.now.ok) }

pub loop-preserved : goal.loop-preserved
loop-preserved g c =
    let so = c.loop.invariant in
    let items = c.in_ok-push.ensures.items in
    record {
      same = λ p. nth-grown c.loop.values.items c.push.new.self.items items p ∙ so.same p;
      count = omega (arith, so.count, grown-by c.loop.values.items c.push.new.self.items items);
    }

pub returns-clause-same : goal.returns-clause-same
returns-clause-same g c = c.loop.invariant.same

pub returns-clause-count : goal.returns-clause-count
returns-clause-count g c = omega (arith, c.loop.invariant.count, c.loop-test.false)
