use Rattle.std.proofs.Common.{◌≡◌, ◌-◌, arith, sym, ap, ◌∙◌, ◌++◌, replicate}
use Rattle.guest_asm.proofs.Pushing.{zeros_more, zeros_end}
use Rattle.guest_asm.proofs.encoding.push_zeros.Goals as goal

pub loop-init : goal.loop-init
loop-init c = ap (λ k. c.args.bytes.now ++ replicate k 0) (omega arith)

pub loop-preserved : goal.loop-preserved
loop-preserved c = zeros_more c.loop.bytes c.push.new.self c.args.count c.loop.counter c.loop-test.true c.in_ok-push.ensures.ok ∙ c.loop.invariant

pub returns : goal.returns
returns c =
    let none : c.args.count - c.loop.counter ≡ 0 = omega arith in
    sym (zeros_end c.loop.bytes c.args.count c.loop.counter none) ∙ c.loop.invariant
