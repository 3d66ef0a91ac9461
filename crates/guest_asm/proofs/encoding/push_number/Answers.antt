use Rattle.std.proofs.Common.{◌≡◌, ◌-◌, arith, sym, ap, ◌∙◌, ◌++◌}
use Rattle.arn_base.specs.Window.{bytes_of}
use Rattle.guest_asm.proofs.Pushing.{number_more, number_end}
use Rattle.guest_asm.proofs.encoding.push_number.Goals as goal

pub loop-init : goal.loop-init
loop-init c = ap (λ k. c.args.bytes.now ++ bytes_of k c.args.number) (omega arith)

pub loop-preserved : goal.loop-preserved
loop-preserved c =
    number_more c.loop.bytes c.push.new.self c.args.len c.loop.counter c.loop.rest c.loop-test.true c.in_ok-push.ensures.ok ∙ c.loop.invariant

pub returns : goal.returns
returns c =
    let none : c.args.len - c.loop.counter ≡ 0 = omega arith in
    sym (number_end c.loop.bytes c.args.len c.loop.counter c.loop.rest none) ∙ c.loop.invariant
