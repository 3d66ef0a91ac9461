use Rattle.std.proofs.Common.{◌<◌, ◌^◌, length, arith, rules, ap}
use Rattle.guest_asm.proofs.Parting.{parts_few}
use Rattle.guest_asm.proofs.items.items.Goals as goal

pub overflow_add-number : goal.overflow_add-number
overflow_add-number c =
    let small : length c.args.text.now < 2 ^ 63 = search rules in
    omega (arith, parts_few 10 c.args.text.now, ap length c.in-Some.ensures.some, c.loop-line.invariant.number)
