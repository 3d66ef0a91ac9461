use Rattle.std.proofs.Common.{◌<◌, length, arith, sym, ap, ◌∙◌, None}
use Rattle.guest_procs.specs.Shown.{shown}
use Rattle.guest_procs.proofs.Numbers.{process-shown}
use Rattle.guest_procs.proofs.slots.find.Goals as goal

pub returns : goal.returns
returns c =
    let some : 0 < c.args.pid = omega arith in
    let inside : c.place-2.result < length c.args.all.now = omega arith in
    let h = process-shown c.args.all.now c.args.pid c.place-2.result None some c.place-2.ensures inside in
    ap shown c.as_ref.ensures.value ∙ sym h
