use Rattle.std.proofs.Common.{length, ap, arith}
use Rattle.guest_give.proofs.RunForms.{given-whole}
use Rattle.guest_give.proofs.give_whole.Goals as goal

pub returns : goal.returns
returns c = record {
  given = given-whole c.args.event c.args.bytes.now _ c.in_ok-from_slice.ensures c.in_ok-whole.ensures.runs;
  few_bytes = omega (arith, ap length c.in_ok-from_slice.ensures);
  few_origins = c.in_ok-whole.ensures.few;
}
