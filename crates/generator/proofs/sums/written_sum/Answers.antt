use Rattle.std.proofs.Common.{◌≡◌, List, ℕ, ap, length, arith}
use Rattle.generator.specs.Sums.{written_by}
use Rattle.generator.proofs.Written.{few-more}
use Rattle.generator.proofs.sums.written_sum.Goals as goal

pub add_bytes-sum-requires : goal.add_bytes-sum-requires
add_bytes-sum-requires c =
    let few = few-more c.args.entries.now c.loop-entry.entry-index c.entry-item.result c.loop-entry-test.true c.entry-item.is in
    let here : length c.written_by.result.now ≡ length (written_by c.entry-item.result) = ap (λ (b : List ℕ). length b) c.written_by.ensures in
    record { few = omega (arith, few, here, c.loop-entry.invariant.1, c.requires.few) }
