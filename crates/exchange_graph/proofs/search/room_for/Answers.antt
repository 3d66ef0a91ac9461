use Rattle.std.proofs.Common.{rules, ◌<◌, ◌≤◌, ◌+◌, ℕ, List, length, take, get_or, subst, arith}
use Rattle.std.specs.Prelude.{All}
use Rattle.std.proofs.lemmas.List.{take_all}
use Rattle.std.proofs.lemmas.List.Elements.{All-more, All-weaker}
use Rattle.exchange_graph.proofs.search.room_for.Goals as goal

below-more : (xs : List ℕ) (i room next : ℕ) → i < length xs → All (λ n. n < room) (take i xs) → room ≤ next → get_or xs i 0 < next → All (λ n. n < next) (take (i + 1) xs)
below-more xs i room next inside below grows here =
    All-more (λ n. n < next) xs i 0 inside (All-weaker (λ n. n < room) (λ n. n < next) (λ n h. omega (arith, h, grows)) (take i xs) below) here

pub loop-number-preserved : goal.loop-number-preserved
loop-number-preserved c = record {
  few = search (rules, arith);
  rows = search (rules, arith);
  below = below-more c.args.from.now c.loop-number.number-index c.loop-number.room c.max-room.result (search rules) c.loop-number.invariant.below (search (rules, arith)) (search (rules, arith));
}

pub returns-clause-from : goal.returns-clause-from
returns-clause-from c =
    subst (λ (xs : List ℕ). All (λ n. n < c.loop-number.room) xs) (take_all c.loop-number.number-index c.args.from.now c.loop-number-test.false) c.loop-number.invariant.below
