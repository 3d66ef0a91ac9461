use Rattle.std.proofs.Common.{◌≡◌, ◌+◌, ◌-◌, arith, ◌<◌, slice_index, sym, subst, ◌∙◌}
use Rattle.std.proofs.lemmas.List.{length-set}
use Rattle.rv64_model.specs.Carries.{both}
use Rattle.set_store.specs.Sets.{IsUnionOf}
use Rattle.taint_spans.specs.Numbered.{members_of}
use Rattle.taint_flow.specs.Gathered.{number_of}
use Rattle.taint_flow.proofs.Bytes.{before-trans}
use Rattle.taint_flow.proofs.Grown.{takes-both, union-still}
use Rattle.taint_flow.proofs.Operands.{one-more, takes-still}
use Rattle.taint_flow.proofs.working.bytewise.Goals as goal

pub returns-in_err-set-clause-before : goal.returns-in_err-set-clause-before
returns-in_err-set-clause-before c = before-trans c.args.sets.now c.loop-byte.sets c.in_place.new.sets c.loop-byte.invariant.before c.in_place.ensures.before

pub loop-byte-preserved : goal.loop-byte-preserved
loop-byte-preserved c =
    let i = c.loop-byte.byte in
    record {
      set = c.in_ok-set.ensures.set;
      below = λ some.
          let first = slice_index c.args.first.now in
          let second = slice_index c.args.second.now in
          let same : i + 1 - 1 ≡ i = omega arith in
          subst (λ k. IsUnionOf (members_of c.in_place.new.sets c.in_ok-set.set) (members_of c.in_place.new.sets (first k)) (members_of c.in_place.new.sets (second k))) (sym same)
          (union-still c.loop-byte.sets c.in_place.new.sets (members_of c.in_place.new.sets c.in_ok-set.set) (first i) (second i) c.in_place.ensures.before
          (c.loop-byte.invariant.before.there (first i) (c.requires.first.set i c.loop-byte-test.true)) (c.loop-byte.invariant.before.there (second i) (c.requires.second.set i c.loop-byte-test.true))
          c.in_ok-set.ensures.members);
      len = length-set c.loop-byte.numbers i c.in_ok-set.set ∙ c.loop-byte.invariant.len;
      bytes = λ loaded.
          let number = number_of c.args.first.now c.args.second.now loaded in
          one-more c.args.sets.now c.in_place.new.sets number both c.loop-byte.numbers i c.in_ok-set.set
          (subst (λ n. i < n) (sym c.loop-byte.invariant.len) c.loop-byte-test.true)
          (λ k h. takes-still c.args.sets.now c.loop-byte.sets c.in_place.new.sets number (both k) (slice_index c.loop-byte.numbers k) c.in_place.ensures.before (c.loop-byte.invariant.bytes loaded k h))
          (takes-both c.args.sets.now c.loop-byte.sets c.in_place.new.sets number i c.in_ok-set.set c.loop-byte.invariant.before (c.requires.first.set i c.loop-byte-test.true) (c.requires.second.set i c.loop-byte-test.true)
          c.in_ok-set.ensures.set c.in_ok-set.ensures.members);
      before = before-trans c.args.sets.now c.loop-byte.sets c.in_place.new.sets c.loop-byte.invariant.before c.in_place.ensures.before;
    }
