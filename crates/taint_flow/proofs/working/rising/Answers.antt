use Rattle.std.proofs.Common.{◌-◌, ◌≡◌, ℕ, List, [], ◌+◌, ◌<◌, ◌≤◌, slice_index, sym, subst, ◌∙◌, arith}
use Rattle.std.proofs.lemmas.List.{length-set}
use Rattle.rv64_model.specs.Carries.{Left, first_bytes}
use Rattle.taint_flow.specs.Flow.{reach}
use Rattle.taint_flow.specs.Gathered.{number_of}
use Rattle.taint_flow.specs.Results.{TakesOperands}
use Rattle.taint_flow.proofs.Bytes.{before-trans}
use Rattle.taint_flow.proofs.Grown.{last-of, lefts-more, reach-above, reach-below, takes-includes, takes-push}
use Rattle.taint_flow.proofs.Operands.{one-more, takes-still}
use Rattle.taint_flow.proofs.working.rising.Goals as goal

pub with_next-requires-clause-set : goal.with_next-requires-clause-set
with_next-requires-clause-set c = (c.loop-byte.invariant.set [] []).there

pub with_next-requires-clause-below : goal.with_next-requires-clause-below
with_next-requires-clause-below c some =
    let i = c.loop-byte.byte in
    let within : i < c.args.width = c.loop-byte-test.true in
    let few : c.args.width ≤ 8 = c.requires.width.1 in
    let below : i - 1 < 8 = omega arith in
    takes-includes c.args.sets.now c.loop-byte.sets (number_of c.args.first.now [] []) (first_bytes Left i) (Left (i - 1)) c.loop-byte.set
    c.loop-byte.invariant.before (c.requires.first.set (i - 1) below) (last-of Left i some) (c.loop-byte.invariant.set [] [])

pub returns-in_err-set-clause-before : goal.returns-in_err-set-clause-before
returns-in_err-set-clause-before c = before-trans c.args.sets.now c.loop-byte.sets c.with_next.new.sets c.loop-byte.invariant.before c.with_next.ensures.before

pub loop-byte-preserved : goal.loop-byte-preserved
loop-byte-preserved c =
    let i = c.loop-byte.byte in
    let within : i < c.args.width = c.loop-byte-test.true in
    let few : c.args.width ≤ 8 = c.requires.width.1 in
    let below : i < 8 = omega arith in
    let grown : (second loaded : List ℕ) → TakesOperands c.args.sets.now c.with_next.new.sets (number_of c.args.first.now second loaded) (first_bytes Left (i + 1)) c.in_ok-set.set =
    λ second loaded. lefts-more c.args.sets.now c.with_next.new.sets (number_of c.args.first.now second loaded) i c.in_ok-set.set
    (takes-push c.args.sets.now c.loop-byte.sets c.with_next.new.sets (number_of c.args.first.now second loaded) (first_bytes Left i) (Left i) c.loop-byte.set c.in_ok-set.set
    c.loop-byte.invariant.before (c.requires.first.set i below) (c.loop-byte.invariant.set second loaded) c.in_ok-set.ensures.set c.in_ok-set.ensures.members) in
    record {
      len = length-set c.loop-byte.numbers i c.in_ok-set.set ∙ c.loop-byte.invariant.len;
      set = grown;
      bytes = λ second loaded. one-more c.args.sets.now c.with_next.new.sets (number_of c.args.first.now second loaded) (λ k. first_bytes Left (k + 1)) c.loop-byte.numbers i c.in_ok-set.set
          (subst (λ n. i < n) (sym c.loop-byte.invariant.len) below)
          (λ k h. (takes-still c.args.sets.now c.loop-byte.sets c.with_next.new.sets (number_of c.args.first.now second loaded) (first_bytes Left (k + 1)) (slice_index c.loop-byte.numbers k) c.with_next.ensures.before (c.loop-byte.invariant.bytes second loaded k h)))
          (grown second loaded);
      before = before-trans c.args.sets.now c.loop-byte.sets c.with_next.new.sets c.loop-byte.invariant.before c.with_next.ensures.before;
    }

pub loop-byte-2-init : goal.loop-byte-2-init
loop-byte-2-init c = record {
  len = c.loop-byte.invariant.len;
  bytes = λ second loaded k h.
      let done : c.args.width ≤ c.loop-byte.byte = c.loop-byte-test.false in
      let less : k < c.loop-byte.byte = omega arith in
      subst (λ n. TakesOperands c.args.sets.now c.loop-byte.sets (number_of c.args.first.now second loaded) (first_bytes Left n) (slice_index c.loop-byte.numbers k)) (sym (reach-below c.args.width k h)) (c.loop-byte.invariant.bytes second loaded k less);
}

pub loop-byte-2-preserved : goal.loop-byte-2-preserved
loop-byte-2-preserved c =
    let i = c.loop-byte-2.byte in
    let below : i < 8 = c.loop-byte-2-test.true in
    let done : c.args.width ≤ c.loop-byte.byte = c.loop-byte-test.false in
    let within : c.loop-byte.byte ≤ c.args.width = c.loop-byte.auto.byte-end in
    let from : c.args.width ≤ i = c.loop-byte-2.auto.byte in
    let at_end : c.loop-byte.byte ≡ c.args.width = omega arith in
    record {
      len = length-set c.loop-byte-2.numbers i c.loop-byte.set ∙ c.loop-byte-2.invariant.len;
      bytes = λ second loaded. one-more c.args.sets.now c.loop-byte.sets (number_of c.args.first.now second loaded) (λ k. first_bytes Left (reach c.args.width k)) c.loop-byte-2.numbers i c.loop-byte.set
          (subst (λ n. i < n) (sym c.loop-byte-2.invariant.len) below)
          (c.loop-byte-2.invariant.bytes second loaded)
          (subst (λ n. TakesOperands c.args.sets.now c.loop-byte.sets (number_of c.args.first.now second loaded) (first_bytes Left n) c.loop-byte.set) (at_end ∙ sym (reach-above c.args.width i c.requires.width from)) (c.loop-byte.invariant.set second loaded));
    }
