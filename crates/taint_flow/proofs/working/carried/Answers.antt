use Rattle.std.proofs.Common.{inl, ◌-◌, Contains, ◌≡◌, ℕ, List, [], ◌∷◌, ◌+◌, ◌<◌, ◌≤◌, ◌++◌, slice_index, sym, subst, ◌∙◌, arith}
use Rattle.std.proofs.lemmas.List.{length-set}
use Rattle.std.proofs.lemmas.List.Elements.{Contains-append_left, Contains-append_right}
use Rattle.rv64_model.specs.Carries.{Left, Right, first_bytes}
use Rattle.taint_flow.specs.Flow.{reach}
use Rattle.taint_flow.specs.Gathered.{number_of}
use Rattle.taint_flow.specs.Results.{TakesOperands}
use Rattle.taint_flow.proofs.Bytes.{before-trans}
use Rattle.taint_flow.proofs.Grown.{both-more, last-of, reach-above, reach-below, takes-includes, takes-push}
use Rattle.taint_flow.proofs.Operands.{one-more, takes-still}
use Rattle.taint_flow.proofs.working.carried.Goals as goal

pub with_next-requires-clause-set : goal.with_next-requires-clause-set
with_next-requires-clause-set c = (c.loop-byte.invariant.set []).there

pub with_next-requires-clause-below : goal.with_next-requires-clause-below
with_next-requires-clause-below c some =
    let i = c.loop-byte.byte in
    let within : i < c.args.width = c.loop-byte-test.true in
    let few : c.args.width ≤ 8 = c.requires.width.1 in
    let below : i - 1 < 8 = omega arith in
    takes-includes c.args.sets.now c.loop-byte.sets (number_of c.args.first.now c.args.second.now []) (first_bytes Left i ++ first_bytes Right i) (Left (i - 1)) c.loop-byte.set
    c.loop-byte.invariant.before (c.requires.first.set (i - 1) below) (Contains-append_left (first_bytes Left i) (first_bytes Right i) (Left (i - 1)) (last-of Left i some)) (c.loop-byte.invariant.set [])

pub with_next-requires-in-loop-byte-clause-below : goal.with_next-requires-in-loop-byte-clause-below
with_next-requires-in-loop-byte-clause-below c some =
    let i = c.loop-byte.byte in
    let within : i < c.args.width = c.loop-byte-test.true in
    let few : c.args.width ≤ 8 = c.requires.width.1 in
    let below : i - 1 < 8 = omega arith in
    let had = takes-includes c.args.sets.now c.loop-byte.sets (number_of c.args.first.now c.args.second.now []) (first_bytes Left i ++ first_bytes Right i) (Right (i - 1)) c.loop-byte.set
    c.loop-byte.invariant.before (c.requires.second.set (i - 1) below) (Contains-append_right (first_bytes Left i) (first_bytes Right i) (Right (i - 1)) (last-of Right i some)) (c.loop-byte.invariant.set []) in
    let there = c.loop-byte.invariant.before.there (slice_index c.args.second.now (i - 1)) (c.requires.second.set (i - 1) below) in
    λ item h. (c.in_ok-lower.ensures.members item).1 (inl (had item (subst (λ l. Contains l item) (c.with_next.ensures.before.same (slice_index c.args.second.now (i - 1)) there) h)))

pub returns-in_err-lower-clause-before : goal.returns-in_err-lower-clause-before
returns-in_err-lower-clause-before c = before-trans c.args.sets.now c.loop-byte.sets c.with_next.new.sets c.loop-byte.invariant.before c.with_next.ensures.before

pub returns-in_err-set-clause-before : goal.returns-in_err-set-clause-before
returns-in_err-set-clause-before c =
    before-trans c.args.sets.now c.with_next.new.sets c.with_next-in-loop-byte.new.sets
    (before-trans c.args.sets.now c.loop-byte.sets c.with_next.new.sets c.loop-byte.invariant.before c.with_next.ensures.before) c.with_next-in-loop-byte.ensures.before

pub loop-byte-preserved : goal.loop-byte-preserved
loop-byte-preserved c =
    let i = c.loop-byte.byte in
    let within : i < c.args.width = c.loop-byte-test.true in
    let few : c.args.width ≤ 8 = c.requires.width.1 in
    let below : i < 8 = omega arith in
    let lower_before = before-trans c.args.sets.now c.loop-byte.sets c.with_next.new.sets c.loop-byte.invariant.before c.with_next.ensures.before in
    let grown : (loaded : List ℕ) → TakesOperands c.args.sets.now c.with_next-in-loop-byte.new.sets (number_of c.args.first.now c.args.second.now loaded) (first_bytes Left (i + 1) ++ first_bytes Right (i + 1)) c.in_ok-set.set =
    λ loaded. both-more c.args.sets.now c.with_next-in-loop-byte.new.sets (number_of c.args.first.now c.args.second.now loaded) i c.in_ok-set.set
    (takes-push c.args.sets.now c.with_next.new.sets c.with_next-in-loop-byte.new.sets (number_of c.args.first.now c.args.second.now loaded) ((first_bytes Left i ++ first_bytes Right i) ++ Left i ∷ []) (Right i) c.in_ok-lower.lower c.in_ok-set.set
    lower_before (c.requires.second.set i below)
    (takes-push c.args.sets.now c.loop-byte.sets c.with_next.new.sets (number_of c.args.first.now c.args.second.now loaded) (first_bytes Left i ++ first_bytes Right i) (Left i) c.loop-byte.set c.in_ok-lower.lower
    c.loop-byte.invariant.before (c.requires.first.set i below) (c.loop-byte.invariant.set loaded) c.in_ok-lower.ensures.set c.in_ok-lower.ensures.members)
    c.in_ok-set.ensures.set c.in_ok-set.ensures.members) in
    record {
      len = length-set c.loop-byte.numbers i c.in_ok-set.set ∙ c.loop-byte.invariant.len;
      set = grown;
      bytes = λ loaded. one-more c.args.sets.now c.with_next-in-loop-byte.new.sets (number_of c.args.first.now c.args.second.now loaded) (λ k. first_bytes Left (k + 1) ++ first_bytes Right (k + 1)) c.loop-byte.numbers i c.in_ok-set.set
          (subst (λ n. i < n) (sym c.loop-byte.invariant.len) below)
          (λ k h. (takes-still c.args.sets.now c.with_next.new.sets c.with_next-in-loop-byte.new.sets (number_of c.args.first.now c.args.second.now loaded) (first_bytes Left (k + 1) ++ first_bytes Right (k + 1)) (slice_index c.loop-byte.numbers k) c.with_next-in-loop-byte.ensures.before (takes-still c.args.sets.now c.loop-byte.sets c.with_next.new.sets (number_of c.args.first.now c.args.second.now loaded) (first_bytes Left (k + 1) ++ first_bytes Right (k + 1)) (slice_index c.loop-byte.numbers k) c.with_next.ensures.before (c.loop-byte.invariant.bytes loaded k h))))
          (grown loaded);
      before = before-trans c.args.sets.now c.with_next.new.sets c.with_next-in-loop-byte.new.sets lower_before c.with_next-in-loop-byte.ensures.before;
    }

pub loop-byte-2-init : goal.loop-byte-2-init
loop-byte-2-init c = record {
  len = c.loop-byte.invariant.len;
  bytes = λ loaded k h.
      let done : c.args.width ≤ c.loop-byte.byte = c.loop-byte-test.false in
      let less : k < c.loop-byte.byte = omega arith in
      subst (λ n. TakesOperands c.args.sets.now c.loop-byte.sets (number_of c.args.first.now c.args.second.now loaded) (first_bytes Left n ++ first_bytes Right n) (slice_index c.loop-byte.numbers k)) (sym (reach-below c.args.width k h)) (c.loop-byte.invariant.bytes loaded k less);
}

pub loop-byte-2-preserved : goal.loop-byte-2-preserved
loop-byte-2-preserved c =
    let i = c.loop-byte-2.byte in
    let below : i < 8 = c.loop-byte-2-test.true in
    let done : c.args.width ≤ c.loop-byte.byte = c.loop-byte-test.false in
    let within : c.loop-byte.byte ≤ c.args.width = c.loop-byte.auto.byte-end in
    let from : c.args.width ≤ i = c.loop-byte-2.auto.byte in
    let at_end : c.loop-byte.byte ≡ c.args.width = omega arith in
    record {
      len = length-set c.loop-byte-2.numbers i c.loop-byte.set ∙ c.loop-byte-2.invariant.len;
      bytes = λ loaded. one-more c.args.sets.now c.loop-byte.sets (number_of c.args.first.now c.args.second.now loaded) (λ k. first_bytes Left (reach c.args.width k) ++ first_bytes Right (reach c.args.width k)) c.loop-byte-2.numbers i c.loop-byte.set
          (subst (λ n. i < n) (sym c.loop-byte-2.invariant.len) below)
          (c.loop-byte-2.invariant.bytes loaded)
          (subst (λ n. TakesOperands c.args.sets.now c.loop-byte.sets (number_of c.args.first.now c.args.second.now loaded) (first_bytes Left n ++ first_bytes Right n) c.loop-byte.set) (at_end ∙ sym (reach-above c.args.width i c.requires.width from)) (c.loop-byte.invariant.set loaded));
    }
