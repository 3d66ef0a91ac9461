use Rattle.std.proofs.Common.{◌≡◌, [], subst, inl, inr}
use Rattle.taint_spans.specs.Numbered.{members_of}
use Rattle.taint_spans.proofs.Standing.{has-within}
use Rattle.taint_spans.proofs.sets.SpanSets.widen.Goals as goal

pub returns-then-has_all-clause-members : goal.returns-then-has_all-clause-members
returns-then-has_all-clause-members c item =
    let empty = subst (λ n. members_of c.args.self.now n ≡ []) c.empty.ensures.zero c.empty.ensures.empty in
    let has = has-within c.args.self.now c.args.low c.args.high c.span-lower.result c.span-higher.result c.span-lower.ensures c.span-higher.ensures empty (c.has_all.ensures c.if-has_all.true) in
    (λ d. inr d, λ d. elim d [ inl low ↦ has item low | inr high ↦ high ])

pub returns-then-has_all-2-clause-members : goal.returns-then-has_all-2-clause-members
returns-then-has_all-2-clause-members c item =
    let empty = subst (λ n. members_of c.args.self.now n ≡ []) c.empty.ensures.zero c.empty.ensures.empty in
    let has = has-within c.args.self.now c.args.high c.args.low c.span-higher.result c.span-lower.result c.span-higher.ensures c.span-lower.ensures empty (c.has_all-2.ensures c.if-has_all-2.true) in
    (λ d. inl d, λ d. elim d [ inl low ↦ low | inr high ↦ has item high ])
