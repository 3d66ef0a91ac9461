use Rattle.std.proofs.Common.{sym, subst, ◌∙◌, arith}
use Rattle.set_store.specs.Sets.{IsUnionOf}
use Rattle.taint_spans.specs.Numbered.{members_of}
use Rattle.taint_spans.proofs.Members.{if-ok, lengthens-is, lengthens-union, one-byte, one-more, same-of, union-like}
use Rattle.taint_spans.proofs.Standing.{behind-spans, plain-members, set-plain}
use Rattle.taint_spans.proofs.sets.SpanSets.add.Goals as goal

pub keep-requires : goal.keep-requires
keep-requires c =
    let sets = c.args.self.now in
    let longer = c.in-Some.ensures in
    let last = longer.last in
    let len = longer.len in
    let fits = c.ranges.byte.fits in
    lengthens-is sets.sets c.args.span c.in-Some.longer c.args.byte longer c.requires.span.is (set-plain sets c.args.byte (behind-spans c.args.byte c.requires.received) c.requires.byte) c.requires.received (omega (arith, last, len, fits))

pub returns-in-Some-clause-members : goal.returns-in-Some-clause-members
returns-in-Some-clause-members c =
    let sets = c.args.self.now in
    let union = lengthens-union sets.sets c.args.span c.in-Some.longer c.args.byte c.in-Some.ensures in
    if-ok c.keep.result _ _ c.keep.ensures.members (λ more same.
    subst (λ l. IsUnionOf l (members_of sets c.args.set) (members_of sets c.args.byte)) (sym same)
    (union-like _ _ _ _ _ union (same-of _ _ (sym c.requires.span.members)) (same-of _ _ (sym (plain-members sets c.args.byte (behind-spans c.args.byte c.requires.received))))))

pub keep-requires-2 : goal.keep-requires-2
keep-requires-2 c =
    let sets = c.args.self.now in
    let fits = c.ranges.byte.fits in
    one-byte c.settle.new.self.sets c.in_ok-base.base c.args.byte c.in_ok-base.ensures.set
    (c.settle.ensures.plain.there c.args.byte (set-plain sets c.args.byte (behind-spans c.args.byte c.requires.received) c.requires.byte)) c.requires.received (omega (arith, fits))

pub returns-clause-members : goal.returns-clause-members
returns-clause-members c =
    let sets = c.args.self.now in
    let apart = behind-spans c.args.byte c.requires.received in
    let there = set-plain sets c.args.byte apart c.requires.byte in
    let union = one-more c.settle.new.self.sets c.in_ok-base.base c.args.byte in
    if-ok c.keep-2.result _ _ c.keep-2.ensures.members (λ more same.
    subst (λ l. IsUnionOf l (members_of sets c.args.set) (members_of sets c.args.byte)) (sym same)
    (union-like _ _ _ _ _ union c.in_ok-base.ensures.members (same-of _ _ (c.settle.ensures.plain.same c.args.byte there ∙ sym (plain-members sets c.args.byte apart)))))
