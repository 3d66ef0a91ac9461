use Rattle.std.proofs.Common.{slice_index, Contains, subst, sym, ◌∙◌}
use Rattle.taint_spans.specs.Numbered.{members_of}
use Rattle.taint_flow.proofs.Bytes.{added, added-none, added-same, before-refl}
use Rattle.taint_flow.proofs.gathering.with_byte.Goals as goal

pub returns-clause-adds : goal.returns-clause-adds
returns-clause-adds c =
    let not = c.if-not-has.false in
    added c.unite.result c.args.sets.now c.unite.new.self c.args.set c.args.mask c.args.byte (slice_index c.args.numbers.now c.args.byte) (sym c.has.ensures ∙ not) c.unite.ensures.set c.unite.ensures.members

pub returns-then-not-has-clause-adds : goal.returns-then-not-has-clause-adds
returns-then-not-has-clause-adds c = added-none c.args.sets.now c.args.set c.args.mask c.args.byte (slice_index c.args.numbers.now c.args.byte) (sym c.has.ensures ∙ c.if-not-has.true) c.requires.set

pub returns-then-not-has-clause-before : goal.returns-then-not-has-clause-before
returns-then-not-has-clause-before c = before-refl c.args.sets.now

pub returns-then-numbers-place-clause-adds : goal.returns-then-numbers-place-clause-adds
returns-then-numbers-place-clause-adds c =
    let sets = c.args.sets.now in
    let numbers = c.args.numbers.now in
    added-same sets c.args.set c.args.mask c.args.byte (slice_index numbers c.args.byte)
    (λ item h. c.requires.below c.if-byte-gt0.true (sym c.has-then-byte-gt0.ensures ∙ c.if-has.true) item (subst (λ n. Contains (members_of sets n) item) c.if-numbers-place.true h)) c.requires.set

pub returns-then-numbers-place-clause-before : goal.returns-then-numbers-place-clause-before
returns-then-numbers-place-clause-before c = before-refl c.args.sets.now

pub returns-clause-before : goal.returns-clause-before
returns-clause-before c = c.unite.ensures.before

pub unite-requires-clause-first : goal.unite-requires-clause-first
unite-requires-clause-first c = c.requires.set

pub unite-requires-clause-second : goal.unite-requires-clause-second
unite-requires-clause-second c = c.requires.numbers.set c.args.byte c.requires.byte
