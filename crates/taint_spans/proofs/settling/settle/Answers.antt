use Rattle.taint_sets.specs.Numbered.{members_of}
use Rattle.taint_spans.specs.Spans.{members_from}
use Rattle.taint_spans.proofs.Members.{if-ok, same-append, same-of, union-like}
use Rattle.taint_spans.proofs.Standing.{plain-trans}
use Rattle.taint_spans.proofs.settling.settle.Goals as goal

pub returns-clause-members : goal.returns-clause-members
returns-clause-members c =
    let old = c.args.sets.now in
    if-ok c.unite.result _ _ c.unite.ensures.members (λ set union.
    same-append (members_of c.unite.new.self set) (members_of old c.args.span.base) (members_from old c.args.span.first c.args.span.len)
    (union-like _ _ _ _ _ union (same-of _ _ (c.join.ensures.before.same c.args.span.base c.requires.base)) c.in_ok-bytes.ensures.members))

pub join-requires-clause-there : goal.join-requires-clause-there
join-requires-clause-there c = c.requires.bytes

pub join-requires-clause-fits : goal.join-requires-clause-fits
join-requires-clause-fits c = c.requires.fits

pub returns-in_err-bytes-clause-before : goal.returns-in_err-bytes-clause-before
returns-in_err-bytes-clause-before c = c.join.ensures.before

pub unite-requires-clause-first : goal.unite-requires-clause-first
unite-requires-clause-first c = c.join.ensures.before.there c.args.span.base c.requires.base

pub unite-requires-clause-second : goal.unite-requires-clause-second
unite-requires-clause-second c = c.in_ok-bytes.ensures.set

pub returns-clause-set : goal.returns-clause-set
returns-clause-set c = c.unite.ensures.set

pub returns-clause-before : goal.returns-clause-before
returns-clause-before c = plain-trans c.args.sets.now c.join.new.sets c.unite.new.self c.join.ensures.before c.unite.ensures.before
