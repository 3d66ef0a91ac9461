use Rattle.std.proofs.Common.{◌≡◌, ◌+◌, sym, ap, subst, ◌∙◌, arith}
use Rattle.taint_sets.specs.Numbered.{IsRowOf, IsSet, members_of}
use Rattle.taint_spans.specs.Spans.{members_from}
use Rattle.taint_spans.proofs.Members.{from-none, if-ok, row-same, rows-same, same-of, union-like, same-refl}
use Rattle.taint_spans.proofs.Standing.{plain-trans}
use Rattle.taint_spans.proofs.settling.+join.Goals as goal

pub returns-then-len-eq0-clause-members : goal.returns-then-len-eq0-clause-members
returns-then-len-eq0-clause-members t c =
    let none : c.args.len ≡ 0 = omega (arith, c.if-len-eq0.true) in
    same-of _ _ (c.empty.ensures.empty ∙ sym (ap (members_from c.args.sets.now c.args.first) none ∙ from-none c.args.sets.now c.args.first))

pub returns-then-count-len-clause-members : goal.returns-then-count-len-clause-members
returns-then-count-len-clause-members t c =
    row-same c.args.sets.now c.args.first c.args.len (members_of c.row.new.self c.in_ok-row.row)
    (subst (λ n. IsRowOf c.args.sets.now c.args.first n (members_of c.row.new.self c.in_ok-row.row)) c.if-count-len.true c.in_ok-row.ensures.members)

pub join-requires : goal.join-requires
join-requires t c =
    let few = c.in_ok-row.ensures.few in
    let some = few.0 in
    let most = few.1 in
    let fits = c.requires.fits in
    let falls = c.decreases in (
      omega (arith, some, most, falls),
      (
        (λ k h.
            let at : c.args.first + (c.in_ok-row.count + k) ≡ c.args.first + c.in_ok-row.count + k = omega arith in
            subst (IsSet c.row.new.self) at (c.row.ensures.before.there (c.args.first + (c.in_ok-row.count + k)) (c.requires.there (c.in_ok-row.count + k) (omega (arith, most, h))))),
        omega (arith, most, fits),
      ),
    )

pub returns-clause-members : goal.returns-clause-members
returns-clause-members t c =
    let old = c.args.sets.now in
    if-ok c.unite.result _ _ c.unite.ensures.members (λ set union.
    rows-same old c.row.new.self c.args.first c.in_ok-row.count c.args.len (members_of c.unite.new.self set) (members_of c.row.new.self c.in_ok-row.row) (members_of c.join.new.sets c.in_ok-others.others)
    c.in_ok-row.ensures.few.1 c.row.ensures.before c.requires.there c.in_ok-row.ensures.members c.in_ok-others.ensures.members
    (union-like _ _ _ _ _ union (same-of _ _ (c.join.ensures.before.same c.in_ok-row.row c.in_ok-row.ensures.set)) (same-refl _)))

pub returns-then-len-eq0-clause-set : goal.returns-then-len-eq0-clause-set
returns-then-len-eq0-clause-set t c = c.empty.ensures.set

pub returns-then-count-len-clause-set : goal.returns-then-count-len-clause-set
returns-then-count-len-clause-set t c = c.in_ok-row.ensures.set

pub returns-then-count-len-clause-before : goal.returns-then-count-len-clause-before
returns-then-count-len-clause-before t c = c.row.ensures.before

pub returns-in_err-row-clause-before : goal.returns-in_err-row-clause-before
returns-in_err-row-clause-before t c = c.row.ensures.before

pub returns-in_err-others-clause-before : goal.returns-in_err-others-clause-before
returns-in_err-others-clause-before t c = plain-trans c.args.sets.now c.row.new.self c.join.new.sets c.row.ensures.before c.join.ensures.before

pub unite-requires-clause-first : goal.unite-requires-clause-first
unite-requires-clause-first t c = c.join.ensures.before.there c.in_ok-row.row c.in_ok-row.ensures.set

pub unite-requires-clause-second : goal.unite-requires-clause-second
unite-requires-clause-second t c = c.in_ok-others.ensures.set

pub returns-clause-set : goal.returns-clause-set
returns-clause-set t c = c.unite.ensures.set

pub returns-clause-before : goal.returns-clause-before
returns-clause-before t c = plain-trans c.args.sets.now c.join.new.sets c.unite.new.self (plain-trans c.args.sets.now c.row.new.self c.join.new.sets c.row.ensures.before c.join.ensures.before) c.unite.ensures.before
