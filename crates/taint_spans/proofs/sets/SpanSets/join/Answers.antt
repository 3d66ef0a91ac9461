use Rattle.std.proofs.Common.{◌≡◌, false, sym, subst, ap, ◌∙◌}
use Rattle.set_store.specs.Sets.{IsUnionOf}
use Rattle.taint_sets.specs.Numbered as plain
use Rattle.taint_spans.specs.Numbered.{Numbered, StandAsBefore, is_span, members_of}
use Rattle.taint_spans.specs.Sound.{lists_of}
use Rattle.taint_spans.proofs.Keeping.{sound-grown}
use Rattle.taint_spans.proofs.Members.{if-ok, same-of, same-trans, union-like}
use Rattle.taint_spans.proofs.Standing.{lists-same, plain-members, plain-set, stand-both, stand-trans}
use Rattle.taint_spans.proofs.sets.SpanSets.join.Goals as goal

pub invariant_of-self : goal.invariant_of-self
invariant_of-self c = sound-grown c.self.inside.sets c.unite.new.self c.self.inside.spans c.self.inside.settled.items c.unite.ensures.before c.self.invariant

pub invariant_of-self-2 : goal.invariant_of-self-2
invariant_of-self-2 c = sound-grown c.self.inside.sets c.unite.new.self c.self.inside.spans c.self.inside.settled.items c.unite.ensures.before c.self.invariant

pub returns-in_err-unite-clause-before : goal.returns-in_err-unite-clause-before
returns-in_err-unite-clause-before c =
    let inside = c.self.inside in
    let after : Numbered = record { sets = c.unite.new.self; spans = lists_of c.unite.new.self inside.spans } in
    stand-trans c.args.self.now c.settle-2.new.self after (stand-trans c.args.self.now c.settle.new.self c.settle-2.new.self c.settle.ensures.before c.settle-2.ensures.before)
    (subst (λ sets. StandAsBefore sets after) c.self.view_is
    (stand-both inside.sets c.unite.new.self (lists_of inside.sets inside.spans) (lists_of c.unite.new.self inside.spans) c.unite.ensures.before
    (lists-same inside.sets c.unite.new.self inside.spans c.unite.ensures.before c.self.invariant.are_spans)))

pub returns-clause-before : goal.returns-clause-before
returns-clause-before c =
    let inside = c.self.inside in
    let after : Numbered = record { sets = c.unite.new.self; spans = lists_of c.unite.new.self inside.spans } in
    stand-trans c.args.self.now c.settle-2.new.self after (stand-trans c.args.self.now c.settle.new.self c.settle-2.new.self c.settle.ensures.before c.settle-2.ensures.before)
    (subst (λ sets. StandAsBefore sets after) c.self.view_is
    (stand-both inside.sets c.unite.new.self (lists_of inside.sets inside.spans) (lists_of c.unite.new.self inside.spans) c.unite.ensures.before
    (lists-same inside.sets c.unite.new.self inside.spans c.unite.ensures.before c.self.invariant.are_spans)))

pub returns-clause-set : goal.returns-clause-set
returns-clause-set c =
    let after : Numbered = record { sets = c.unite.new.self; spans = lists_of c.unite.new.self c.self.inside.spans } in
    if-ok c.narrow.result _ _ c.narrow.ensures (λ number is.
    plain-set after number (subst (λ n. is_span n ≡ false) (sym is.0) is.1) (subst (plain.IsSet c.unite.new.self) (sym is.0) c.in_ok-unite.ensures.set))

pub returns-clause-members : goal.returns-clause-members
returns-clause-members c =
    let inside = c.self.inside in
    let new = c.unite.new.self in
    let after : Numbered = record { sets = new; spans = lists_of new inside.spans } in
    let mid = ap (λ (sets : Numbered). sets.sets) c.self.view_is in
    let first = same-trans _ _ _ (same-of _ _ (ap (λ s. plain.members_of s c.in_ok-first.first) mid ∙ c.settle-2.ensures.plain.same c.in_ok-first.first c.in_ok-first.ensures.set)) c.in_ok-first.ensures.members in
    let second = same-trans _ _ _ (same-of _ _ (ap (λ s. plain.members_of s c.in_ok-second.second) mid)) (same-trans _ _ _ c.in_ok-second.ensures.members (same-of _ _ (c.settle.ensures.before.same c.args.second c.requires.second))) in
    if-ok c.narrow.result _ _ c.narrow.ensures (λ number is.
    subst (λ l. IsUnionOf l (members_of c.args.self.now c.args.first) (members_of c.args.self.now c.args.second))
    (sym (plain-members after number (subst (λ n. is_span n ≡ false) (sym is.0) is.1) ∙ ap (plain.members_of new) is.0))
    (union-like _ _ _ _ _ c.in_ok-unite.ensures.members first second))

pub returns-in_err-first-clause-before : goal.returns-in_err-first-clause-before
returns-in_err-first-clause-before c = c.settle.ensures.before

pub returns-in_err-second-clause-before : goal.returns-in_err-second-clause-before
returns-in_err-second-clause-before c = stand-trans c.args.self.now c.settle.new.self c.settle-2.new.self c.settle.ensures.before c.settle-2.ensures.before

pub settle-requires-2 : goal.settle-requires-2
settle-requires-2 c = c.settle.ensures.before.there c.args.second c.requires.second
