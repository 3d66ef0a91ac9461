use Rattle.std.proofs.Common.{◌-◌, slice_index, sym, ap, subst, ◌∙◌}
use Rattle.set_store.specs.Sets.{HaveSame}
use Rattle.taint_sets.specs.Numbered as plain
use Rattle.taint_spans.specs.Numbered.{IsSet, Numbered, StandAsBefore, first_span, members_of}
use Rattle.taint_spans.specs.Sound.{lists_of}
use Rattle.taint_spans.proofs.Keeping.{known-settled, settled-now, sound-grown, sound-settled}
use Rattle.taint_spans.proofs.Members.{if-ok, same-of}
use Rattle.taint_spans.proofs.Standing.{lists-same, numbered-members, plain-before, plain-members, set-plain, span-of, stand-both, stand-same, within-list}
use Rattle.taint_spans.proofs.sets.SpanSets.settle.Goals as goal

pub returns-then-not-is_of_span-clause-set : goal.returns-then-not-is_of_span-clause-set
returns-then-not-is_of_span-clause-set c = set-plain c.args.self.now c.args.set (sym c.is_of_span.ensures ∙ c.if-not-is_of_span.true) c.requires

pub returns-then-not-is_of_span-clause-members : goal.returns-then-not-is_of_span-clause-members
returns-then-not-is_of_span-clause-members c = same-of _ _ (sym (plain-members c.args.self.now c.args.set (sym c.is_of_span.ensures ∙ c.if-not-is_of_span.true)))

pub returns-in-Some-clause-set : goal.returns-in-Some-clause-set
returns-in-Some-clause-set c =
    let inside = c.self.inside in
    let is = subst (λ sets. IsSet sets c.args.set) (sym c.self.view_is) c.requires in
    let found = span-of inside.sets inside.spans c.args.set (sym c.is_of_span.ensures ∙ c.if-not-is_of_span.false) is in
    let number = c.in-Some.ensures.0 ∙ ap (λ l. slice_index l (c.args.set - first_span)) c.as_slice.ensures.value in
    subst (λ (sets : Numbered). plain.IsSet sets.sets c.in-Some.known) c.self.view_is
    (known-settled inside.sets inside.spans inside.settled.items (c.args.set - first_span) c.in-Some.known found.0 c.self.invariant found.1 number c.in-Some.ensures.1).there

pub returns-in-Some-clause-members : goal.returns-in-Some-clause-members
returns-in-Some-clause-members c =
    let inside = c.self.inside in
    let is = subst (λ sets. IsSet sets c.args.set) (sym c.self.view_is) c.requires in
    let found = span-of inside.sets inside.spans c.args.set (sym c.is_of_span.ensures ∙ c.if-not-is_of_span.false) is in
    let number = c.in-Some.ensures.0 ∙ ap (λ l. slice_index l (c.args.set - first_span)) c.as_slice.ensures.value in
    subst (λ (sets : Numbered). HaveSame (plain.members_of sets.sets c.in-Some.known) (members_of sets c.args.set)) c.self.view_is
    (subst (HaveSame (plain.members_of inside.sets c.in-Some.known)) (sym found.2)
    (known-settled inside.sets inside.spans inside.settled.items (c.args.set - first_span) c.in-Some.known found.0 c.self.invariant found.1 number c.in-Some.ensures.1).members)

pub at-requires : goal.at-requires
at-requires c =
    let inside = c.self.inside in
    let is = subst (λ sets. IsSet sets c.args.set) (sym c.self.view_is) c.requires in
    let found = span-of inside.sets inside.spans c.args.set (sym c.is_of_span.ensures ∙ c.if-not-is_of_span.false) is in
    within-list inside.spans (c.args.set - first_span) found.0 found.1

pub settle-requires : goal.settle-requires
settle-requires c = c.self.invariant.are_spans (c.args.set - first_span) c.at.result c.at.ensures

pub invariant_of-self : goal.invariant_of-self
invariant_of-self c = sound-grown c.self.inside.sets c.settle.new.sets c.self.inside.spans c.self.inside.settled.items c.settle.ensures.before c.self.invariant

pub returns-in_err-settled-clause-before : goal.returns-in_err-settled-clause-before
returns-in_err-settled-clause-before c =
    let inside = c.self.inside in
    let after : Numbered = record { sets = c.settle.new.sets; spans = lists_of c.settle.new.sets inside.spans } in
    subst (λ sets. StandAsBefore sets after) c.self.view_is
    (stand-both inside.sets c.settle.new.sets (lists_of inside.sets inside.spans) (lists_of c.settle.new.sets inside.spans) c.settle.ensures.before
    (lists-same inside.sets c.settle.new.sets inside.spans c.settle.ensures.before c.self.invariant.are_spans))

pub invariant_of-self-2 : goal.invariant_of-self-2
invariant_of-self-2 c =
    let inside = c.self.inside in
    let new = c.settle.new.sets in
    let is = c.self.invariant.are_spans (c.args.set - first_span) c.at.result c.at.ensures in
    sound-settled new inside.spans inside.settled.items c.remember.new.numbers.items (c.args.set - first_span) c.in_ok-settled.settled c.at.result c.at.ensures
    (settled-now inside.sets new c.at.result c.in_ok-settled.settled c.settle.ensures.before is c.in_ok-settled.ensures.set c.in_ok-settled.ensures.members)
    c.remember.ensures.kept (sound-grown inside.sets new inside.spans inside.settled.items c.settle.ensures.before c.self.invariant)

pub returns-clause-members : goal.returns-clause-members
returns-clause-members c =
    let inside = c.self.inside in
    let new = c.settle.new.sets in
    let same = numbered-members inside.sets inside.spans c.args.set c.at.result (sym c.is_of_span.ensures ∙ c.if-not-is_of_span.false) c.at.ensures in
    if-ok c.remember.result _ _ c.remember.ensures.number (λ number e.
    subst (λ sets. HaveSame (plain.members_of new number) (members_of sets c.args.set)) c.self.view_is
    (subst (λ n. HaveSame (plain.members_of new n) (members_of (record { sets = inside.sets; spans = lists_of inside.sets inside.spans }) c.args.set)) (sym e)
    (subst (HaveSame (plain.members_of new c.in_ok-settled.settled)) (sym same) c.in_ok-settled.ensures.members)))

pub returns-clause-set : goal.returns-clause-set
returns-clause-set c = if-ok c.remember.result _ _ c.remember.ensures.number (λ number e. subst (plain.IsSet c.settle.new.sets) (sym e) c.in_ok-settled.ensures.set)

pub returns-clause-plain : goal.returns-clause-plain
returns-clause-plain c = subst (λ (sets : Numbered). plain.StandAsBefore sets.sets c.settle.new.sets) c.self.view_is c.settle.ensures.before

pub returns-clause-before : goal.returns-clause-before
returns-clause-before c =
    let inside = c.self.inside in
    let after : Numbered = record { sets = c.settle.new.sets; spans = lists_of c.settle.new.sets inside.spans } in
    subst (λ sets. StandAsBefore sets after) c.self.view_is
    (stand-both inside.sets c.settle.new.sets (lists_of inside.sets inside.spans) (lists_of c.settle.new.sets inside.spans) c.settle.ensures.before
    (lists-same inside.sets c.settle.new.sets inside.spans c.settle.ensures.before c.self.invariant.are_spans))

pub returns-in_err-settled-clause-plain : goal.returns-in_err-settled-clause-plain
returns-in_err-settled-clause-plain c = subst (λ (sets : Numbered). plain.StandAsBefore sets.sets c.settle.new.sets) c.self.view_is c.settle.ensures.before

pub returns-in-Some-clause-before : goal.returns-in-Some-clause-before
returns-in-Some-clause-before c = stand-same c.args.self.now

pub returns-in-Some-clause-plain : goal.returns-in-Some-clause-plain
returns-in-Some-clause-plain c = plain-before c.args.self.now.sets

pub returns-then-not-is_of_span-clause-before : goal.returns-then-not-is_of_span-clause-before
returns-then-not-is_of_span-clause-before c = stand-same c.args.self.now

pub returns-then-not-is_of_span-clause-plain : goal.returns-then-not-is_of_span-clause-plain
returns-then-not-is_of_span-clause-plain c = plain-before c.args.self.now.sets
