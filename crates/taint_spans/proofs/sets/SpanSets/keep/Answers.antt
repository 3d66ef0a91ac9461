use Rattle.std.proofs.Common.{ap, subst, sym, ◌∙◌}
use Rattle.taint_spans.specs.Numbered.{Numbered, StandAsBefore}
use Rattle.taint_spans.specs.Sound.{lists_of}
use Rattle.taint_spans.specs.Spans.{IsSpan, span_members}
use Rattle.taint_spans.proofs.Keeping.{first-added, sound-added}
use Rattle.taint_spans.proofs.Members.{if-ok}
use Rattle.taint_spans.proofs.Standing.{numbered-span, plain-before, stand-both}
use Rattle.taint_spans.proofs.sets.SpanSets.keep.Goals as goal

pub invariant_of-self : goal.invariant_of-self
invariant_of-self c =
    let inside = c.self.inside in
    let is = subst (λ (sets : Numbered). IsSpan sets.sets c.args.span) (sym c.self.view_is) c.requires in
    sound-added inside.sets inside.spans c.keep.new.self inside.settled.items c.args.span c.keep.ensures.more is c.self.invariant

pub invariant_of-self-2 : goal.invariant_of-self-2
invariant_of-self-2 c =
    let inside = c.self.inside in
    let is = subst (λ (sets : Numbered). IsSpan sets.sets c.args.span) (sym c.self.view_is) c.requires in
    sound-added inside.sets inside.spans c.keep.new.self inside.settled.items c.args.span c.keep.ensures.more is c.self.invariant

pub returns-in_err-keep-clause-before : goal.returns-in_err-keep-clause-before
returns-in_err-keep-clause-before c =
    let inside = c.self.inside in
    let after : Numbered = record { sets = inside.sets; spans = lists_of inside.sets c.keep.new.self } in
    subst (λ sets. StandAsBefore sets after) c.self.view_is
    (stand-both inside.sets inside.sets (lists_of inside.sets inside.spans) (lists_of inside.sets c.keep.new.self) (plain-before inside.sets)
    (first-added inside.sets inside.spans c.keep.new.self c.args.span c.keep.ensures.more))

pub returns-clause-set : goal.returns-clause-set
returns-clause-set c =
    if-ok c.number_of.result _ _ c.number_of.ensures (λ number is. (numbered-span c.self.inside.sets c.keep.new.self c.in_ok-keep.field-0 number c.args.span c.in_ok-keep.ensures.there is.0 is.1).0)

pub returns-clause-members : goal.returns-clause-members
returns-clause-members c =
    if-ok c.number_of.result _ _ c.number_of.ensures (λ number is.
    (numbered-span c.self.inside.sets c.keep.new.self c.in_ok-keep.field-0 number c.args.span c.in_ok-keep.ensures.there is.0 is.1).1
    ∙ ap (λ (sets : Numbered). span_members sets.sets c.args.span) c.self.view_is)

pub returns-clause-before : goal.returns-clause-before
returns-clause-before c =
    let inside = c.self.inside in
    let after : Numbered = record { sets = inside.sets; spans = lists_of inside.sets c.keep.new.self } in
    subst (λ sets. StandAsBefore sets after) c.self.view_is
    (stand-both inside.sets inside.sets (lists_of inside.sets inside.spans) (lists_of inside.sets c.keep.new.self) (plain-before inside.sets)
    (first-added inside.sets inside.spans c.keep.new.self c.args.span c.keep.ensures.more))
