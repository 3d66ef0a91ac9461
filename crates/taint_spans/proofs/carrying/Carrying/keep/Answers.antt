use Rattle.std.proofs.Common.{ap, subst, sym, ◌∙◌}
use Rattle.taint_spans.specs.Carried.{Carried, CarriesOn}
use Rattle.taint_spans.specs.Sound.{carried_of}
use Rattle.taint_spans.specs.Spans.{IsSpan, span_members}
use Rattle.taint_spans.proofs.Carried.{carries-span, carrying-span}
use Rattle.taint_spans.proofs.Members.{if-ok}
use Rattle.taint_spans.proofs.Standing.{numbered-span}
use Rattle.taint_spans.proofs.carrying.Carrying.keep.Goals as goal

pub invariant_of-self : goal.invariant_of-self
invariant_of-self c =
    let inside = c.self.inside in
    let is = subst (λ (sets : Carried). IsSpan sets.into.sets c.args.span) (sym c.self.view_is) c.requires in
    carrying-span inside.plain inside.from inside.into c.keep.new.self inside.carried.items c.args.span c.keep.ensures.more is c.self.invariant

pub invariant_of-self-2 : goal.invariant_of-self-2
invariant_of-self-2 c =
    let inside = c.self.inside in
    let is = subst (λ (sets : Carried). IsSpan sets.into.sets c.args.span) (sym c.self.view_is) c.requires in
    carrying-span inside.plain inside.from inside.into c.keep.new.self inside.carried.items c.args.span c.keep.ensures.more is c.self.invariant

pub returns-in_err-keep-clause-on : goal.returns-in_err-keep-clause-on
returns-in_err-keep-clause-on c =
    let inside = c.self.inside in
    subst (λ sets. CarriesOn sets (carried_of inside.plain inside.from c.keep.new.self)) c.self.view_is
    (carries-span inside.plain inside.from inside.into c.keep.new.self c.args.span c.keep.ensures.more)

pub returns-clause-set : goal.returns-clause-set
returns-clause-set c =
    if-ok c.number_of.result _ _ c.number_of.ensures (λ number is. (numbered-span c.self.inside.plain.into c.keep.new.self c.in_ok-keep.field-0 number c.args.span c.in_ok-keep.ensures.there is.0 is.1).0)

pub returns-clause-members : goal.returns-clause-members
returns-clause-members c =
    if-ok c.number_of.result _ _ c.number_of.ensures (λ number is.
    (numbered-span c.self.inside.plain.into c.keep.new.self c.in_ok-keep.field-0 number c.args.span c.in_ok-keep.ensures.there is.0 is.1).1
    ∙ ap (λ (sets : Carried). span_members sets.into.sets c.args.span) c.self.view_is)

pub returns-clause-on : goal.returns-clause-on
returns-clause-on c =
    let inside = c.self.inside in
    subst (λ sets. CarriesOn sets (carried_of inside.plain inside.from c.keep.new.self)) c.self.view_is
    (carries-span inside.plain inside.from inside.into c.keep.new.self c.args.span c.keep.ensures.more)
