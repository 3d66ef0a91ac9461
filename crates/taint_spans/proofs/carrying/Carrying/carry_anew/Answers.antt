use Rattle.std.proofs.Common.{ap, subst, sym, ◌∙◌}
use Rattle.taint_spans.specs.Carried.{Carried, CarriesOn}
use Rattle.taint_spans.specs.Numbered.{IsSpanOf, members_of}
use Rattle.taint_spans.specs.Sound.{carried_of}
use Rattle.taint_spans.specs.Spans.{IsSpan}
use Rattle.taint_spans.proofs.Carried.{carried-members, carried-span, carries-plain, carrying-plain, has-kept, on-twice, still-received}
use Rattle.taint_spans.proofs.Members.{if-ok}
use Rattle.taint_spans.proofs.carrying.Carrying.carry_anew.Goals as goal

pub invariant_of-self : goal.invariant_of-self
invariant_of-self c = carrying-plain c.self.inside.plain c.carry.new.self c.self.inside.from c.self.inside.into c.self.inside.carried.items c.self.invariant c.carry.ensures.on c.keeps.ensures.received

pub invariant_of-self-2 : goal.invariant_of-self-2
invariant_of-self-2 c = carrying-plain c.self.inside.plain c.carry.new.self c.self.inside.from c.self.inside.into c.self.inside.carried.items c.self.invariant c.carry.ensures.on c.keeps.ensures.received

pub returns-in_err-base-clause-on : goal.returns-in_err-base-clause-on
returns-in_err-base-clause-on c =
    let inside = c.self.inside in
    subst (λ sets. CarriesOn sets (carried_of c.carry.new.self inside.from inside.into)) c.self.view_is
    (carries-plain inside.plain c.carry.new.self inside.from inside.into c.self.invariant.into c.carry.ensures.on c.keeps.ensures.received)

pub keep-requires : goal.keep-requires
keep-requires c =
    let inside = c.self.inside in
    let of = subst (λ (sets : Carried). IsSpanOf sets.from c.args.set c.args.span) (sym c.self.view_is) c.requires in
    let is = subst (λ sets. IsSpan sets c.args.span) (sym c.carry.ensures.on.from) of.is in
    carried-span c.carry.new.self c.args.span c.in_ok-base.base c.in_ok-base.ensures.number is (still-received inside.plain c.carry.new.self c.carry.ensures.on c.keeps.ensures.received)

pub returns-clause-number : goal.returns-clause-number
returns-clause-number c =
    let inside = c.self.inside in
    let q = c.carry.new.self in
    let span = c.args.span in
    let on = subst (λ sets. CarriesOn sets (carried_of q inside.from inside.into)) c.self.view_is
    (carries-plain inside.plain q inside.from inside.into c.self.invariant.into c.carry.ensures.on c.keeps.ensures.received) in
    let of = subst (λ sets. IsSpanOf sets c.args.set span) (sym on.from) c.requires in
    let fresh = carried-members q span c.in_ok-base.base c.in_ok-base.ensures.number of.is (still-received inside.plain q c.carry.ensures.on c.keeps.ensures.received) in
    has-kept c.keep.result c.keep.new.self c.args.set (members_of (carried_of q inside.from inside.into).from c.args.set)
    c.keep.ensures.set (if-ok c.keep.result _ _ c.keep.ensures.members (λ number same. same ∙ (fresh ∙ sym of.members)))
    (ap (λ s. members_of s c.args.set) c.keep.ensures.from)

pub returns-clause-on : goal.returns-clause-on
returns-clause-on c =
    let inside = c.self.inside in
    let mid = carried_of c.carry.new.self inside.from inside.into in
    on-twice c.args.self.now mid c.keep.new.self
    (subst (λ sets. CarriesOn sets mid) c.self.view_is
    (carries-plain inside.plain c.carry.new.self inside.from inside.into c.self.invariant.into c.carry.ensures.on c.keeps.ensures.received))
    c.keep.ensures.on
