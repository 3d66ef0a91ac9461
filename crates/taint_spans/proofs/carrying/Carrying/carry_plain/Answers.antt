use Rattle.std.proofs.Common.{◌≡◌, false, sym, subst}
use Rattle.taint_sets.specs.Carried as inner
use Rattle.taint_spans.specs.Carried.{CarriesOn}
use Rattle.taint_spans.specs.Numbered.{is_span}
use Rattle.taint_spans.specs.Sound.{carried_of}
use Rattle.taint_spans.proofs.Carried.{carries-plain, carrying-plain, plain-has}
use Rattle.taint_spans.proofs.Members.{if-ok}
use Rattle.taint_spans.proofs.carrying.Carrying.carry_plain.Goals as goal

pub invariant_of-self : goal.invariant_of-self
invariant_of-self c = carrying-plain c.self.inside.plain c.carry.new.self c.self.inside.from c.self.inside.into c.self.inside.carried.items c.self.invariant c.carry.ensures.on c.keeps.ensures.received

pub returns-in_err-carry-clause-on : goal.returns-in_err-carry-clause-on
returns-in_err-carry-clause-on c =
    let inside = c.self.inside in
    subst (λ sets. CarriesOn sets (carried_of c.carry.new.self inside.from inside.into)) c.self.view_is
    (carries-plain inside.plain c.carry.new.self inside.from inside.into c.self.invariant.into c.carry.ensures.on c.keeps.ensures.received)

pub invariant_of-self-2 : goal.invariant_of-self-2
invariant_of-self-2 c = carrying-plain c.self.inside.plain c.carry.new.self c.self.inside.from c.self.inside.into c.self.inside.carried.items c.self.invariant c.carry.ensures.on c.keeps.ensures.received

pub returns-clause-number : goal.returns-clause-number
returns-clause-number c =
    let inside = c.self.inside in
    if-ok c.narrow.result _ _ c.narrow.ensures (λ number is.
    plain-has c.carry.new.self inside.from inside.into c.args.set number c.requires (subst (λ n. is_span n ≡ false) (sym is.0) is.1) (subst (inner.HasNumber c.carry.new.self c.args.set) (sym is.0) c.in_ok-carry.ensures.number))

pub returns-clause-on : goal.returns-clause-on
returns-clause-on c =
    let inside = c.self.inside in
    subst (λ sets. CarriesOn sets (carried_of c.carry.new.self inside.from inside.into)) c.self.view_is
    (carries-plain inside.plain c.carry.new.self inside.from inside.into c.self.invariant.into c.carry.ensures.on c.keeps.ensures.received)
