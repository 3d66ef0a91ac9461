use Rattle.std.proofs.Common.{◌≡◌, ◌-◌, ◌+◌, [], slice_index, sym, ap, subst, ◌∙◌, arith}
use Rattle.taint_spans.specs.Carried.{Carried, CarriesOn, HasNumber}
use Rattle.taint_spans.specs.Numbered.{IsSpanOf, first_span, members_of}
use Rattle.taint_spans.specs.Sound.{carried_of}
use Rattle.taint_spans.proofs.Carried.{carrying-number, from-span, known-number, none-from, on-same}
use Rattle.taint_spans.proofs.Members.{if-ok}
use Rattle.taint_spans.proofs.Standing.{no-span, within-spans}
use Rattle.taint_spans.proofs.carrying.Carrying.carry_span.Goals as goal

pub returns-in-Some-clause-number : goal.returns-in-Some-clause-number
returns-in-Some-clause-number c =
    let inside = c.self.inside in
    let number = c.in-Some.ensures.0 ∙ ap (λ l. slice_index l (c.args.set - first_span)) c.as_slice.ensures.value in
    let least = within-spans c.args.set c.requires in
    let at : first_span + (c.args.set - first_span) ≡ c.args.set = omega (arith, least) in
    subst (λ sets. HasNumber sets c.args.set c.in-Some.known) c.self.view_is
    (subst (λ n. HasNumber (carried_of inside.plain inside.from inside.into) n c.in-Some.known) at
    (known-number inside.plain inside.from inside.into inside.carried.items (c.args.set - first_span) c.in-Some.known c.self.invariant number c.in-Some.ensures.1))

pub returns-in_default-get-clause-number : goal.returns-in_default-get-clause-number
returns-in_default-get-clause-number c =
    let inside = c.self.inside in
    let none = no-span inside.plain.from inside.from c.args.set c.requires (sym c.get.ensures ∙ none-from c.get.result c.in_default-get.not-Some) in
    record {
      there = λ set. c.keeps.ensures.set;
      same = c.keeps.ensures.none ∙ sym (subst (λ (sets : Carried). members_of sets.from c.args.set ≡ []) c.self.view_is none);
      given = λ small. c.keeps.ensures.set;
    }

pub carry_anew-requires : goal.carry_anew-requires
carry_anew-requires c =
    let inside = c.self.inside in
    let least = within-spans c.args.set c.requires in
    subst (λ (sets : Carried). IsSpanOf sets.from c.args.set c.in-Some-get.span) c.self.view_is
    (from-span inside.plain inside.from inside.into inside.carried.items c.args.set (c.args.set - first_span) c.in-Some-get.span c.self.invariant c.requires (omega (arith, least)) (sym c.get.ensures ∙ c.in-Some-get.is))

pub invariant_of-self : goal.invariant_of-self
invariant_of-self c =
    let inside = c.self-2.inside in
    let has = subst (λ sets. HasNumber sets c.args.set c.in_ok-number.number) (sym c.self-2.view_is) c.in_ok-number.ensures.number in
    carrying-number inside.plain inside.from inside.into inside.carried.items c.remember.new.numbers.items c.args.set c.in_ok-number.number (within-spans c.args.set c.requires) has c.remember.ensures.kept c.self-2.invariant

pub returns-clause-number : goal.returns-clause-number
returns-clause-number c =
    if-ok c.remember.result _ _ c.remember.ensures.number (λ same e.
    subst (HasNumber (carried_of c.self-2.inside.plain c.self-2.inside.from c.self-2.inside.into) c.args.set) (sym e) (subst (λ sets. HasNumber sets c.args.set c.in_ok-number.number) (sym c.self-2.view_is) c.in_ok-number.ensures.number))

pub returns-clause-on : goal.returns-clause-on
returns-clause-on c = subst (CarriesOn c.args.self.now) (sym c.self-2.view_is) c.carry_anew.ensures.on

pub returns-in-Some-clause-on : goal.returns-in-Some-clause-on
returns-in-Some-clause-on c = on-same c.args.self.now

pub returns-in_default-get-clause-on : goal.returns-in_default-get-clause-on
returns-in_default-get-clause-on c = on-same c.args.self.now

pub returns-in_err-number-clause-on : goal.returns-in_err-number-clause-on
returns-in_err-number-clause-on c = c.carry_anew.ensures.on
