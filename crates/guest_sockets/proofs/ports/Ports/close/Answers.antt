use Rattle.std.proofs.Common.{sym, ap, subst, ◌∙◌}
use Rattle.std.specs.List.{position}
use Rattle.guest_sockets.specs.Answers.{waiting_of}
use Rattle.guest_sockets.specs.Sound.{AreApart}
use Rattle.guest_sockets.proofs.Places.{apart-freed, freed-here, freed-none, has, none-here, port-here}
use Rattle.guest_sockets.proofs.ports.Ports.close.Goals as goal

pub invariant_of-self : goal.invariant_of-self
invariant_of-self c = subst AreApart (sym c.remove.ensures.items) (apart-freed c.args.self.now c.self.inside.all.items c.args.port c.in-Some.place _ c.self.view_is (sym (ap (position (has c.args.port)) c.deref.ensures.value) ∙ sym c.place_of.ensures ∙ c.in-Some.is) c.remove.ensures.value c.self.invariant)

pub returns-in-Some-clause-freed : goal.returns-in-Some-clause-freed
returns-in-Some-clause-freed c = c.remove.ensures.items ∙ freed-here c.args.self.now c.self.inside.all.items c.args.port c.in-Some.place _ c.self.view_is (sym (ap (position (has c.args.port)) c.deref.ensures.value) ∙ sym c.place_of.ensures ∙ c.in-Some.is) c.remove.ensures.value c.self.invariant

pub returns-in-Some-clause-waiting : goal.returns-in-Some-clause-waiting
returns-in-Some-clause-waiting c = c.into_waiting.ensures ∙ sym (ap waiting_of (port-here c.args.self.now c.self.inside.all.items c.args.port c.in-Some.place _ c.self.view_is (sym (ap (position (has c.args.port)) c.deref.ensures.value) ∙ sym c.place_of.ensures ∙ c.in-Some.is) c.remove.ensures.value c.self.invariant))

pub returns-in-None-clause-freed : goal.returns-in-None-clause-freed
returns-in-None-clause-freed c = sym (freed-none c.args.self.now c.args.port (none-here c.args.self.now c.self.inside.all.items c.args.port c.self.view_is (sym (ap (position (has c.args.port)) c.deref.ensures.value) ∙ sym c.place_of.ensures ∙ c.in-None.is)))

pub returns-in-None-clause-waiting : goal.returns-in-None-clause-waiting
returns-in-None-clause-waiting c = c.new.ensures.items ∙ sym (ap waiting_of (none-here c.args.self.now c.self.inside.all.items c.args.port c.self.view_is (sym (ap (position (has c.args.port)) c.deref.ensures.value) ∙ sym c.place_of.ensures ∙ c.in-None.is)))
