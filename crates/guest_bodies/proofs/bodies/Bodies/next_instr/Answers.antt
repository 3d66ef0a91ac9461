use Rattle.std.proofs.Common.{Option, IfSome, subst, sym}
use Rattle.acts_model.specs.Bodies.{View}
use Rattle.acts_model.specs.Views.{stands_at}
use Rattle.rv64_core.specs.Prospect.{Foretells}
use Rattle.guest_bodies.specs.Kept.{IsKept}
use Rattle.guest_bodies.proofs.Changes.{live-there, there-of}
use Rattle.guest_bodies.proofs.Seen.{seen-there}
use Rattle.guest_bodies.proofs.bodies.Bodies.next_instr.Goals as goal

pub at-requires : goal.at-requires
at-requires g c = live-there c.args.self.now c.self.inside.guests c.self.inside.memories c.args.pid c.self.view_is c.requires.live

pub next_instr-requires : goal.next_instr-requires
next_instr-requires g c = there-of c.args.pid c.at.result.now c.self.inside.guests c.self.inside.memories c.self.invariant.sound c.at.ensures

pub invariant_of-self : goal.invariant_of-self
invariant_of-self g c = subst (IsKept c.self.inside.guests) (sym c.next_instr.ensures.same) c.self.invariant

pub returns-clause-foretells : goal.returns-clause-foretells
returns-clause-foretells g c =
    subst (λ (seen : Option View). IfSome seen (λ (v : View). Foretells c.next_instr.result v.body.cpu (stands_at v)))
    (sym (seen-there c.args.self.now c.self.inside.guests c.self.inside.memories c.args.pid c.at.result.now c.self.view_is c.at.ensures))
    c.next_instr.ensures.effect
