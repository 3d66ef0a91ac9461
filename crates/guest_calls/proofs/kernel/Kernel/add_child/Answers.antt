use Rattle.std.proofs.Common.{◌≡◌, ℕ, ◌+◌, ◌<◌, ◌^◌, ◌∙◌, List, length, Option, is_some, true, subst, sym}
use Rattle.std.specs.Prelude.{IsTrue}
use Rattle.parts_model.specs.Numbered.{nth}
use Rattle.parts_model.specs.Processes.{Processes}
use Rattle.arn_model.specs.Kernel.{descriptors_of}
use Rattle.guest_resources.specs.Rooms.{have_room}
use Rattle.guest_calls.specs.Forks.{HasChild}
use Rattle.guest_calls.specs.Kept.{IsSound, state_of}
use Rattle.guest_calls.specs.State.{State, OfProcess}
use Rattle.guest_calls.proofs.Child.{child-lives, child-past, forked-sound, has-child, no-child, parent-there, still-open}
use Rattle.guest_calls.proofs.Past.{past-child, past-fresh}
use Rattle.guest_calls.proofs.kernel.Kernel.add_child.Goals as goal

pub invariant_of-self-2 : goal.invariant_of-self-2
invariant_of-self-2 c =
    let live : is_some (nth c.self.inside.bodies c.args.pid) ≡ true = subst (λ (s : State). is_some (nth s.guests c.args.pid) ≡ true) (sym c.self.view_is) c.requires.live in
    forked-sound c.self.inside c.args.pid c.self.invariant live c.in-Ok.child c.in-Ok.ensures.number c.make_child.new.bodies c.in-Ok-make_child.ensures.watches c.fork.new.self c.hold_all.new.self.files c.hold_all.new.self.descriptions (c.self.inside.events + 1) c.in-Ok.ensures.ok
    (child-past c.self.inside c.args.pid c.self.invariant live c.in-Ok.child c.in-Ok.ensures.number c.make_child.new.bodies c.in-Ok-make_child.ensures.watches (past-child c.others_stay_unheld.ensures c.self.inside.bodies c.self.inside.events c.self.invariant.past c.make_child.new.bodies c.args.pid c.in-Ok.child) c.in-Ok-make_child.ensures.made)

pub returns-clause-made : goal.returns-clause-made
returns-clause-made c =
    let live : is_some (nth c.self.inside.bodies c.args.pid) ≡ true = subst (λ (s : State). is_some (nth s.guests c.args.pid) ≡ true) (sym c.self.view_is) c.requires.live in
    subst (λ (s : State). OfProcess s c.args.pid (λ m v. HasChild c.in-Ok.child m c.args.pid v (state_of (record c.self.inside { bodies = c.make_child.new.bodies; procs = c.fork.new.self; resources = c.hold_all.new.self; events = c.self.inside.events + 1 })))) c.self.view_is
    (has-child c.self.inside c.args.pid c.self.invariant live c.in-Ok.child c.in-Ok.ensures.number c.make_child.new.bodies c.in-Ok-make_child.ensures.watches c.fork.new.self c.hold_all.new.self c.descriptors.result.now c.in-Ok.ensures.ok (c.descriptors.ensures ∙ still-open c.self.inside c.args.pid c.self.invariant live c.fork.new.self c.in-Ok.ensures.ok) c.hold_all.ensures c.in-Ok-make_child.ensures.made)

pub fork-requires-clause-few : goal.fork-requires-clause-few
fork-requires-clause-few c = subst (λ (s : State). length s.kernel.processes < 2 ^ 31) (sym c.self.view_is) c.requires.few

pub fork-requires-clause-parent : goal.fork-requires-clause-parent
fork-requires-clause-parent c =
    let live : is_some (nth c.self.inside.bodies c.args.pid) ≡ true = subst (λ (s : State). is_some (nth s.guests c.args.pid) ≡ true) (sym c.self.view_is) c.requires.live in
    parent-there c.self.inside c.args.pid c.self.invariant live

pub invariant_of-self : goal.invariant_of-self
invariant_of-self c =
    subst (λ (p : Processes). IsSound c.self.inside.bodies p c.self.inside.resources.files c.self.inside.resources.descriptions c.self.inside.booted c.self.inside.events) (sym c.in-Err.ensures.err) c.self.invariant

pub make_child-requires-clause-live : goal.make_child-requires-clause-live
make_child-requires-clause-live c = subst (λ (s : State). is_some (nth s.guests c.args.pid) ≡ true) (sym c.self.view_is) c.requires.live

pub make_child-requires-clause-dead : goal.make_child-requires-clause-dead
make_child-requires-clause-dead c = no-child c.self.inside c.in-Ok.child c.self.invariant c.in-Ok.ensures.number

pub make_child-requires-clause-fresh : goal.make_child-requires-clause-fresh
make_child-requires-clause-fresh c = past-fresh c.others_stay_unheld.ensures c.self.inside.bodies c.self.inside.events c.self.invariant.past

pub take_back-requires : goal.take_back-requires
take_back-requires c =
    let live : is_some (nth c.self.inside.bodies c.args.pid) ≡ true = subst (λ (s : State). is_some (nth s.guests c.args.pid) ≡ true) (sym c.self.view_is) c.requires.live in
    child-lives c.self.inside c.args.pid c.self.invariant live c.fork.new.self c.in-Ok.ensures.ok

pub hold_all-requires : goal.hold_all-requires
hold_all-requires c =
    let live : is_some (nth c.self.inside.bodies c.args.pid) ≡ true = subst (λ (s : State). is_some (nth s.guests c.args.pid) ≡ true) (sym c.self.view_is) c.requires.live in
    subst (λ (ds : List (Option ℕ)). IsTrue (have_room ds c.self.inside.resources.descriptions)) (sym (c.descriptors.ensures ∙ still-open c.self.inside c.args.pid c.self.invariant live c.fork.new.self c.in-Ok.ensures.ok))
    (subst (λ (s : State). IsTrue (have_room (descriptors_of s.kernel c.args.pid) s.kernel.descriptions)) (sym c.self.view_is) c.requires.descriptors)
