use Rattle.std.proofs.Common.{subst, ◌+◌, sym, is_some, true, ◌≡◌, Some, IfSome}
use Rattle.acts_model.specs.Acts.{Delivers}
use Rattle.arn_model.specs.Step.{without_signal}
use Rattle.parts_model.specs.Numbered.{nth}
use Rattle.parts_model.specs.Signals.{due_signal}
use Rattle.guest_bodies.specs.Shown.{signals_in}
use Rattle.guest_calls.specs.Acted.{Acted}
use Rattle.guest_calls.specs.Kept.{state_of}
use Rattle.guest_calls.specs.State.{State}
use Rattle.guest_calls.proofs.Pieces.{entered-acted, entered-sound, seen-mid}
use Rattle.guest_calls.proofs.Past.{past-acted, past-seen}
use Rattle.guest_calls.proofs.kernel.Kernel.enters.Goals as goal

pub invariant_of-self : goal.invariant_of-self
invariant_of-self c =
    let live : is_some (nth c.self.inside.bodies c.args.pid) ≡ true = subst (λ (s : State). is_some (nth s.guests c.args.pid) ≡ true) (sym c.self.view_is) c.requires.live in
    let due : IfSome (signals_in c.self.inside.bodies c.args.pid) (λ s. due_signal s ≡ Some c.args.signal) =
    subst (λ (s : State). IfSome (signals_in s.guests c.args.pid) (λ x. due_signal x ≡ Some c.args.signal)) (sym c.self.view_is) c.requires.due in
    entered-sound c.self.inside c.args.pid c.args.signal c.args.handler c.args.cut c.drop_due.new.self c.delivers.new.self c.self.invariant live due c.drop_due.ensures c.delivers.ensures.watches (c.self.inside.events + 1)
    (past-acted c.others_stay_unheld.ensures c.drop_due.new.self c.self.inside.events
    (past-seen c.self.inside.bodies c.drop_due.new.self c.self.inside.events (seen-mid c.self.inside c.args.pid c.args.signal c.args.handler c.args.cut c.drop_due.new.self c.delivers.new.self c.self.invariant live due c.drop_due.ensures c.delivers.ensures.watches) c.self.invariant.past)
    c.delivers.new.self c.args.pid (Delivers c.args.signal c.args.handler c.args.cut) (c.delivers.ensures.follows c.self.inside.events))

pub returns : goal.returns
returns c =
    let live : is_some (nth c.self.inside.bodies c.args.pid) ≡ true = subst (λ (s : State). is_some (nth s.guests c.args.pid) ≡ true) (sym c.self.view_is) c.requires.live in
    let due : IfSome (signals_in c.self.inside.bodies c.args.pid) (λ s. due_signal s ≡ Some c.args.signal) =
    subst (λ (s : State). IfSome (signals_in s.guests c.args.pid) (λ x. due_signal x ≡ Some c.args.signal)) (sym c.self.view_is) c.requires.due in
    subst (λ (s : State). Acted c.args.pid (Delivers c.args.signal c.args.handler c.args.cut) (without_signal c.args.pid c.args.signal s.kernel) s (state_of (record c.self.inside { bodies = c.delivers.new.self; events = c.self.inside.events + 1 }))) c.self.view_is
    (entered-acted c.self.inside c.args.pid c.args.signal c.args.handler c.args.cut c.drop_due.new.self c.delivers.new.self c.self.invariant live due c.drop_due.ensures c.delivers.ensures.watches c.delivers.ensures.follows)
