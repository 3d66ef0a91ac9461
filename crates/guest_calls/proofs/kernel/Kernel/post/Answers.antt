use Rattle.std.proofs.Common.{◌≡◌, ◌∙◌, is_some, true, refl, subst, sym}
use Rattle.parts_model.specs.Numbered.{nth}
use Rattle.parts_model.specs.Processes.{live_process}
use Rattle.parts_model.specs.Signals.{with_pending}
use Rattle.guest_calls.specs.Handled.{Rehandled}
use Rattle.guest_calls.specs.Kept.{state_of}
use Rattle.guest_calls.specs.State.{State}
use Rattle.guest_calls.proofs.Handled.{rehandled, rehandled-sound}
use Rattle.guest_calls.proofs.kernel.Kernel.post.Goals as goal

pub post-requires-clause-live : goal.post-requires-clause-live
post-requires-clause-live c =
    c.self.invariant.alive c.args.pid ∙ subst (λ (s : State). is_some (live_process s.kernel.processes c.args.pid) ≡ true) (sym c.self.view_is) c.requires.live

pub invariant_of-self : goal.invariant_of-self
invariant_of-self c =
    let live : is_some (nth c.self.inside.bodies c.args.pid) ≡ true =
    c.self.invariant.alive c.args.pid ∙ subst (λ (s : State). is_some (live_process s.kernel.processes c.args.pid) ≡ true) (sym c.self.view_is) c.requires.live in
    rehandled-sound c.self.inside c.args.pid (λ w. record w { pending = with_pending w.pending c.args.signal true }) (λ h. record h { pending = with_pending h.pending c.args.signal true }) (λ w. refl) c.post.new.self c.self.invariant live c.post.ensures

pub returns : goal.returns
returns c =
    let live : is_some (nth c.self.inside.bodies c.args.pid) ≡ true =
    c.self.invariant.alive c.args.pid ∙ subst (λ (s : State). is_some (live_process s.kernel.processes c.args.pid) ≡ true) (sym c.self.view_is) c.requires.live in
    subst (λ (s : State). Rehandled c.args.pid (λ h. record h { pending = with_pending h.pending c.args.signal true }) s (state_of (record c.self.inside { bodies = c.post.new.self }))) c.self.view_is
    (rehandled c.self.inside c.args.pid (λ w. record w { pending = with_pending w.pending c.args.signal true }) (λ h. record h { pending = with_pending h.pending c.args.signal true }) (λ w. refl) c.post.new.self c.self.invariant live c.post.ensures)
