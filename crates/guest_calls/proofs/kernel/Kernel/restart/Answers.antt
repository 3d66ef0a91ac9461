use Rattle.std.proofs.Common.{◌≡◌, ◌+◌, is_some, true, subst, sym}
use Rattle.parts_model.specs.Numbered.{nth}
use Rattle.parts_model.specs.Signals.{no_handlers}
use Rattle.acts_model.specs.Acts.{Starts}
use Rattle.arn_model.specs.Kernel.{with_handling}
use Rattle.guest_calls.specs.Acted.{Acted}
use Rattle.guest_calls.specs.Kept.{state_of}
use Rattle.guest_calls.specs.State.{State}
use Rattle.guest_calls.proofs.Past.{past-acted, past-fresh}
use Rattle.guest_calls.proofs.Restarts.{restarted-acted, restarted-sound}
use Rattle.guest_calls.proofs.kernel.Kernel.restart.Goals as goal

pub starts-requires-clause-fresh : goal.starts-requires-clause-fresh
starts-requires-clause-fresh c = past-fresh c.others_stay_unheld.ensures c.self.inside.bodies c.self.inside.events c.self.invariant.past

pub invariant_of-self-2 : goal.invariant_of-self-2
invariant_of-self-2 c =
    let live : is_some (nth c.self.inside.bodies c.args.pid) ≡ true = subst (λ (s : State). is_some (nth s.guests c.args.pid) ≡ true) (sym c.self.view_is) c.requires.live in
    restarted-sound c.self.inside c.args.pid c.starts.new.self c.self.invariant live c.in_ok-starts.ensures.watches (c.self.inside.events + 1)
    (past-acted c.others_stay_unheld.ensures c.self.inside.bodies c.self.inside.events c.self.invariant.past c.starts.new.self c.args.pid (Starts c.args.image.now c.args.block c.args.block_len) c.in_ok-starts.ensures.follows)

pub returns-clause-started : goal.returns-clause-started
returns-clause-started c =
    let live : is_some (nth c.self.inside.bodies c.args.pid) ≡ true = subst (λ (s : State). is_some (nth s.guests c.args.pid) ≡ true) (sym c.self.view_is) c.requires.live in
    subst (λ (s : State). Acted c.args.pid (Starts c.args.image.now c.args.block c.args.block_len) (with_handling c.args.pid (λ h. record h { handlers = no_handlers }) s.kernel) s (state_of (record c.self.inside { bodies = c.starts.new.self; events = c.self.inside.events + 1 }))) c.self.view_is
    (restarted-acted c.self.inside c.args.pid c.starts.new.self c.self.invariant live c.in_ok-starts.ensures.watches c.args.image.now c.args.block c.args.block_len c.in_ok-starts.ensures.follows)
