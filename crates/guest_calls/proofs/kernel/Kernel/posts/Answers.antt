use Rattle.std.proofs.Common.{refl, true}
use Rattle.arn_base.specs.declared.records.Extra.TheVariants as extra
use Rattle.parts_model.specs.Signals.{with_pending}
use Rattle.acts_model.specs.Acts.{Returns}
use Rattle.arn_model.specs.Doing.{returns as returns_of}
use Rattle.arn_model.specs.SignalCalls.{posted}
use Rattle.guest_calls.proofs.Carries.{carried-by}
use Rattle.guest_calls.proofs.Handled.{acted-behind, live-behind}
use Rattle.guest_calls.proofs.kernel.Kernel.posts.Goals as goal

pub returns-requires-clause-live : goal.returns-requires-clause-live
returns-requires-clause-live c =
    live-behind c.args.target c.args.pid (λ h. record h { pending = with_pending h.pending c.args.signal true }) c.args.self.now c.post.new.self c.post.ensures c.requires.live

pub returns-clause-carried : goal.returns-clause-carried
returns-clause-carried c =
    carried-by c.args.pid 0 extra.Nothing (posted c.args.target c.args.signal c.args.self.now.kernel) c.args.self.now c.returns.new.self (λ m v. returns_of 0 (posted c.args.target c.args.signal m.kernel))
    (acted-behind c.args.target c.args.pid (Returns 0) (λ h. record h { pending = with_pending h.pending c.args.signal true }) c.args.self.now c.post.new.self c.returns.new.self c.post.ensures (c.returns.ensures (Returns 0) refl))
    (λ b v sees. refl)
