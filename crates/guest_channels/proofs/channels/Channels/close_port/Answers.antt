use Rattle.std.proofs.Common.{subst, ◌∙◌}
use Rattle.arn_model.specs.Kernel.{closed}
use Rattle.parts_model.specs.declared.open.Description.TheVariants.{Listener}
use Rattle.guest_channels.specs.Channels.{Channels, Alters}
use Rattle.guest_channels.proofs.Closing.{next-closed, port-closed}
use Rattle.guest_channels.proofs.channels.Channels.close_port.Goals as goal

pub loop-conn-preserved : goal.loop-conn-preserved
loop-conn-preserved c = next-closed _ c.loop-conn.self c.close_side.new.self c.deref-conn-items.result.now c.loop-conn.conn-index _ c.loop-conn-test.true c.loop-conn.invariant c.close_side.ensures

pub returns : goal.returns
returns c =
    subst (λ (old : Channels). Alters old (closed (Listener c.args.port)) c.loop-conn.self) c.self.view_is
    (port-closed (record { pipes = c.self.inside.pipes; ports = c.self.inside.ports }) c.loop-conn.self c.args.port c.close-waiting.new.self c.deref-conn-items.result.now c.loop-conn.conn-index c.close-waiting.ensures.freed
    (c.deref-conn-items.ensures.value ∙ c.close-waiting.ensures.waiting) c.loop-conn-test.false c.loop-conn.invariant)
