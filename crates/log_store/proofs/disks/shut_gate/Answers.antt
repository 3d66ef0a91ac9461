use Rattle.std.proofs.Common.{◌∷◌, []}
use Rattle.std.proofs.lemmas.Result.{IfOk-equal}
use Rattle.arn_base.specs.Disk.{Torn}
use Rattle.log_store.specs.Pieces.{EndsWith, IsSameFront}
use Rattle.log_store.proofs.Closing.{gate_front, gate_closed}
use Rattle.log_store.proofs.Told.{told_weaker_any}
use Rattle.log_store.proofs.disks.shut_gate.Goals as goal

pub returns-then-value-ne-CLOSED-clause-closed : goal.returns-then-value-ne-CLOSED-clause-closed
returns-then-value-ne-CLOSED-clause-closed g c =
    IfOk-equal c.write_through.result _ _ _ c.write_through.ensures.written
    (gate_closed c.args.gate c.args.value (g.D.Disk.image c.args.disk.now) c.requires)

pub returns-then-value-ne-CLOSED-clause-any_moment : goal.returns-then-value-ne-CLOSED-clause-any_moment
returns-then-value-ne-CLOSED-clause-any_moment g c =
    told_weaker_any g.D.Disk.may_leave g.D.Disk.moment g.D.Disk.left_since (g.D.Disk.image c.args.disk.now) c.args.disk.now c.write_through.new.disk
    (EndsWith c.args.gate (c.args.value ∷ [])) (Torn c.args.gate 1) (IsSameFront c.args.gate) c.requires c.write_through.ensures.any_moment
    (λ old left ends torn. gate_front c.args.gate c.args.value old left ends torn)
