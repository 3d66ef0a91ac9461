use Rattle.std.proofs.Common.{subst, sym}
use Rattle.taint_spans.specs.Sound.{AreSpans}
use Rattle.taint_spans.proofs.carrying.Carrying.done.Goals as goal

pub of-requires : goal.of-requires
of-requires c = subst (λ sets. AreSpans sets c.self.inside.into) (sym c.done.ensures) c.self.invariant.into
