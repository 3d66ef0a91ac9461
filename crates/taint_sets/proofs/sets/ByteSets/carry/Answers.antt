use Rattle.std.proofs.Common.{sym, subst}
use Rattle.set_store.specs.Carried.{AreCarried}
use Rattle.taint_sets.specs.Numbered.{Numbered}
use Rattle.taint_sets.proofs.sets.ByteSets.carry.Goals as goal

pub carry-requires : goal.carry-requires
carry-requires c = subst (λ (sets : Numbered). AreCarried c.args.from.now sets.kept c.args.numbers.now) (sym c.self.view_is) c.requires
