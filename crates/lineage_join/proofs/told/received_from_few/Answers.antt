use Rattle.std.proofs.Common.{refl, sym, subst}
use Rattle.std.specs.Prelude.{IsSome}
use Rattle.lineage_join.proofs.Steps.{given-plain}
use Rattle.lineage_join.proofs.told.received_from_few.Goals as goal

pub returns-in-Some-clause-received : goal.returns-in-Some-clause-received
returns-in-Some-clause-received c = λ few. subst IsSome c.in-Some.ensures refl

pub returns-in-Some-clause-plain : goal.returns-in-Some-clause-plain
returns-in-Some-clause-plain c = λ few. given-plain c.args.entry.now _ (sym c.in-Some.ensures)
