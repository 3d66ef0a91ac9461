use Rattle.std.proofs.Common.{sym}
use Rattle.lineage_join.proofs.Steps.{none-stepped}
use Rattle.lineage_join.proofs.step.step.Goals as goal

pub returns-in-None-clause-ok : goal.returns-in-None-clause-ok
returns-in-None-clause-ok g c =
    none-stepped c.args.entries.now (g.P.Locals.items c.args.locals.now) c.requires.indexed.stands c.requires.fit c.args.waiting.now c.args.found.now c.args.wait (sym c.in-None.ensures)
