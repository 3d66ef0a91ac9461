use Rattle.std.proofs.Common.{Option, refl, subst}
use Rattle.guest_machine.specs.Recorded.{Recorded}
use Rattle.session_commands.specs.Kept.{IsThere}
use Rattle.session_commands.proofs.answering.carry_out.Goals as goal

pub returns-clause-there : goal.returns-clause-there
returns-clause-there g c = c.go_on.ensures.ready

pub returns-clause-questions : goal.returns-clause-questions
returns-clause-questions g c = refl

pub returns-clause-advances : goal.returns-clause-advances
returns-clause-advances g c = c.go_on.ensures.advances

pub returns-clause-stops : goal.returns-clause-stops
returns-clause-stops g c = c.go_on.ensures.stops

pub returns-clause-cause : goal.returns-clause-cause
returns-clause-cause g c = c.go_on.ensures.cause

pub returns-clause-goes_on : goal.returns-clause-goes_on
returns-clause-goes_on g c = c.go_on.ensures.goes_on

pub go_on-requires-clause-open : goal.go_on-requires-clause-open
go_on-requires-clause-open g c = c.requires.«open»

pub go_on-requires-clause-ready : goal.go_on-requires-clause-ready
go_on-requires-clause-ready g c = subst (λ (o : Option Recorded). IsThere o c.args.kept.now.store.entries) c.in-Some.is c.requires.there

pub go_on-requires-clause-fits : goal.go_on-requires-clause-fits
go_on-requires-clause-fits g c = c.requires.fits

pub go_on-requires-clause-needs : goal.go_on-requires-clause-needs
go_on-requires-clause-needs g c = c.requires.needs

pub go_on-requires-clause-accepted : goal.go_on-requires-clause-accepted
go_on-requires-clause-accepted g c = c.requires.accepted

pub unreachable-requires : goal.unreachable-requires
unreachable-requires g c = subst (λ (o : Option Recorded). IsThere o c.args.kept.now.store.entries) c.in-None.is c.requires.there
