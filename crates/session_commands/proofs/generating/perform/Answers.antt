use Rattle.std.proofs.Common.{Option, refl, subst}
use Rattle.guest_machine.specs.Recorded.{Recorded}
use Rattle.session_commands.specs.Kept.{IsThere}
use Rattle.session_commands.proofs.generating.perform.Goals as goal

pub returns-clause-there : goal.returns-clause-there
returns-clause-there g c = c.perform_on.ensures.ready

pub returns-clause-questions : goal.returns-clause-questions
returns-clause-questions g c = refl

pub returns-clause-advances : goal.returns-clause-advances
returns-clause-advances g c = c.perform_on.ensures.advances

pub returns-clause-stops : goal.returns-clause-stops
returns-clause-stops g c = c.perform_on.ensures.stops

pub returns-clause-cause : goal.returns-clause-cause
returns-clause-cause g c = c.perform_on.ensures.cause

pub returns-clause-goes_on : goal.returns-clause-goes_on
returns-clause-goes_on g c = c.perform_on.ensures.goes_on

pub perform_on-requires-clause-open : goal.perform_on-requires-clause-open
perform_on-requires-clause-open g c = c.requires.«open»

pub perform_on-requires-clause-ready : goal.perform_on-requires-clause-ready
perform_on-requires-clause-ready g c = subst (λ (o : Option Recorded). IsThere o c.args.kept.now.store.entries) c.in-Some.is c.requires.there

pub perform_on-requires-clause-image : goal.perform_on-requires-clause-image
perform_on-requires-clause-image g c = c.requires.image

pub perform_on-requires-clause-typed : goal.perform_on-requires-clause-typed
perform_on-requires-clause-typed g c = c.requires.typed

pub perform_on-requires-clause-accepted : goal.perform_on-requires-clause-accepted
perform_on-requires-clause-accepted g c = c.requires.accepted

pub unreachable-requires : goal.unreachable-requires
unreachable-requires g c = subst (λ (o : Option Recorded). IsThere o c.args.kept.now.store.entries) c.in-None.is c.requires.there
