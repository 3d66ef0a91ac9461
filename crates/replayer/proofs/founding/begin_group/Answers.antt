use Rattle.std.proofs.Common.{refl}
use Rattle.replayer.proofs.Founders.{first-lives, nothing-reached}
use Rattle.replayer.proofs.founding.begin_group.Goals as goal

pub returns-in_ok-begin-clause-lives : goal.returns-in_ok-begin-clause-lives
returns-in_ok-begin-clause-lives g c =
    first-lives c.args.entries.now c.args.group c.args.bodies.now c.begin.new.bodies c.requires.none c.in-Some.ensures.member c.in_ok-begin.ensures.lives

pub returns-in_default-clause-ok : goal.returns-in_default-clause-ok
returns-in_default-clause-ok g c count =
    nothing-reached _ c.args.observer.now count _ c.args.bodies.now _ (c.in_default.ensures.none refl) c.requires.none
