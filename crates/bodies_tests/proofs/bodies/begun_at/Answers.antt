use Rattle.bodies_tests.proofs.Lone.{first-live, first-fresh, first-alone}
use Rattle.bodies_tests.proofs.bodies.begun_at.Goals as goal

pub returns-clause-live : goal.returns-clause-live
returns-clause-live c = first-live c.new-bodies.result c.begin.new.self _ c.new-bodies.ensures c.in_ok-begin.ensures.follows

pub returns-clause-fresh : goal.returns-clause-fresh
returns-clause-fresh c = first-fresh c.new-bodies.result c.begin.new.self _ c.new-bodies.ensures c.in_ok-begin.ensures.follows

pub returns-clause-alone : goal.returns-clause-alone
returns-clause-alone c = first-alone c.new-bodies.result c.begin.new.self _ c.new-bodies.ensures c.in_ok-begin.ensures.follows
