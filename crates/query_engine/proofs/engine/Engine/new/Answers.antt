use Rattle.followed_groups.specs.Relations.{number_of}
use Rattle.query_engine.proofs.engine.Engine.new.Goals as goal

pub returns-clause-seen : goal.returns-clause-seen
returns-clause-seen c = λ entries linkage g r h. absurd (c.in_ok-kept.ensures.none (g, number_of linkage) r h)
