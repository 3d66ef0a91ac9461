use Rattle.lineage_join.proofs.Keys.{numbered-before, taken}
use Rattle.lineage_join.proofs.wait.Waiting.next.Goals as goal

pub invariant_of-self : goal.invariant_of-self
invariant_of-self c = numbered-before c.pop_last.result c.self.inside.set.keys c.pop_last.new.self.keys c.pop_last.ensures.removal c.pop_last.ensures.unchanged c.self.invariant

pub returns-clause-some : goal.returns-clause-some
returns-clause-some c =
    taken c.pop_last.result c.self.inside.set.keys c.args.self.now c.pop_last.new.self.keys c.self.view_is c.pop_last.ensures.removal c.pop_last.ensures.all_below
    (numbered-before c.pop_last.result c.self.inside.set.keys c.pop_last.new.self.keys c.pop_last.ensures.removal c.pop_last.ensures.unchanged c.self.invariant)

pub returns-clause-numbered : goal.returns-clause-numbered
returns-clause-numbered c = numbered-before c.pop_last.result c.self.inside.set.keys c.pop_last.new.self.keys c.pop_last.ensures.removal c.pop_last.ensures.unchanged c.self.invariant
