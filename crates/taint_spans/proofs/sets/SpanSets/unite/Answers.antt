use Rattle.taint_spans.specs.Numbered.{members_of}
use Rattle.taint_spans.proofs.Members.{if-ok, union-sorted}
use Rattle.taint_spans.proofs.sets.SpanSets.unite.Goals as goal

pub returns-clause-members : goal.returns-clause-members
returns-clause-members c =
    if-ok c.widen.result _ _ c.widen.ensures.members (λ set union. union-sorted (members_of c.widen.new.self set) (members_of c.args.self.now) c.args.first c.args.second c.min.result c.max.result c.min.ensures c.max.ensures union)
