use Rattle.std.proofs.Common.{subst}
use Rattle.taint_spans.specs.Numbered.{Numbered, StandAsBefore}
use Rattle.taint_spans.specs.Sound.{lists_of}
use Rattle.taint_spans.proofs.Keeping.{sound-grown}
use Rattle.taint_spans.proofs.Members.{if-ok}
use Rattle.taint_spans.proofs.Standing.{lists-same, received-all, stand-both}
use Rattle.taint_spans.proofs.sets.SpanSets.receive.Goals as goal

pub invariant_of-self : goal.invariant_of-self
invariant_of-self c = sound-grown c.self.inside.sets c.receive.new.self c.self.inside.spans c.self.inside.settled.items c.receive.ensures.before c.self.invariant

pub returns-clause-received : goal.returns-clause-received
returns-clause-received c =
    let sets : Numbered = record { sets = c.receive.new.self; spans = lists_of c.receive.new.self c.self.inside.spans } in
    if-ok c.receive.result _ _ c.receive.ensures.received (λ first are. received-all sets c.args.event c.args.at c.args.len first are)

pub returns-clause-before : goal.returns-clause-before
returns-clause-before c =
    let inside = c.self.inside in
    let after : Numbered = record { sets = c.receive.new.self; spans = lists_of c.receive.new.self inside.spans } in
    subst (λ sets. StandAsBefore sets after) c.self.view_is
    (stand-both inside.sets c.receive.new.self (lists_of inside.sets inside.spans) (lists_of c.receive.new.self inside.spans) c.receive.ensures.before
    (lists-same inside.sets c.receive.new.self inside.spans c.receive.ensures.before c.self.invariant.are_spans))
