use Rattle.std.proofs.Common.{◌≡◌, List, subst, arith}
use Rattle.lineage_join.specs.declared.wait.Wait.{Wait}
use Rattle.lineage_join.specs.Waits.{HasAlso}
use Rattle.lineage_join.proofs.Keys.{wait_cmp, ties, inserted, numbered-after}
use Rattle.lineage_join.proofs.wait.Waiting.add.Goals as goal

pub invariant_of-self-2 : goal.invariant_of-self-2
invariant_of-self-2 c =
    let w : Wait = record { event = c.args.event; kind = c.args.kind; at = c.args.at; byte = c.args.byte } in
    numbered-after c.self.inside.set.keys c.insert.new.self.keys w c.in_ok-insert.ensures.keys c.self.invariant (record { at = omega arith; byte = omega arith })

pub returns-clause-numbered : goal.returns-clause-numbered
returns-clause-numbered c =
    let w : Wait = record { event = c.args.event; kind = c.args.kind; at = c.args.at; byte = c.args.byte } in
    numbered-after c.self.inside.set.keys c.insert.new.self.keys w c.in_ok-insert.ensures.keys c.self.invariant (record { at = omega arith; byte = omega arith })

pub returns-clause-ok : goal.returns-clause-ok
returns-clause-ok c =
    let w : Wait = record { event = c.args.event; kind = c.args.kind; at = c.args.at; byte = c.args.byte } in
    let keys : c.insert.new.self.keys ≡ _ = c.in_ok-insert.ensures.keys in
    subst (λ (old : List Wait). HasAlso old w c.insert.new.self.keys) c.self.view_is
    (rw keys (inserted wait_cmp ties w c.self.inside.set.keys))
