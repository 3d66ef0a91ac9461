use Rattle.std.proofs.Common.{◌≡◌, Some, None, IfOk, sym, subst, ◌∙◌}
use Rattle.set_store.specs.declared.item.Item.{Item}
use Rattle.set_store.specs.Sets as stored
use Rattle.taint_sets.specs.Numbered.{StandAsBefore}
use Rattle.taint_sets.proofs.Standing.{kept-grown, received-item, received-members}
use Rattle.taint_sets.proofs.sets.ByteSets.keep_received.Goals as goal

none-some : (item : Item) → None ≡ Some item → ⊥
none-some item e = cc

pub unreachable-requires : goal.unreachable-requires
unreachable-requires c =
    let found = received-item c.args.self.now c.args.number c.requires.received c.requires.there in
    none-some found.0 (sym c.in-None.is ∙ (c.received.ensures ∙ found.1))

pub returns-clause-members : goal.returns-clause-members
returns-clause-members c =
    let is = received-members c.args.self.now c.args.number c.in-Some.item c.requires.received (sym c.received.ensures ∙ c.in-Some.is) in
    subst (λ l. IfOk c.single.result (λ kept. stored.members_of c.single.new.self kept ≡ l)) (sym is.1) c.single.ensures.members

pub returns-clause-before : goal.returns-clause-before
returns-clause-before c =
    subst (λ sets. StandAsBefore sets (record { kept = c.single.new.self; runs = c.self.inside.runs.items })) c.self.view_is
    (kept-grown c.self.inside.kept c.single.new.self c.self.inside.runs.items c.single.ensures.before)
