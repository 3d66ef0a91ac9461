use Rattle.std.proofs.Common.{List, sym, subst}
use Rattle.std.proofs.lemmas.Result.{IfOk-weaker}
use Rattle.set_store.specs.declared.item.Item.{Item}
use Rattle.taint_state.specs.Shown.{AreItems}
use Rattle.lineage_join.specs.Places.{at_of}
use Rattle.lineage_join.proofs.step.items_of.Goals as goal

pub returns : goal.returns
returns g c =
    IfOk-weaker c.to_vec.result _ _ (λ v is. subst (λ (list : List Item). AreItems list (g.P.Locals.items c.args.locals.now c.args.event (at_of c.args.place))) (sym is) c.items.ensures) c.to_vec.ensures
