use Rattle.std.proofs.Common.{[], List, map, subst}
use Rattle.std.proofs.lemmas.Result.{IfOk-weaker}
use Rattle.arn_base.specs.declared.records.Pair.{Pair}
use Rattle.history_model.specs.Events.{event_at}
use Rattle.lineage_join.specs.declared.wait.Wait.{Wait}
use Rattle.lineage_join.specs.Added.{HasAdded}
use Rattle.lineage_join.specs.Asked.{AreAsked}
use Rattle.lineage_join.specs.Laws.{reaches}
use Rattle.lineage_join.specs.Waits.{demanded}
use Rattle.lineage_join.proofs.Turns.{asked, same-asked}
use Rattle.lineage_join.proofs.pairs.join.Goals as goal

pub returns-clause-asked : goal.returns-clause-asked
returns-clause-asked g c =
    let entries = c.args.entries.now in
    let items = g.P.Locals.items c.args.locals.now in
    let demands = c.args.demands.now in
    let waiting = c.add_demands.new.waiting in
    let first = c.add_demands.new.found in
    let pairs = c.follow_all.new.found in
    let begun = subst (λ (old : List Wait). HasAdded entries old c.new-found.result (map (demanded (event_at entries)) demands) waiting first) c.new-waiting.ensures c.in_ok-add_demands.ensures.ok in
    let added = subst (λ (old : List Pair). HasAdded entries [] old (map (demanded (event_at entries)) demands) waiting first) c.new-found.ensures begun in
    let are = asked entries items demands waiting first pairs (added items c.requires.fit) c.in_ok-follow_all.ensures in
    IfOk-weaker c.pairs.result _ (AreAsked (event_at entries) (reaches entries items) demands) (λ list same. same-asked entries items demands pairs list same are) c.pairs.ensures.members
