use Rattle.std.proofs.Common.{◌≡◌, ap}
use Rattle.std.proofs.lemmas.Result.{IfOk-weaker}
use Rattle.history_model.specs.Exchanges.{Forth}
use Rattle.exchange_graph.specs.Graphs.{Connections}
use Rattle.exchange_graph.specs.Reach.{Reach, Lists}
use Rattle.exchange_graph.proofs.Edges.{lists-forth}
use Rattle.exchange_graph.proofs.graph.Graph.forth.Goals as goal

pub returns : goal.returns
returns c =
    let are : c.self.inside.sinks ≡ c.args.self.now.sinks = ap (λ (x : Connections). x.sinks) c.self.view_is in
    record { ok = λ entries t. IfOk-weaker c.reach.result (λ groups. Lists groups (Reach c.self.inside.sinks c.args.from.now)) (λ groups. Lists groups (Forth entries c.args.from.now)) (λ groups l. lists-forth c.args.self.now entries c.args.from.now t groups (rw are at l)) c.reach.ensures }
