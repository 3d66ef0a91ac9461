use Rattle.std.proofs.Common.{◌∙◌, ◌≡◌}
use Rattle.std.proofs.lemmas.Result.{IfOk-weaker}
use Rattle.exchange_graph.specs.Graphs.{AreLaid, Tells}
use Rattle.exchange_graph.specs.Links.{links_of}
use Rattle.exchange_graph.proofs.Edges.{told}
use Rattle.exchange_graph.proofs.graph.Graph.build.Goals as goal

pub returns : goal.returns
returns c =
    let are : c.as_slice.result.now ≡ links_of c.args.entries.now = c.as_slice.ensures.value ∙ c.in_ok-links.ensures in
    record { ok = IfOk-weaker c.lay.result (λ made. AreLaid made c.as_slice.result.now) (λ made. Tells made c.args.entries.now) (λ made laid. told made c.args.entries.now (rw are at laid)) c.lay.ensures }
