use Rattle.std.proofs.Common.{ℕ, ◌≡◌, ◌<◌, ◌∙◌, ap, List, length, subst}
use Rattle.std.specs.Prelude.{All}
use Rattle.exchange_graph.specs.Rows.{row_of}
use Rattle.exchange_graph.proofs.rows.Rows.row.Goals as goal

pub returns-clause-inside : goal.returns-clause-inside
returns-clause-inside c =
    let is : c.row_in.result.now ≡ row_of c.self.inside.rows.items c.args.number = c.row_in.ensures ∙ ap (λ (rows : List (List ℕ)). row_of rows c.args.number) c.as_slice.ensures.value in
    subst (λ (rows : List (List ℕ)). All (λ m. m < length rows) c.row_in.result.now) c.self.view_is (rw is (c.self.invariant.inside c.args.number))
