use Rattle.std.proofs.Common.{ℕ, List, sym, subst}
use Rattle.query_model.specs.Forth.{first_groups}
use Rattle.query_engine.specs.Reached.{HaveSame}
use Rattle.query_engine.proofs.Same.{ok-map}
use Rattle.query_engine.proofs.Takers.{groups-are}
use Rattle.query_engine.proofs.first.forth_groups.Goals as goal

pub returns-clause-ok : goal.returns-clause-ok
returns-clause-ok c =
    let entries = c.args.entries.now in
    let first = first_groups entries c.args.asked.event c.args.asked.from c.args.asked.len in
    ok-map c.forth.result
    (groups-are entries c.args.asked c.laws_forth.ensures.one c.requires.indexed.stands c.as_slice.result.now (subst (λ (xs : List ℕ). HaveSame xs first) (sym c.as_slice.ensures) c.in_ok-first.ensures))
    (c.forth.ensures.ok entries c.in_ok-graph.ensures.ok)
