use Rattle.std.proofs.Common.{◌≡◌, ◌∙◌, ◌≤◌, ◌<◌, ◌+◌, ◌-◌, ◌++◌, [], ap, sym, subst, List, ℕ, length, take, arith}
use Rattle.std.specs.Prelude.{vec_len}
use Rattle.exchange_graph.specs.Search.{Found, unmarked, IsUnderWay}
use Rattle.exchange_graph.proofs.Way.{turn-same, turn-way, turn-smaller, ended}
use Rattle.exchange_graph.proofs.search.follow.Goals as goal

pub loop-next-smaller : goal.loop-next-smaller
loop-next-smaller c =
    let f : Found = record { marks = c.search.inside.marks.items; waiting = c.search.inside.waiting.items } in
    let len : length f.marks ≡ length c.loop-next.search.marks = ap (λ (g : Found). length g.marks) c.search.view_is in
    let room : length c.args.rows.now ≤ length f.marks = omega (arith, len, c.loop-next.invariant.same, c.requires.room) in
    let g = c.mark_all.new.self in
    subst (λ (x : Found). unmarked g.marks + length g.waiting < unmarked x.marks + length x.waiting) c.search.view_is
    (turn-smaller c.args.rows.now f g c.pop.new.self.items c.row.result.now c.in-Some.next c.in-Some.ensures.items c.row.ensures.row c.row.ensures.inside room c.in_ok-mark_all.ensures)

pub loop-next-preserved : goal.loop-next-preserved
loop-next-preserved c =
    let f : Found = record { marks = c.search.inside.marks.items; waiting = c.search.inside.waiting.items } in
    let len : length f.marks ≡ length c.loop-next.search.marks = ap (λ (g : Found). length g.marks) c.search.view_is in
    let room : length c.args.rows.now ≤ length f.marks = omega (arith, len, c.loop-next.invariant.same, c.requires.room) in
    let g = c.mark_all.new.self in record {
      same = turn-same c.args.rows.now f g c.pop.new.self.items c.row.result.now c.in-Some.next c.in-Some.ensures.items c.row.ensures.row c.row.ensures.inside room c.in_ok-mark_all.ensures ∙ len ∙ c.loop-next.invariant.same;
      way = λ from u. turn-way c.args.rows.now f g c.pop.new.self.items c.row.result.now c.in-Some.next c.in-Some.ensures.items c.row.ensures.row c.row.ensures.inside room c.in_ok-mark_all.ensures from (subst (λ (x : Found). IsUnderWay c.args.rows.now from x) (sym c.search.view_is) (c.loop-next.invariant.way from u));
    }

pub returns-clause-ok : goal.returns-clause-ok
returns-clause-ok c = λ from u.
    let none : vec_len c.search.inside.waiting - 1 ≡ 0 = omega (arith, c.in_default.ensures.cases.0) in
    let rest : c.pop.new.self.items ≡ [] = c.in_default.ensures.rest ∙ ap (λ (n : ℕ). take n c.search.inside.waiting.items) none in
    let empty : c.search.inside.waiting.items ≡ [] = c.in_default.ensures.items ∙ ap (λ (xs : List ℕ). xs ++ []) rest in
    let way = subst (λ (x : Found). IsUnderWay c.args.rows.now from x) (sym c.search.view_is) (c.loop-next.invariant.way from u) in
    ended c.args.rows.now from c.search.inside.marks.items (subst (λ (w : List ℕ). IsUnderWay c.args.rows.now from (record { marks = c.search.inside.marks.items; waiting = w })) empty way)
