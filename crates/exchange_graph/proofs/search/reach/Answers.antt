use Rattle.std.proofs.Common.{◌≡◌, ◌∙◌, ap, length, arith}
use Rattle.std.proofs.lemmas.Result.{IfOk-weaker}
use Rattle.exchange_graph.specs.Reach.{Reach, Lists}
use Rattle.exchange_graph.specs.Search.{Found, with_marks, marked_from, IsUnderWay, IsFound}
use Rattle.exchange_graph.proofs.Listed.{found-listed}
use Rattle.exchange_graph.proofs.Way.{nothing, begun, begun-len}
use Rattle.exchange_graph.proofs.search.reach.Goals as goal

pub follow-requires : goal.follow-requires
follow-requires c =
    let new : c.mark_all.new.self ≡ with_marks (nothing c.room_for.result) c.args.from.now = c.in_ok-mark_all.ensures ∙ ap (λ (f : Found). with_marks f c.args.from.now) c.in_ok-search.ensures in
    let len : length c.mark_all.new.self.marks ≡ c.room_for.result = ap (λ (f : Found). length f.marks) new ∙ begun-len c.args.from.now c.room_for.result c.room_for.ensures.from in
    record { room = omega (arith, len, c.room_for.ensures.rows, c.len.ensures.len) }

pub marked-requires : goal.marked-requires
marked-requires c =
    let new : c.mark_all.new.self ≡ with_marks (nothing c.room_for.result) c.args.from.now = c.in_ok-mark_all.ensures ∙ ap (λ (f : Found). with_marks f c.args.from.now) c.in_ok-search.ensures in
    let len : length c.mark_all.new.self.marks ≡ c.room_for.result = ap (λ (f : Found). length f.marks) new ∙ begun-len c.args.from.now c.room_for.result c.room_for.ensures.from in
    let are : c.as_slice.result.now ≡ c.follow.new.search.marks = c.as_slice.ensures.value ∙ ap (λ (f : Found). f.marks) c.search-2.view_is in
    record { few = rw are (omega (arith, len, c.in_ok-follow.ensures.same, c.room_for.ensures.few)) }

pub returns : goal.returns
returns c =
    let new : c.mark_all.new.self ≡ with_marks (nothing c.room_for.result) c.args.from.now = c.in_ok-mark_all.ensures ∙ ap (λ (f : Found). with_marks f c.args.from.now) c.in_ok-search.ensures in
    let are : c.as_slice.result.now ≡ c.follow.new.search.marks = c.as_slice.ensures.value ∙ ap (λ (f : Found). f.marks) c.search-2.view_is in
    let way : IsUnderWay c.args.rows.now c.args.from.now c.mark_all.new.self = rw new (begun c.args.rows.now c.args.from.now c.room_for.result c.room_for.ensures.from) in
    let found : IsFound c.args.rows.now c.args.from.now c.as_slice.result.now = rw are (c.in_ok-follow.ensures.ok c.args.from.now way) in
    IfOk-weaker c.marked.result (λ numbers. numbers ≡ marked_from 0 c.as_slice.result.now) (λ numbers. Lists numbers (Reach c.args.rows.now c.args.from.now)) (λ numbers is. found-listed c.args.rows.now c.args.from.now c.as_slice.result.now numbers found is) c.marked.ensures
