use Rattle.std.proofs.Common.{◌≡◌, ℕ, ◌-◌, ◌∙◌, Bool, false, List, filter, get_or, length, ap, subst, arith, IfOk}
use Rattle.std.specs.List.{range_with_len}
use Rattle.history_model.specs.Broken.{greatest}
use Rattle.history_model.specs.Moments.{lives_at}
use Rattle.past_lives.specs.Members.{live_at}
use Rattle.past_lives.proofs.Flags.{filter-same}
use Rattle.past_lives.proofs.living.live_at.Goals as goal

pub returns : goal.returns
returns c =
    let flags = c.in_ok-flags.flags.items in
    let entries = c.args.entries.now in
    let most : length c.as_slice.result.now - 1 ≡ greatest c.args.entries.now = let items = ap length c.as_slice.ensures.value in let len = c.in_ok-flags.ensures.len in omega arith in
    let set_flags = filter (λ pid. get_or c.as_slice.result.now pid false) (range_with_len 1 (length c.as_slice.result.now - 1)) in
    let same : filter (λ pid. get_or c.as_slice.result.now pid false) (range_with_len 1 (length c.as_slice.result.now - 1)) ≡ live_at entries c.args.moment =
    ap (λ (k : ℕ). filter (λ pid. get_or c.as_slice.result.now pid false) (range_with_len 1 k)) most
    ∙ filter-same (λ pid. get_or c.as_slice.result.now pid false) (lives_at entries c.args.moment) 1 (greatest entries)
    (λ k le lt. ap (λ (xs : List Bool). get_or xs k false) c.as_slice.ensures.value ∙ c.in_ok-flags.ensures.lives k (omega arith)) in
    subst (λ (xs : List ℕ). IfOk c.set_in.result (λ live. live ≡ xs)) same c.set_in.ensures
