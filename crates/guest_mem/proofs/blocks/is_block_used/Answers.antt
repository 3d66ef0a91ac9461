use Rattle.std.proofs.Common.{◌≡◌, ◌/◌, ◌==◌, [], List, ℕ, ap, arith, get_or, length, not, sym, true, ◌∙◌}
use Rattle.std.proofs.lemmas.List.{take_all}
use Rattle.std.proofs.lemmas.List.Folds.{list_any_at}
use Rattle.std.specs.List.{list_any}
use Rattle.guest_mem.proofs.Used.{any-part}
use Rattle.guest_mem.proofs.blocks.is_block_used.Goals as goal

pub returns-then-is_any_used : goal.returns-then-is_any_used
returns-then-is_any_used c =
    let long = c.told-bytes in
    let all = any-part (λ (byte : ℕ). not (byte == 0)) 64 (length c.args.bytes.now / 64) c.args.bytes.now c.as_chunks.result.0.now (omega arith) c.as_chunks.ensures.front in
    let found : list_any (λ (byte : ℕ). not (byte == 0)) (get_or c.as_chunks.result.0.now c.loop-part.part-index []) ≡ true = sym c.is_any_used.ensures ∙ c.if-is_any_used.true in
    sym (sym all ∙ list_any_at (list_any (λ (byte : ℕ). not (byte == 0))) c.as_chunks.result.0.now c.loop-part.part-index [] c.loop-part-test.true found)

pub returns : goal.returns
returns c =
    let long = c.told-bytes in
    let all = any-part (λ (byte : ℕ). not (byte == 0)) 64 (length c.args.bytes.now / 64) c.args.bytes.now c.as_chunks.result.0.now (omega arith) c.as_chunks.ensures.front in
    let whole = take_all c.loop-part.part-index c.as_chunks.result.0.now c.loop-part-test.false in
    sym (sym all ∙ ap (λ (l : List (List ℕ)). list_any (list_any (λ (byte : ℕ). not (byte == 0))) l) (sym whole) ∙ c.loop-part.invariant)
