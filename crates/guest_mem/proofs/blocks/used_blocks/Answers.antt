use Rattle.std.proofs.Common.{◌≡◌, ◌+◌, ◌/◌, ℕ, ap, arith, length, sym, ◌∙◌}
use Rattle.std.proofs.lemmas.List.{take_all}
use Rattle.parts_model.specs.Blocks.{used_blocks}
use Rattle.parts_model.specs.declared.limits.TheConstants.{BLOCK_LEN}
use Rattle.guest_mem.proofs.Used.{used_blocks-none}
use Rattle.guest_mem.proofs.blocks.used_blocks.Goals as goal

pub returns : goal.returns
returns c =
    let bytes = c.args.bytes.now in
    let whole = take_all (length c.args.bytes.now) c.args.bytes.now (omega arith) in
    let count : 0 + length c.args.bytes.now / BLOCK_LEN ≡ length c.args.bytes.now / BLOCK_LEN = omega arith in
    c.in_ok-add_used.ensures bytes whole (c.new-blocks.ensures ∙ sym (used_blocks-none bytes))
    ∙ ap (λ (n : ℕ). used_blocks bytes n) count
