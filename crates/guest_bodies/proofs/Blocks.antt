-- How many blocks of a window aren't all zero.
use Rattle.std.proofs.Common.{◌≡◌, ℕ, zero, suc, ◌<◌, ◌≤◌, ◌^◌, Bool, true, false, cond, List, [], ◌∷◌, length, arith, length-append}
use Rattle.std.proofs.lemmas.Bool.Decides.{nat_tests}
use Rattle.arn_base.specs.declared.machine.Block.{Block}
use Rattle.parts_model.specs.declared.limits.TheConstants.{WINDOW_LEN}
use Rattle.parts_model.specs.Blocks.{block_of, blocks_of, is_used, used_block, used_blocks}

-- a block is at most one
one-few : (b : Bool) (block : Block) → length (cond b (block ∷ []) []) ≤ 1
one-few true block = omega arith
one-few false block = omega arith

used-few : (bytes : List ℕ) (count : ℕ) → length (used_blocks bytes count) ≤ count
unfolding used_blocks
used-few bytes zero = omega arith
used-few bytes (suc count) =
    omega (arith, length-append (used_blocks bytes count) (used_block (block_of bytes count)), used-few bytes count, one-few (is_used (block_of bytes count)) (block_of bytes count))

pub blocks-few : (bytes : List ℕ) → length bytes ≡ WINDOW_LEN → length (blocks_of bytes) < 2 ^ 16
blocks-few bytes h1 = grind (arith, nat_tests, used-few)
