-- The blocks of a window that aren't all zero, and the window that they are of.
use Rattle.std.specs.Prelude.{ℕ, zero, suc, ◌*◌, ◌/◌, ◌==◌, Bool, not, if◌then◌else◌, List, [], ◌∷◌, ◌++◌, length, take, drop}
use Rattle.std.specs.List.{list_any}
use Rattle.arn_base.specs.Disk.{overwrite}
use Rattle.arn_base.specs.declared.machine.Block.{Block}
use Rattle.parts_model.specs.declared.limits.TheConstants.{BLOCK_LEN}

-- the block of a number, the first being 0
abbrev pub block_of : List ℕ → ℕ → Block
block_of bytes number = record { number = number; bytes = take BLOCK_LEN (drop (BLOCK_LEN * number) bytes) }

-- some byte of the block isn't zero
abbrev pub is_used : Block → Bool
is_used block = list_any (λ byte. not (byte == 0)) block.bytes

-- the block, if it isn't all zero
abbrev pub used_block : Block → List Block
used_block block = if is_used block then block ∷ [] else []

-- those of the first so many blocks that aren't all zero, in order of number
unfoldable pub used_blocks : List ℕ → ℕ → List Block
used_blocks bytes zero = []
used_blocks bytes (suc count) = used_blocks bytes count ++ used_block (block_of bytes count)

-- the blocks of a window that aren't all zero, in order of number
abbrev pub blocks_of : List ℕ → List Block
blocks_of bytes = used_blocks bytes (length bytes / BLOCK_LEN)

-- the bytes with these blocks over them
unfoldable pub with_blocks : List Block → List ℕ → List ℕ
with_blocks [] bytes = bytes
with_blocks (block ∷ blocks) bytes = with_blocks blocks (overwrite bytes (BLOCK_LEN * block.number) block.bytes)
