-- Blocks that are laid over a window one after another.
use Rattle.std.proofs.Common.{◌≡◌, ℕ, ◌+◌, ◌*◌, ◌<◌, ◌≤◌, List, length, get_or, drop, ap, sym, ◌∙◌, arith}
use Rattle.std.proofs.lemmas.Bool.Decides.{nat_tests}
use Rattle.std.proofs.lemmas.List.{drop_all, drop_more}
use Rattle.arn_base.specs.Disk.{overwrite}
use Rattle.arn_base.specs.declared.machine.Block.{Block}
use Rattle.parts_model.specs.declared.limits.TheConstants.{BLOCK_LEN}
use Rattle.parts_model.specs.Blocks.{with_blocks}

pub one-more : (blocks : List Block) (i : ℕ) (d : Block) (old new : List ℕ) → i < length blocks → new ≡ overwrite old (BLOCK_LEN * (get_or blocks i d).number) (get_or blocks i d).bytes → with_blocks (drop (i + 1) blocks) new ≡ with_blocks (drop i blocks) old
unfolding with_blocks
one-more blocks i d old new h1 h2 = grind (arith, nat_tests, drop_more)

pub none-left : (blocks : List Block) (i : ℕ) (bytes all : List ℕ) → length blocks ≤ i → with_blocks (drop i blocks) bytes ≡ all → bytes ≡ all
unfolding with_blocks
none-left blocks i bytes all past is = sym (ap (λ (l : List Block). with_blocks l bytes) (drop_all i blocks past)) ∙ is
