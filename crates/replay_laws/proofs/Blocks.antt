-- A window is again what its blocks make of zeros.
use Rattle.std.proofs.Common.{◌≡◌, ℕ, zero, suc, ◌+◌, ◌-◌, ◌*◌, ◌/◌, ◌==◌, ◌||◌, Bool, false, not, List, [], ◌∷◌, ◌++◌, length, take, drop, replicate, refl, ap, ap₂, ◌∙◌, sym, append-nil, append_assoc, arith, length-drop, length-take-le, take_all, eqb-true}
use Rattle.std.proofs.lemmas.Bool.Decides.{nat_tests}
use Rattle.std.proofs.Math.Seq.{take-append_seam, drop-append-add, take-add}
use Rattle.std.proofs.lemmas.List.{replicate-append-replicate, drop-replicate}
use Rattle.std.specs.List.{list_any}
use Rattle.arn_base.specs.Disk.{overwrite}
use Rattle.arn_base.specs.declared.machine.Block.{Block}
use Rattle.parts_model.specs.declared.limits.TheConstants.{BLOCK_LEN, WINDOW_LEN}
use Rattle.parts_model.specs.Blocks.{block_of, used_block, used_blocks, blocks_of, with_blocks}
use Rattle.parts_model.specs.Memory.{zeros}

-- bytes of which none is another are zeros
zero-bytes : (xs : List ℕ) → list_any (λ byte. not (byte == 0)) xs ≡ false → xs ≡ replicate (length xs) 0
zero-bytes [] e = refl
zero-bytes (x ∷ xs) e = by_test (zero-bytes xs) (x == 0) refl e
  where
    by_test : (list_any (λ byte. not (byte == 0)) xs ≡ false → xs ≡ replicate (length xs) 0) → (b : Bool) → (x == 0) ≡ b → (not b || list_any (λ byte. not (byte == 0)) xs) ≡ false → x ∷ xs ≡ replicate (suc (length xs)) 0
    by_test h1 b h2 h3 = grind (arith, nat_tests, eqb-true)

-- bytes over the first zeros behind others
over-zeros : (xs bytes : List ℕ) (len r : ℕ) → length bytes ≡ len → overwrite (xs ++ replicate (len + r) 0) (length xs) bytes ≡ (xs ++ bytes) ++ replicate r 0
over-zeros xs bytes len r h1 = grind (arith, nat_tests, take-append_seam, drop-append-add, drop-replicate)

-- zeros in their place
same-zeros : (xs bytes : List ℕ) (len r : ℕ) → bytes ≡ replicate len 0 → xs ++ replicate (len + r) 0 ≡ (xs ++ bytes) ++ replicate r 0
same-zeros xs bytes len r h1 = grind (arith, nat_tests, replicate-append-replicate, append_assoc)

one-block : (block : Block) (xs : List ℕ) (len r : ℕ) → BLOCK_LEN * block.number ≡ length xs → length block.bytes ≡ len → with_blocks (used_block block) (xs ++ replicate (len + r) 0) ≡ (xs ++ block.bytes) ++ replicate r 0
unfolding with_blocks
one-block block xs len r h1 h2 = grind (arith, nat_tests, over-zeros, same-zeros, zero-bytes)

blocks-append : (blocks more : List Block) (bytes : List ℕ) → with_blocks (blocks ++ more) bytes ≡ with_blocks more (with_blocks blocks bytes)
unfolding with_blocks
blocks-append [] more bytes = refl
blocks-append (block ∷ blocks) more bytes = blocks-append blocks more (overwrite bytes (BLOCK_LEN * block.number) block.bytes)

-- the first so many blocks of a window, and zeros behind them
filled : (w : List ℕ) (count r : ℕ) → BLOCK_LEN * count + r ≡ length w → with_blocks (used_blocks w count) (replicate (length w) 0) ≡ take (BLOCK_LEN * count) w ++ replicate r 0
unfolding with_blocks used_blocks
filled w zero r e = ap₂ (λ (n m : ℕ). take m w ++ replicate n 0) (let x : length w ≡ r = omega arith in x) (let x : 0 ≡ BLOCK_LEN * 0 = omega arith in x)
filled w (suc count) r e =
    let block = block_of w count in
    let at : ℕ = BLOCK_LEN * count in
    let there : at ≡ length (take at w) = sym (length-take-le at w (omega arith)) in
    let size : length block.bytes ≡ 256 = length-take-le 256 (drop at w) (let l = length-drop at w in omega arith) in
    let next : at + 256 ≡ BLOCK_LEN * suc count = omega arith in
    blocks-append (used_blocks w count) (used_block block) (replicate (length w) 0)
    ∙ (ap (with_blocks (used_block block)) (filled w count (256 + r) (omega arith))
    ∙ (one-block block (take at w) 256 r there size
    ∙ ap (λ (a : List ℕ). a ++ replicate r 0) (sym (take-add at 256 w) ∙ ap (λ (n : ℕ). take n w) next)))

zeros-are : (n : ℕ) → zeros n ≡ replicate n 0
unfolding zeros
zeros-are n = refl

-- so a whole window is what its blocks make of zeros
pub blocks-whole : (w : List ℕ) → length w ≡ WINDOW_LEN → with_blocks (blocks_of w) (zeros WINDOW_LEN) ≡ w
blocks-whole w e =
    ap₂ (λ (n m : ℕ). with_blocks (used_blocks w (n / BLOCK_LEN)) (zeros m)) e (sym e)
    ∙ (ap (with_blocks (used_blocks w 1024)) (zeros-are (length w))
    ∙ (filled w 1024 0 (sym e)
    ∙ (append-nil (take 262144 w) ∙ take_all 262144 w (let l = e in omega arith))))
