use Rattle.std.proofs.Common.{◌≡◌, ℕ, suc, ◌+◌, ◌-◌, ◌/◌, ◌%◌, ◌<◌, List, [], ◌∷◌, ◌++◌, length, take, set, ap, sym, ◌∙◌, append_assoc, append-nil, arith}
use Rattle.std.proofs.Math.Seq.{take-length}
use Rattle.std.proofs.lemmas.List.{length-set, take_more_set}
use Rattle.arn_base.specs.Window.{bytes_of}
use Rattle.core_tests.proofs.instructions.flat.spell.Goals as goal

-- the lowest byte, and those of the rest
bytes_of-more : (k m n : ℕ) → k ≡ suc m → bytes_of k n ≡ n % 256 ∷ bytes_of m (n / 256)
unfolding bytes_of
bytes_of-more k m n more = ap (λ (j : ℕ). bytes_of j n) more

-- one more byte is written
written : (s all : List ℕ) (i n : ℕ) → i < length s → take i s ++ bytes_of (length s - i) n ≡ all
    → take (i + 1) (set s i (n % 256)) ++ bytes_of (length s - (i + 1)) (n / 256) ≡ all
written s all i n inside before =
    let rest = bytes_of (length s - (i + 1)) (n / 256) in
    let more = bytes_of-more (length s - i) (length s - (i + 1)) n (omega arith) in
    ap (λ (bs : List ℕ). bs ++ rest) (take_more_set s i (n % 256) inside) ∙ append_assoc (take i s) (n % 256 ∷ []) rest ∙ ap (λ (bs : List ℕ). take i s ++ bs) (sym more) ∙ before

-- all are written
written_whole : (s all : List ℕ) (i n : ℕ) → i ≡ length s → take i s ++ bytes_of (length s - i) n ≡ all → s ≡ all
unfolding bytes_of
written_whole s all i n whole before =
    let none : length s - i ≡ 0 = omega arith in
    let bytes = ap (λ (k : ℕ). take k s) whole ∙ take-length s in
    sym (ap (λ (k : ℕ). take i s ++ bytes_of k n) none ∙ append-nil (take i s) ∙ bytes) ∙ before

pub loop-byte-preserved : goal.loop-byte-preserved
loop-byte-preserved c = simp length-set (written _ _ _ _ (omega arith) c.loop-byte.invariant)

pub returns : goal.returns
returns c = written_whole _ _ _ _ (omega arith) c.loop-byte.invariant ∙ ap (λ (k : ℕ). bytes_of k c.args.number) (omega arith)
