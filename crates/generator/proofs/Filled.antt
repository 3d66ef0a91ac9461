-- Bytes that were filled by words.
use Rattle.std.proofs.Common.{◌≡◌, ℕ, List, ◌++◌, length, take, drop, ap, ◌∙◌}
use Rattle.std.proofs.Math.Seq.{take-append_seam}
use Rattle.rand_core.specs.Steps.{fill_via_u32}
use Rattle.rand_pcg.specs.Lcg.{Lcg, increment_of, started}
use Rattle.rand_pcg.specs.Pcg.{multiplier_64, pcg32}
use Rattle.generator.specs.Typed.{typed_bytes}
use Rattle.generator.specs.declared.typing.TheConstants.{MANY_TYPED}

pub typed-filled : (seed len n : ℕ) (filled items : List ℕ) (g left : Lcg) → ◌≡◌ {A = List ℕ × Lcg} (filled, left) (fill_via_u32 pcg32 n g)
    → g ≡ started 64 multiplier_64 seed (increment_of 64 1) → n ≡ MANY_TYPED → len ≡ length filled → take len (filled ++ drop (length filled) items) ≡ typed_bytes seed
unfolding typed_bytes
typed-filled seed len n filled items g left fills is_g is_n is_len =
    ap (λ (k : ℕ). take k (filled ++ drop (length filled) items)) is_len
    ∙ take-append_seam filled (drop (length filled) items)
    ∙ ap (λ (x : List ℕ × Lcg). x.0) fills
    ∙ ap (λ (h : Lcg). (fill_via_u32 pcg32 n h).0) is_g
    ∙ ap (λ (k : ℕ). (fill_via_u32 pcg32 k (started 64 multiplier_64 seed (increment_of 64 1))).0) is_n
