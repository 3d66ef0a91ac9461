-- Bytes of which some are those of another list.
use Rattle.std.proofs.Common.{◌≡◌, ◌⊎◌, ℕ, ◌≤◌, ◌<◌, List, length, map, cond, ltb, slice_index, ◌∙◌, arith}
use Rattle.std.specs.List.{range_with_len}
use Rattle.std.proofs.lemmas.Bool.Decides.{nat_tests}
use Rattle.std.proofs.lemmas.List.FromFn.{length-map-range_with_len, get_or-map-range_with_len}

-- the byte of one list from a place to before another, else that of the other list
abbrev patch : List ℕ → ℕ → ℕ → List ℕ → ℕ → ℕ
patch image from to bytes k =
    cond (ltb k from) (slice_index bytes k) (cond (ltb k to) (slice_index image k) (slice_index bytes k))

-- so many of these bytes
pub patched : List ℕ → ℕ → ℕ → List ℕ → ℕ → List ℕ
patched image from to bytes n = map (patch image from to bytes) (range_with_len 0 n)

pub length-patched : (image : List ℕ) (from to : ℕ) (bytes : List ℕ) (n : ℕ) →
    length (patched image from to bytes n) ≡ n
unfolding patched
length-patched image from to bytes n = length-map-range_with_len (patch image from to bytes) 0 n

slice_index-patched : (image : List ℕ) (from to : ℕ) (bytes : List ℕ) (n k : ℕ) → k < n →
    slice_index (patched image from to bytes n) k ≡ patch image from to bytes k
unfolding patched
slice_index-patched image from to bytes n k below =
    get_or-map-range_with_len (patch image from to bytes) 0 n k k 0 below (omega arith)

patch-inside : (image : List ℕ) (from to : ℕ) (bytes : List ℕ) (k : ℕ) → from ≤ k → k < to →
    patch image from to bytes k ≡ slice_index image k
patch-inside image from to bytes k low high = grind (arith, nat_tests)

patch-outside : (image : List ℕ) (from to : ℕ) (bytes : List ℕ) (k : ℕ) → (k < from) ⊎ (to ≤ k) →
    patch image from to bytes k ≡ slice_index bytes k
patch-outside image from to bytes k outside = grind (arith, nat_tests)

-- inside it is the one
pub slice_index-patched_inside : (image : List ℕ) (from to : ℕ) (bytes : List ℕ) (n k : ℕ) → k < n →
    from ≤ k → k < to → slice_index (patched image from to bytes n) k ≡ slice_index image k
slice_index-patched_inside image from to bytes n k below low high =
    slice_index-patched image from to bytes n k below ∙ patch-inside image from to bytes k low high

-- outside it is the other
pub slice_index-patched_outside : (image : List ℕ) (from to : ℕ) (bytes : List ℕ) (n k : ℕ) → k < n →
    (k < from) ⊎ (to ≤ k) → slice_index (patched image from to bytes n) k ≡ slice_index bytes k
slice_index-patched_outside image from to bytes n k below outside =
    slice_index-patched image from to bytes n k below ∙ patch-outside image from to bytes k outside
