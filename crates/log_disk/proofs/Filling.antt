-- Bytes that are made place by place.
use Rattle.std.proofs.Common.{◌≡◌, ℕ, ◌+◌, ◌<◌, List, [], ◌∷◌, ◌++◌, length, slice_index, arith}
use Rattle.std.proofs.lemmas.List.{places}

-- one more byte: what holds of the places before it, and of it, holds of all
pub slice_index-push : (bytes : List ℕ) (byte n : ℕ) (P : ℕ → Type 0) (f : ℕ → ℕ) → length bytes ≡ n →
    ((k : ℕ) → k < n → P k → slice_index bytes k ≡ f k) → (P n → byte ≡ f n) →
    (k : ℕ) → k < n + 1 → P k → slice_index (bytes ++ byte ∷ []) k ≡ f k
slice_index-push bytes byte n P f size before last k below p = grind (arith, places)
