-- Bytes that are added one by one.
use Rattle.std.proofs.Common.{◌≡◌, ◌<◌, ◌-◌, ◌+◌, ◌%◌, ◌/◌, ◌++◌, ℕ, suc, List, [], ◌∷◌, replicate, refl, ap, sym, ◌∙◌, append_assoc, append-nil, arith}
use Rattle.arn_base.specs.Window.{bytes_of}

bytes_of_suc : (len n : ℕ) → bytes_of (suc len) n ≡ n % 256 ∷ bytes_of len (n / 256)
unfolding bytes_of
bytes_of_suc len n = refl

bytes_of_zero : (n : ℕ) → bytes_of 0 n ≡ []
unfolding bytes_of
bytes_of_zero n = refl

pub number_more : (bytes pushed : List ℕ) (len at n : ℕ) → at < len → pushed ≡ bytes ++ (n % 256) ∷ [] →
    pushed ++ bytes_of (len - (at + 1)) (n / 256) ≡ bytes ++ bytes_of (len - at) n
number_more bytes pushed len at n h e = grind (arith, append_assoc bytes ((n % 256) ∷ []) (bytes_of (len - (at + 1)) (n / 256)), bytes_of_suc (len - (at + 1)) n)

pub number_end : (bytes : List ℕ) (len at n : ℕ) → len - at ≡ 0 → bytes ++ bytes_of (len - at) n ≡ bytes
number_end bytes len at n h = ap (λ k. bytes ++ bytes_of k n) h ∙ ap (λ (bs : List ℕ). bytes ++ bs) (bytes_of_zero n) ∙ append-nil bytes

pub zeros_more : (bytes pushed : List ℕ) (count at : ℕ) → at < count → pushed ≡ bytes ++ 0 ∷ [] →
    pushed ++ replicate (count - (at + 1)) 0 ≡ bytes ++ replicate (count - at) 0
zeros_more bytes pushed count at h e =
    let left : count - at ≡ suc (count - (at + 1)) = omega arith in
    ap (λ (bs : List ℕ). bs ++ replicate (count - (at + 1)) 0) e ∙ append_assoc bytes (0 ∷ []) (replicate (count - (at + 1)) 0)
    ∙ ap (λ k. bytes ++ replicate k 0) (sym left)

pub zeros_end : (bytes : List ℕ) (count at : ℕ) → count - at ≡ 0 → bytes ++ replicate (count - at) 0 ≡ bytes
zeros_end bytes count at h = ap (λ k. bytes ++ replicate k 0) h ∙ append-nil bytes
