-- Event bytes by place, and bytes with them.
use Rattle.std.proofs.Common.{◌≡◌, ℕ, zero, suc, ◌+◌, ◌-◌, ◌<◌, ◌≤◌, ◌++◌, ◌∙◌, List, [], ◌∷◌, length, map, take, drop, refl, sym, ap, arith}
use Rattle.arn_base.specs.declared.records.Src.{Src}
use Rattle.arn_base.specs.declared.records.Give.{Give}
use Rattle.arn_base.specs.declared.records.Origin.{Origin}
use Rattle.parts_model.specs.declared.tagged.TaggedByte.{TaggedByte}
use Rattle.parts_model.specs.Tagged.{given, held_from, origins_of, values}
use Rattle.guest_files.specs.Runs.{first_bytes, sources_from, tagged}

pub length-sources_from : (f : ℕ → Src) (place n : ℕ) → length (sources_from f place n) ≡ n
length-sources_from f place zero = refl
length-sources_from f place (suc n) = ap (λ (k : ℕ). suc k) (length-sources_from f (place + 1) n)

-- the same event bytes, from one place on and from another
pub sources_from-same : (f g : ℕ → Src) (a b n : ℕ) → ((i : ℕ) → i < n → f (a + i) ≡ g (b + i)) → sources_from f a n ≡ sources_from g b n
sources_from-same f g a b zero same = refl
sources_from-same f g a b (suc n) same =
    let from : a ≡ a + 0 = omega arith in
    let to : b + 0 ≡ b = omega arith in
    let first : f a ≡ g b = ap f from ∙ same 0 (omega arith) ∙ ap g to in
    let later : (i : ℕ) → i < n → f (a + 1 + i) ≡ g (b + 1 + i) =
    λ i below.
    let here : a + 1 + i ≡ a + suc i = omega arith in
    let there : b + suc i ≡ b + 1 + i = omega arith in
    ap f here ∙ same (suc i) (omega (arith, below)) ∙ ap g there in
    ap (λ (s : Src). s ∷ sources_from f (a + 1) n) first ∙ ap (λ (ss : List Src). g b ∷ ss) (sources_from-same f g (a + 1) (b + 1) n later)

pub sources_from-append : (f : ℕ → Src) (a m n : ℕ) → sources_from f a (m + n) ≡ sources_from f a m ++ sources_from f (a + m) n
sources_from-append f a zero n =
    let all : zero + n ≡ n = omega arith in
    let here : a ≡ a + zero = omega arith in
    ap (λ (k : ℕ). sources_from f a k) all ∙ ap (λ (k : ℕ). sources_from f k n) here
sources_from-append f a (suc m) n =
    let more : suc m + n ≡ suc (m + n) = omega arith in
    let here : a + 1 + m ≡ a + suc m = omega arith in
    ap (λ (k : ℕ). sources_from f a k) more
    ∙ ap (λ (ss : List Src). f a ∷ ss) (sources_from-append f (a + 1) m n ∙ ap (λ (k : ℕ). sources_from f (a + 1) m ++ sources_from f k n) here)

pub drop-sources_from : (f : ℕ → Src) (a k n : ℕ) → drop k (sources_from f a n) ≡ sources_from f (a + k) (n - k)
drop-sources_from f a zero n =
    let all : n ≡ n - zero = omega arith in
    let here : a ≡ a + zero = omega arith in
    ap (λ (m : ℕ). sources_from f a m) all ∙ ap (λ (m : ℕ). sources_from f m (n - zero)) here
drop-sources_from f a (suc k) zero =
    let none : zero ≡ zero - suc k = omega arith in
    ap (λ (m : ℕ). sources_from f (a + suc k) m) none
drop-sources_from f a (suc k) (suc n) =
    let fewer : n - k ≡ suc n - suc k = omega arith in
    let here : a + 1 + k ≡ a + suc k = omega arith in
    drop-sources_from f (a + 1) k n ∙ ap (λ (m : ℕ). sources_from f (a + 1 + k) m) fewer ∙ ap (λ (m : ℕ). sources_from f m (suc n - suc k)) here

pub take-sources_from : (f : ℕ → Src) (a k n : ℕ) → k ≤ n → take k (sources_from f a n) ≡ sources_from f a k
take-sources_from f a zero n few = refl
take-sources_from f a (suc k) zero few = absurd (omega (arith, few))
take-sources_from f a (suc k) (suc n) few = ap (λ (ss : List Src). f a ∷ ss) (take-sources_from f (a + 1) k n (omega (arith, few)))

-- bytes with their event bytes
tagged-nil : (bytes : List ℕ) → tagged bytes [] ≡ []
tagged-nil [] = refl
tagged-nil (b ∷ bytes) = refl

pub length-tagged : (bytes : List ℕ) (sources : List Src) → length sources ≡ length bytes → length (tagged bytes sources) ≡ length bytes
length-tagged [] sources same = refl
length-tagged (b ∷ bytes) [] same = absurd (omega (arith, same))
length-tagged (b ∷ bytes) (s ∷ sources) same = ap (λ (n : ℕ). suc n) (length-tagged bytes sources (omega (arith, same)))

pub take-tagged : (n : ℕ) (bytes : List ℕ) (sources : List Src) → take n (tagged bytes sources) ≡ tagged (take n bytes) (take n sources)
take-tagged zero bytes sources = refl
take-tagged (suc n) [] sources = refl
take-tagged (suc n) (b ∷ bytes) [] = refl
take-tagged (suc n) (b ∷ bytes) (s ∷ sources) = ap (λ (held : List TaggedByte). record { value = b; origin = s } ∷ held) (take-tagged n bytes sources)

pub drop-tagged : (n : ℕ) (bytes : List ℕ) (sources : List Src) → drop n (tagged bytes sources) ≡ tagged (drop n bytes) (drop n sources)
drop-tagged zero bytes sources = refl
drop-tagged (suc n) [] sources = refl
drop-tagged (suc n) (b ∷ bytes) [] = sym (tagged-nil (drop n bytes))
drop-tagged (suc n) (b ∷ bytes) (s ∷ sources) = drop-tagged n bytes sources

pub tagged-append : (bytes more : List ℕ) (sources new : List Src) → length sources ≡ length bytes → tagged (bytes ++ more) (sources ++ new) ≡ tagged bytes sources ++ tagged more new
tagged-append [] more [] new same = refl
tagged-append [] more (s ∷ sources) new same = absurd (omega (arith, same))
tagged-append (b ∷ bytes) more [] new same = absurd (omega (arith, same))
tagged-append (b ∷ bytes) more (s ∷ sources) new same = ap (λ (held : List TaggedByte). record { value = b; origin = s } ∷ held) (tagged-append bytes more sources new (omega (arith, same)))

tagged-held_from : (event at : ℕ) (bytes : List ℕ) → tagged bytes (sources_from (λ k. record { event = event; at = k }) at (length bytes)) ≡ held_from event at bytes
tagged-held_from event at [] = refl
tagged-held_from event at (b ∷ bytes) = ap (λ (held : List TaggedByte). record { value = b; origin = record { event = event; at = at } } ∷ held) (tagged-held_from event (at + 1) bytes)

pub tagged-first_bytes : (event : ℕ) (bytes : List ℕ) → tagged bytes (first_bytes event (length bytes)) ≡ held_from event 0 bytes
tagged-first_bytes event bytes = tagged-held_from event 0 bytes

pub values-tagged : (bytes : List ℕ) (sources : List Src) → length sources ≡ length bytes → values (tagged bytes sources) ≡ bytes
values-tagged [] sources same = refl
values-tagged (b ∷ bytes) [] same = absurd (omega (arith, same))
values-tagged (b ∷ bytes) (s ∷ sources) same = ap (λ (bs : List ℕ). b ∷ bs) (values-tagged bytes sources (omega (arith, same)))

pub origins-tagged : (bytes : List ℕ) (sources : List Src) → length sources ≡ length bytes → map (λ h. h.origin) (tagged bytes sources) ≡ sources
origins-tagged [] [] same = refl
origins-tagged [] (s ∷ sources) same = absurd (omega (arith, same))
origins-tagged (b ∷ bytes) [] same = absurd (omega (arith, same))
origins-tagged (b ∷ bytes) (s ∷ sources) same = ap (λ (ss : List Src). s ∷ ss) (origins-tagged bytes sources (omega (arith, same)))

-- bytes and origins, apart
pub given-tagged : (bytes : List ℕ) (sources : List Src) (give : Give) → length sources ≡ length bytes → give.bytes ≡ bytes → give.origins ≡ origins_of sources → give ≡ given (tagged bytes sources)
given-tagged bytes sources give same are from =
    ap (λ (bs : List ℕ). record { bytes = bs; origins = give.origins }) (are ∙ sym (values-tagged bytes sources same))
    ∙ ap (λ (os : List Origin). record { bytes = values (tagged bytes sources); origins = os }) (from ∙ ap origins_of (sym (origins-tagged bytes sources same)))
