-- The digits of a number, as they are seen.
use Rattle.std.proofs.Common.{◌≡◌, ◌≢◌, ℕ, zero, suc, ◌+◌, ◌*◌, ◌%◌, ◌/◌, ◌^◌, ◌<◌, ◌≤◌, ◌==◌, Bool, true, false, List, ◌∷◌, Option, None, Some, refl, sym, ap, ap₂, ◌∙◌, arith}
use Rattle.std.specs.Prelude.{slice_get, slice_set, unwrap_or}
use Rattle.std.specs.Int.{bit_at, bit_not, trailing_zeros, w32}
use Rattle.std.specs.Int.Count.{trailing_of_zero}
use Rattle.std.specs.Int.RustNames.{bit_and, bit_or}
use Rattle.std.proofs.lemmas.Bool.{eqb-true, eqb-false}
use Rattle.std.proofs.lemmas.Nat.Bits.{bit_at-trailing_zeros, bit_at-zero, bit_at_clear_other, bit_at_clear_same, bit_at_set_other, bit_at_set_same, shr_and_one}
use Rattle.parts_model.specs.Signals.{lowest_from}
use Rattle.guest_signals.specs.Pending.{digits_from, pending_in}

same-digits : (mask other place n : ℕ) → ((i : ℕ) → place ≤ i → i < place + n → bit_at other i ≡ bit_at mask i) → digits_from other place n ≡ digits_from mask place n
same-digits mask other place zero same = refl
same-digits mask other place (suc n) same =
    ap₂ (λ (d : ℕ) (ds : List Bool). (d == 1) ∷ ds) (same place (omega arith) (omega arith))
    (same-digits mask other (place + 1) n (λ i from below. same i (omega arith) (omega arith)))

-- one digit is another, and the others stay
set-digit : (mask other place n j k : ℕ) (b : Bool) → k ≡ place + j → j < n → (bit_at other k == 1) ≡ b → ((i : ℕ) → i ≢ k → i < place + n → bit_at other i ≡ bit_at mask i) → digits_from other place n ≡ slice_set (digits_from mask place n) j b
set-digit mask other place zero j k b at within is same = absurd (omega (arith, within))
set-digit mask other place (suc n) zero k b at within is same =
    let here : place ≡ k = omega (arith, at) in
    ap₂ (λ (x : Bool) (ds : List Bool). x ∷ ds) (ap (λ (i : ℕ). bit_at other i == 1) here ∙ is)
    (same-digits mask other (place + 1) n (λ i from below. same i (λ (e : i ≡ k). omega (arith, at, e, from)) (omega (arith, below))))
set-digit mask other place (suc n) (suc j) k b at within is same =
    ap₂ (λ (x : Bool) (ds : List Bool). x ∷ ds) (ap (λ (d : ℕ). d == 1) (same place (λ (e : place ≡ k). omega (arith, at, e)) (omega arith)))
    (set-digit mask other (place + 1) n j k b (omega (arith, at)) (omega (arith, within)) is (λ i isnt below. same i isnt (omega (arith, below))))

get-digit : (mask place n j k : ℕ) → k ≡ place + j → j < n → slice_get (digits_from mask place n) j ≡ Some (bit_at mask k == 1)
get-digit mask place zero j k at within = absurd (omega (arith, within))
get-digit mask place (suc n) zero k at within =
    let here : place ≡ k = omega (arith, at) in ap (λ (i : ℕ). Some (bit_at mask i == 1)) here
get-digit mask place (suc n) (suc j) k at within = get-digit mask (place + 1) n j k (omega (arith, at)) (omega (arith, within))

-- the lowest digit that is 1, and none
lowest-digit : (mask place n t : ℕ) → place ≤ t → t < place + n → bit_at mask t ≡ 1 → ((i : ℕ) → i < t → bit_at mask i ≡ 0) → lowest_from (place + 1) (digits_from mask place n) ≡ Some (t + 1)
lowest-digit mask place zero t from below one none = absurd (omega (arith, from, below))
lowest-digit mask place (suc n) t from below one none =
    by (place == t) refl (λ (less : place < t). lowest-digit mask (place + 1) n t (omega (arith, less)) (omega (arith, below)) one none)
  where
    by : (b : Bool) → (place == t) ≡ b → (place < t → lowest_from (place + 1 + 1) (digits_from mask (place + 1) n) ≡ Some (t + 1)) → lowest_from (place + 1) ((bit_at mask place == 1) ∷ digits_from mask (place + 1) n) ≡ Some (t + 1)
    by true e rest =
        let same : place ≡ t = eqb-true place t e in
        ap (λ (d : ℕ). lowest_from (place + 1) ((d == 1) ∷ digits_from mask (place + 1) n)) (ap (bit_at mask) same ∙ one) ∙ ap (λ (i : ℕ). Some (i + 1)) same
    by false e rest =
        let other : place ≢ t = eqb-false place t e in
        let less : place < t = omega (arith, other, from) in
        ap (λ (d : ℕ). lowest_from (place + 1) ((d == 1) ∷ digits_from mask (place + 1) n)) (none place less) ∙ rest less

no-digit : (mask place n from : ℕ) → ((i : ℕ) → i < place + n → bit_at mask i ≡ 0) → lowest_from from (digits_from mask place n) ≡ None
no-digit mask place zero from none = refl
no-digit mask place (suc n) from none =
    ap (λ (d : ℕ). lowest_from from ((d == 1) ∷ digits_from mask (place + 1) n)) (none place (omega arith))
    ∙ no-digit mask (place + 1) n (from + 1) (λ i below. none i (omega arith))

pub seen-with : (pending place : ℕ) → place < 31 → pending_in (bit_or pending (1 * 2 ^ place % 2 ^ 32)) ≡ slice_set (pending_in pending) place true
unfolding pending_in
seen-with pending place within =
    set-digit pending (bit_or pending (1 * 2 ^ place % 2 ^ 32)) 0 31 place place true (omega arith) within (ap (λ (d : ℕ). d == 1) (bit_at_set_same w32 pending place (omega arith)))
    (λ i isnt below. bit_at_set_other w32 pending place (omega arith) i isnt)

pub seen-without : (pending place : ℕ) → place < 31 → pending_in (bit_and pending (bit_not w32 (1 * 2 ^ place % 2 ^ 32))) ≡ slice_set (pending_in pending) place false
unfolding pending_in
seen-without pending place within =
    set-digit pending (bit_and pending (bit_not w32 (1 * 2 ^ place % 2 ^ 32))) 0 31 place place false (omega arith) within (ap (λ (d : ℕ). d == 1) (bit_at_clear_same w32 pending place (omega arith)))
    (λ i isnt below. bit_at_clear_other w32 pending place (omega arith) i (omega arith) isnt)

pub seen-has : (pending place : ℕ) → place < 31 → unwrap_or (slice_get (pending_in pending) place) false ≡ (bit_and (pending / 2 ^ place) 1 == 1)
unfolding pending_in
seen-has pending place within =
    ap (λ (o : Option Bool). unwrap_or o false) (get-digit pending 0 31 place place (omega arith) within) ∙ sym (ap (λ (d : ℕ). d == 1) (shr_and_one pending place))

-- the lowest place that is 1, if it is a signal's
pub seen-lowest : (pending : ℕ) → pending < 2 ^ 32 → trailing_zeros w32 pending < 31 → lowest_from 1 (pending_in pending) ≡ Some (trailing_zeros w32 pending + 1)
unfolding pending_in
seen-lowest zero small within = absurd (omega (arith, trailing_of_zero 32))
seen-lowest (suc n) small within =
    let found = bit_at-trailing_zeros w32 (suc n) (omega arith) small in
    lowest-digit (suc n) 0 31 (trailing_zeros w32 (suc n)) (omega arith) within found.1 found.2

pub seen-lowest_none : (pending : ℕ) → pending < 2 ^ 32 → 31 ≤ trailing_zeros w32 pending → lowest_from 1 (pending_in pending) ≡ None
unfolding pending_in
seen-lowest_none zero small past = no-digit 0 0 31 1 (λ i below. bit_at-zero i)
seen-lowest_none (suc n) small past =
    let found = bit_at-trailing_zeros w32 (suc n) (omega arith) small in
    no-digit (suc n) 0 31 1 (λ i below. found.2 i (omega (arith, past, below)))

pub ruleset seen = (seen-with, seen-without, seen-has, seen-lowest, seen-lowest_none)
