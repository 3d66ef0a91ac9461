-- Pages one behind the other, as one list.
use Rattle.std.proofs.Common.{◌≡◌, ℕ, zero, suc, ◌+◌, ◌*◌, ◌<◌, ◌≤◌, List, [], ◌∷◌, ◌++◌, length, get_or, set, take, drop, replicate, refl, ap, sym, subst, ◌∙◌, append_assoc, add-one, arith, length-append, length-drop, length-take}
use Rattle.std.proofs.Math.Nat.{mul-suc, mul-le-mul_left}
use Rattle.std.proofs.lemmas.List.{length-replicate, replicate-append-replicate, append-nil, take-append-drop, drop-append-le, drop-drop, drop_all, drop_at, drop_more, set_split, take-append-le, take_all, take_at, length-take-le}
use Rattle.std.proofs.Math.Seq.{take-add}
use Rattle.guest_mem.specs.Pages.{AreWhole, joined}

-- a list with these elements at a place, over what was there
abbrev pub put : {A : Type 0} → List A → ℕ → List A → List A
put old at new = take at old ++ new ++ drop (at + length new) old

next : (n k : ℕ) → n * suc k ≡ n + n * k
next n k = omega (arith, mul-suc n k)

module _ {A : Type 0} where
  joined-append : (front back : List (List A)) → joined (front ++ back) ≡ joined front ++ joined back
  joined-append [] back = refl
  joined-append (page ∷ front) back = ap (λ (l : List A). page ++ l) (joined-append front back) ∙ sym (append_assoc page (joined front) (joined back))

  -- behind a part of the list that is kept
  pub take-behind : (front back : List A) (at n : ℕ) → length front ≡ n → take (n + at) (front ++ back) ≡ front ++ take at back
  take-behind front back at n len =
      take-add n at (front ++ back)
      ∙ ap (λ (l : List A). l ++ take at (drop n (front ++ back))) (take_at front back n len)
      ∙ ap (λ (l : List A). front ++ take at l) (drop_at front back n len)

  drop-behind : (front back : List A) (at n : ℕ) → length front ≡ n → drop (n + at) (front ++ back) ≡ drop at back
  drop-behind front back at n len = sym (drop-drop at n (front ++ back)) ∙ ap (drop at) (drop_at front back n len)

  put-behind : (front back new : List A) (at n : ℕ) → length front ≡ n → put (front ++ back) (n + at) new ≡ front ++ put back at new
  put-behind front back new at n len =
      let sum : n + at + length new ≡ n + (at + length new) = omega arith in
      ap (λ (l : List A). l ++ new ++ drop (n + at + length new) (front ++ back)) (take-behind front back at n len)
      ∙ ap (λ (k : ℕ). front ++ take at back ++ new ++ drop k (front ++ back)) sum
      ∙ ap (λ (l : List A). front ++ take at back ++ new ++ l) (drop-behind front back (at + length new) n len)
      ∙ ap (λ (l : List A). l ++ drop (at + length new) back) (append_assoc front (take at back) new)
      ∙ append_assoc front (take at back ++ new) (drop (at + length new) back)

  put-before : (front back new : List A) (at : ℕ) → at + length new ≤ length front → put (front ++ back) at new ≡ put front at new ++ back
  put-before front back new at within =
      let short : at ≤ length front = omega arith in
      ap (λ (l : List A). l ++ new ++ drop (at + length new) (front ++ back)) (take-append-le at front back short)
      ∙ ap (λ (l : List A). take at front ++ new ++ l) (drop-append-le (at + length new) front back within)
      ∙ sym (append_assoc (take at front ++ new) (drop (at + length new) front) back)

  -- a first part, and what comes behind it
  pub put-put : (old first second : List A) (at : ℕ) → at ≤ length old → put (put old at first) (at + length first) second ≡ put old at (first ++ second)
  put-put old first second at within =
      let head = take at old ++ first in
      let rest = drop (at + length first) old in
      let long : length (take at old ++ first) ≡ at + length first = omega (arith, length-append (take at old) first, length-take at old) in
      let sum : at + length first + length second ≡ at + length (first ++ second) = omega (arith, length-append first second) in
      ap (λ (l : List A). l ++ second ++ drop (at + length first + length second) (head ++ rest)) (take_at head rest (at + length first) long)
      ∙ ap (λ (l : List A). head ++ second ++ l) (drop-behind head rest (length second) (at + length first) long)
      ∙ ap (λ (l : List A). head ++ second ++ l) (drop-drop (length second) (at + length first) old)
      ∙ ap (λ (k : ℕ). head ++ second ++ drop k old) sum
      ∙ ap (λ (l : List A). l ++ drop (at + length (first ++ second)) old) (append_assoc (take at old) first second)

  pub length-put : (old new : List A) (at : ℕ) → at + length new ≤ length old → length (put old at new) ≡ length old
  length-put old new at within =
      omega (arith, length-append (take at old ++ new) (drop (at + length new) old), length-append (take at old) new, length-take at old, length-drop (at + length new) old)

  -- nothing is put
  pub put-none : (old : List A) (at : ℕ) → put old at [] ≡ old
  put-none old at =
      let same : at + 0 ≡ at = omega arith in
      ap (λ (k : ℕ). take at old ++ [] ++ drop k old) same
      ∙ ap (λ (l : List A). l ++ drop at old) (append-nil (take at old))
      ∙ take-append-drop at old

-- pages that all have one element everywhere
pub whole-replicate : {A : Type 0} (k n : ℕ) (x : A) → AreWhole n (replicate k (replicate n x))
whole-replicate zero n x = tt
whole-replicate (suc k) n x = (length-replicate n x, whole-replicate k n x)

pub joined-replicate : {A : Type 0} (k n : ℕ) (x : A) → joined (replicate k (replicate n x)) ≡ replicate (n * k) x
joined-replicate zero n x = let none : 0 ≡ n * 0 = omega arith in ap (λ (m : ℕ). replicate m x) none
joined-replicate {A} (suc k) n x =
    ap (λ (l : List A). replicate n x ++ l) (joined-replicate k n x)
    ∙ replicate-append-replicate n (n * k) x
    ∙ ap (λ (m : ℕ). replicate m x) (sym (next n k))

-- pages that each have n elements
module _ {A : Type 0} (n : ℕ) where
  pub length-joined : (pages : List (List A)) → AreWhole n pages → length (joined pages) ≡ n * length pages
  length-joined [] whole = omega arith
  length-joined (page ∷ pages) whole =
      let head : length page ≡ n = whole.0 in
      let tail = length-joined pages whole.1 in
      let more = next n (length pages) in
      omega (arith, length-append page (joined pages))

  pub whole-at : (pages : List (List A)) (k : ℕ) (d : List A) → AreWhole n pages → k < length pages → length (get_or pages k d) ≡ n
  whole-at [] k d whole inside = absurd (omega arith)
  whole-at (page ∷ pages) zero d whole inside = whole.0
  whole-at (page ∷ pages) (suc k) d whole inside = whole-at pages k d whole.1 (omega arith)

  pub whole-set : (pages : List (List A)) (k : ℕ) (page : List A) → AreWhole n pages → length page ≡ n → AreWhole n (set pages k page)
  whole-set [] k page whole len = tt
  whole-set (x ∷ xs) zero page whole len = (len, whole.1)
  whole-set (x ∷ xs) (suc k) page whole len = (whole.0, whole-set xs k page whole.1 len)

  -- the pages before one, and those from it on
  take-joined : (pages : List (List A)) (k : ℕ) → AreWhole n pages → take (n * k) (joined pages) ≡ joined (take k pages)
  take-joined pages zero whole =
      let none : n * 0 ≡ 0 = omega arith in
      ap (λ (m : ℕ). take m (joined pages)) none
  take-joined [] (suc k) whole = take_all (n * suc k) [] (omega arith)
  take-joined (page ∷ pages) (suc k) whole =
      ap (λ (m : ℕ). take m (page ++ joined pages)) (next n k)
      ∙ take-behind page (joined pages) (n * k) n whole.0
      ∙ ap (λ (l : List A). page ++ l) (take-joined pages k whole.1)

  drop-joined : (pages : List (List A)) (k : ℕ) → AreWhole n pages → drop (n * k) (joined pages) ≡ joined (drop k pages)
  drop-joined pages zero whole =
      let none : n * 0 ≡ 0 = omega arith in
      ap (λ (m : ℕ). drop m (joined pages)) none
  drop-joined [] (suc k) whole = drop_all (n * suc k) [] (omega arith)
  drop-joined (page ∷ pages) (suc k) whole =
      ap (λ (m : ℕ). drop m (page ++ joined pages)) (next n k)
      ∙ drop-behind page (joined pages) (n * k) n whole.0
      ∙ drop-joined pages k whole.1

  module _ (pages : List (List A)) (k : ℕ) (d : List A) (whole : AreWhole n pages) (inside : k < length pages) where
    from-page : drop (n * k) (joined pages) ≡ get_or pages k d ++ joined (drop (k + 1) pages)
    from-page = drop-joined pages k whole ∙ ap (λ (l : List (List A)). joined l) (drop_more pages k d inside)

    -- elements that lie in one page
    pub take-in-page : (at len : ℕ) → at + len ≤ n → take len (drop (n * k + at) (joined pages)) ≡ take len (drop at (get_or pages k d))
    take-in-page at len short =
        let page = get_or pages k d in
        let long : length (get_or pages k d) ≡ n = whole-at pages k d whole inside in
        let near : at ≤ length (get_or pages k d) = omega arith in
        let room : len ≤ length (drop at (get_or pages k d)) = omega (arith, length-drop at (get_or pages k d)) in
        ap (take len) (sym (drop-drop at (n * k) (joined pages)) ∙ ap (drop at) from-page ∙ drop-append-le at page (joined (drop (k + 1) pages)) near)
        ∙ take-append-le len (drop at page) (joined (drop (k + 1) pages)) room

    whole-front : length (joined (take k pages)) ≡ n * k
    whole-front =
        let long = length-joined pages whole in
        let cut : k ≤ length pages = omega arith in
        let below = mul-le-mul_left n cut in
        ap length (sym (take-joined pages k whole)) ∙ length-take-le (n * k) (joined pages) (subst (λ m. n * k ≤ m) (sym long) below)

    -- all pages, split at one
    split : joined pages ≡ joined (take k pages) ++ (get_or pages k d ++ joined (drop (k + 1) pages))
    split =
        sym (take-append-drop (n * k) (joined pages))
        ∙ ap (λ (l : List A). l ++ drop (n * k) (joined pages)) (take-joined pages k whole)
        ∙ ap (λ (l : List A). joined (take k pages) ++ l) from-page

    split-set : (page : List A) → joined (set pages k page) ≡ joined (take k pages) ++ (page ++ joined (drop (k + 1) pages))
    split-set page =
        ap (λ (l : List (List A)). joined l) (set_split pages k page inside)
        ∙ joined-append (take k pages) (page ∷ drop (suc k) pages)
        ∙ ap (λ (j : ℕ). joined (take k pages) ++ (page ++ joined (drop j pages))) (sym (add-one k))

    -- elements put in one page
    pub put-in-page : (at : ℕ) (new : List A) → at + length new ≤ n → joined (set pages k (put (get_or pages k d) at new)) ≡ put (joined pages) (n * k + at) new
    put-in-page at new short =
        let page = get_or pages k d in
        let front = joined (take k pages) in
        let back = joined (drop (k + 1) pages) in
        let long : at + length new ≤ length (get_or pages k d) = subst (λ m. at + length new ≤ m) (sym (whole-at pages k d whole inside)) short in
        split-set (put page at new)
        ∙ ap (λ (l : List A). front ++ l) (sym (put-before page back new at long))
        ∙ sym (put-behind front (page ++ back) new at (n * k) whole-front)
        ∙ ap (λ (l : List A). put l (n * k + at) new) (sym split)
