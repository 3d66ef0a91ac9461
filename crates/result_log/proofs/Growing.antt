-- Bytes to which one item after another is appended.
use Rattle.std.proofs.Common.{◌≡◌, ℕ, zero, suc, ◌+◌, ◌<◌, List, [], ◌∷◌, ◌++◌, length, get_or, take, flat_map, inl, inr, refl, sym, ap, subst, ◌∙◌, append_assoc, arith}
use Rattle.std.proofs.lemmas.Bool.{cases_lt}
use Rattle.std.proofs.lemmas.Grind.{flat_map-append}
use Rattle.std.proofs.lemmas.List.{append-nil, take_more}
use Rattle.schedule_log.specs.Fields.{LeavesFront}

-- one item more was appended
pub spelled-more : {X : Type 0} (spelled : X → List ℕ) (xs : List X) (i : ℕ) (d : X) (old before after : List ℕ) → i < length xs
    → before ≡ old ++ flat_map spelled (take i xs) → after ≡ before ++ spelled (get_or xs i d) → after ≡ old ++ flat_map spelled (take (i + 1) xs)
spelled-more spelled xs i d old before after below so_far appended =
    let item = get_or xs i d in
    let others = flat_map spelled (take i xs) in
    let one : flat_map spelled (item ∷ []) ≡ spelled item = append-nil (spelled item) in
    let all : flat_map spelled (take (i + 1) xs) ≡ others ++ spelled item =
    ap (flat_map spelled) (take_more xs i d below) ∙ flat_map-append spelled (take i xs) (item ∷ []) ∙ ap (λ ys. others ++ ys) one in
    appended ∙ ap (λ ys. ys ++ spelled item) so_far ∙ append_assoc old others (spelled item) ∙ ap (λ ys. old ++ ys) (sym all)

-- an item of the list is the same whatever stands behind its end
same-item : {X : Type 0} (xs : List X) (i : ℕ) (d e : X) → i < length xs → get_or xs i d ≡ get_or xs i e
same-item [] i d e below = absurd (omega arith)
same-item (x ∷ xs) zero d e below = refl
same-item (x ∷ xs) (suc i) d e below = same-item xs i d e (omega arith)

-- what holds of the items before one, and of that one
pub each-more : {X : Type 0} (P : X → Type 0) (xs : List X) (i : ℕ) (d : X) → i < length xs
    → ((k : ℕ) (e : X) → k < i → P (get_or xs k e)) → P (get_or xs i d) → (k : ℕ) (e : X) → k < i + 1 → P (get_or xs k e)
each-more P xs i d below before here k e less =
    elim (cases_lt k i) [
      | inl earlier ↦ before k e earlier
      | inr last ↦
          let same : i ≡ k = omega arith in
          subst (λ n. P (get_or xs n e)) same (subst P (same-item xs i d e below) here)
    ]

-- what stands behind more bytes stands behind the first of them
pub front-more : (old mid new more : List ℕ) → mid ≡ old ++ more → LeavesFront mid new → LeavesFront old new
front-more old mid new more e left =
    record { more = more ++ left.more; is_bytes = left.is_bytes ∙ ap (λ xs. xs ++ left.more) e ∙ append_assoc old more left.more }
