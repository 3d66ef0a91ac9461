-- The numbers that are marked, as a list that rises.
use Rattle.std.proofs.Common.{◌≡◌, inl, inr, ℕ, zero, suc, ◌+◌, ◌<◌, ◌≤◌, Bool, true, false, List, [], ◌∷◌, refl, subst, arith, add-zero}
use Rattle.std.specs.Prelude.{All, Contains}
use Rattle.std.proofs.lemmas.Bool.{false≢true}
use Rattle.std.proofs.lemmas.List.Elements.{All-cons, All-nil, All-weaker, Contains-append_left, Contains-append_right, Contains-push}
use Rattle.exchange_graph.specs.Reach.{Reach, Rises, Lists}
use Rattle.exchange_graph.specs.Search.{is_marked, marked_from, IsFound}
use Rattle.exchange_graph.proofs.Marks.{none-in, head-or-tail}

least : (k : ℕ) (marks : List Bool) → All (λ m. k ≤ m) (marked_from k marks)
least k [] = All-nil (λ m. k ≤ m)
least k (true ∷ marks) =
    All-cons (λ m. k ≤ m) k (marked_from (k + 1) marks) (omega arith) (All-weaker (λ m. k + 1 ≤ m) (λ m. k ≤ m) (λ m h. omega (arith, h)) (marked_from (k + 1) marks) (least (k + 1) marks))
least k (false ∷ marks) =
    All-weaker (λ m. k + 1 ≤ m) (λ m. k ≤ m) (λ m h. omega (arith, h)) (marked_from (k + 1) marks) (least (k + 1) marks)

rises-from : (k : ℕ) (marks : List Bool) → Rises (marked_from k marks)
rises-from k [] = tt
rises-from k (true ∷ marks) =
    (All-weaker (λ m. k + 1 ≤ m) (λ m. k < m) (λ m h. omega (arith, h)) (marked_from (k + 1) marks) (least (k + 1) marks), rises-from (k + 1) marks)
rises-from k (false ∷ marks) = rises-from (k + 1) marks

-- a number is marked, counted from k
abbrev IsMark : ℕ → List Bool → ℕ → Type 0
IsMark k marks n = (i : ℕ) × (n ≡ k + i) × (is_marked marks i ≡ true)

later-mark : (k n : ℕ) (b : Bool) (marks : List Bool) → IsMark (k + 1) marks n → IsMark k (b ∷ marks) n
later-mark k n b marks m = (suc m.0, omega (arith, m.1), m.2)

listed-marked : (k : ℕ) (marks : List Bool) (n : ℕ) → Contains (marked_from k marks) n → IsMark k marks n
listed-marked k [] n h = absurd (none-in n h)
listed-marked k (true ∷ marks) n h =
    elim (head-or-tail k n (marked_from (k + 1) marks) h) [
      | inl is ↦ (0, omega (arith, is), refl)
      | inr later ↦ later-mark k n true marks (listed-marked (k + 1) marks n later)
    ]
listed-marked k (false ∷ marks) n h = later-mark k n false marks (listed-marked (k + 1) marks n h)

marked-listed : (k : ℕ) (marks : List Bool) (i : ℕ) → is_marked marks i ≡ true → Contains (marked_from k marks) (k + i)
marked-listed k [] i h = absurd (false≢true h)
marked-listed k (true ∷ marks) zero h =
    rw add-zero (Contains-append_left (k ∷ []) (marked_from (k + 1) marks) k (Contains-push [] k))
marked-listed k (true ∷ marks) (suc i) h =
    let e : k + suc i ≡ k + 1 + i = omega arith in
    rw e (Contains-append_right (k ∷ []) (marked_from (k + 1) marks) (k + 1 + i) (marked-listed (k + 1) marks i h))
marked-listed k (false ∷ marks) zero h = absurd (false≢true h)
marked-listed k (false ∷ marks) (suc i) h =
    let e : k + suc i ≡ k + 1 + i = omega arith in rw e (marked-listed (k + 1) marks i h)

listed-reached : (rows : List (List ℕ)) (from : List ℕ) (marks : List Bool) → IsFound rows from marks → (n : ℕ) → Contains (marked_from 0 marks) n → Reach rows from n
listed-reached rows from marks f n h =
    let m = listed-marked 0 marks n h in
    let e : m.0 ≡ n = omega (arith, m.1) in
    subst (λ (k : ℕ). Reach rows from k) e (f.sound m.0 m.2)

reached-listed : (rows : List (List ℕ)) (from : List ℕ) (marks : List Bool) → IsFound rows from marks → (n : ℕ) → Reach rows from n → Contains (marked_from 0 marks) n
reached-listed rows from marks f n h =
    let e : 0 + n ≡ n = omega arith in
    subst (λ (k : ℕ). Contains (marked_from 0 marks) k) e (marked-listed 0 marks n (f.complete n h))

pub found-listed : (rows : List (List ℕ)) (from : List ℕ) (marks : List Bool) (numbers : List ℕ) → IsFound rows from marks → numbers ≡ marked_from 0 marks → Lists numbers (Reach rows from)
found-listed rows from marks numbers f are = rw are (record {
  rises = rises-from 0 marks;
  members = λ n. (listed-reached rows from marks f n, reached-listed rows from marks f n);
})
