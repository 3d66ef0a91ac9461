-- An operand is in masks exactly where it is in their list.
use Rattle.std.proofs.Common.{◌≡◌, ℕ, zero, suc, ◌+◌, ◌<◌, nat_lt, Bool, true, false, ◌&&◌, ◌↔◌, IsTrue, List, [], ◌∷◌, ◌++◌, slice_index_or, Contains, refl, sym, ap, subst, ◌∙◌, inl, inr, arith, below_more}
use Rattle.std.proofs.lemmas.List.Elements.{Contains-append_left, Contains-append_right, Contains-push, Contains-push_cases, Contains-append_cases}
use borrow.Author.Tests.{ltb-true, lt-ltb}
use Rattle.rv64_model.specs.Carries.{Operand, Left, Right, Loaded, Address, first_bytes, taken_if, of_left}
use Rattle.link_rules.specs.declared.masks.Operands.{Operands}
use Rattle.link_rules.specs.Masks.{has_byte, is_in}
use Rattle.link_rules.specs.Listed.{bytes_below, address_bytes, listed}
use Rattle.link_rules.proofs.Bytes.{each_byte, one_left}

both_true : (a b : Bool) → (a && b) ≡ true → (a ≡ true) × (b ≡ true)
both_true true b h = (refl, h)
both_true false b h = cc

none_in : (x : Operand) → Contains [] x → ⊥
none_in x c = let below : c.0 < 0 = c.1 in omega arith

only : (y x : Operand) → Contains (y ∷ []) x → y ≡ x
only y x c = elim (Contains-push_cases [] y x c) [ inl none ↦ absurd (none_in x none) | inr e ↦ e ]

module _ (operand : ℕ → Operand) (mask : ℕ) where
  in_bytes : (n i : ℕ) → i < n → has_byte mask i ≡ true → Contains (bytes_below operand mask n) (operand i)
  in_bytes zero i below has = absurd (omega arith)
  in_bytes (suc n) i below has =
      let within : i < n + 1 = omega arith in
      let P : ℕ → Type 0 = λ k. has_byte mask k ≡ true → Contains (bytes_below operand mask (suc n)) (operand k) in
      let earlier : (k : ℕ) → k < n → P k = λ k lt b. Contains-append_left (bytes_below operand mask n) (taken_if (has_byte mask n) (operand n)) (operand k) (in_bytes n k lt b) in
      let here : P n = λ b. Contains-append_right (bytes_below operand mask n) (taken_if (has_byte mask n) (operand n)) (operand n) (subst (λ t. Contains (taken_if t (operand n)) (operand n)) (sym b) (Contains-push [] (operand n))) in
      below_more P n earlier here i within has

  of_one : (n : ℕ) (x : Operand) (b : Bool) → has_byte mask n ≡ b → Contains (taken_if b (operand n)) x → (i : ℕ) × (has_byte mask i ≡ true) × (operand i ≡ x)
  of_one n x true e c = (n, e, only (operand n) x c)
  of_one n x false e c = absurd (none_in x c)

  of_bytes : (n : ℕ) (x : Operand) → Contains (bytes_below operand mask n) x → (i : ℕ) × (has_byte mask i ≡ true) × (operand i ≡ x)
  of_bytes zero x c = absurd (none_in x c)
  of_bytes (suc n) x c = elim (Contains-append_cases (bytes_below operand mask n) (taken_if (has_byte mask n) (operand n)) x c) [
    | inl h ↦ of_bytes n x h
    | inr h ↦ of_one n x (has_byte mask n) refl h
  ]

in_address : (i : ℕ) → i < 8 → Contains (address_bytes true) (Address i)
in_address i h = (i, h, each_byte (λ k. slice_index_or (first_bytes Address 8) k (Address k) ≡ Address k) refl refl refl refl refl refl refl refl i h)

of_address : (a : Bool) (x : Operand) → Contains (address_bytes a) x → (i : ℕ) × ((a && nat_lt i 8) ≡ true) × (Address i ≡ x)
of_address false x c = absurd (none_in x c)
of_address true x c = (c.0, lt-ltb c.0 8 c.1, each_byte (λ k. slice_index_or (first_bytes Address 8) k x ≡ x → Address k ≡ x) (λ e. e) (λ e. e) (λ e. e) (λ e. e) (λ e. e) (λ e. e) (λ e. e) (λ e. e) c.0 c.1 c.2)

module _ (m : Operands) where
  abbrev lefts : List Operand
  lefts = bytes_below Left m.first 8

  abbrev rights : List Operand
  rights = bytes_below Right m.second 8

  abbrev loadeds : List Operand
  loadeds = bytes_below Loaded m.loaded 8

  abbrev addresses : List Operand
  addresses = address_bytes m.address

  below_eight : (mask i : ℕ) → has_byte mask i ≡ true → i < 8
  below_eight mask i h = ltb-true i 8 (both_true (nat_lt i 8) _ h).0

  listed_in : (x : Operand) → is_in m x ≡ true → Contains (listed m) x
  listed_in (Left i) h = Contains-append_left lefts (rights ++ (loadeds ++ addresses)) (Left i) (in_bytes Left m.first 8 i (below_eight m.first i h) h)
  listed_in (Right i) h = Contains-append_right lefts (rights ++ (loadeds ++ addresses)) (Right i)
      (Contains-append_left rights (loadeds ++ addresses) (Right i) (in_bytes Right m.second 8 i (below_eight m.second i h) h))
  listed_in (Loaded i) h = Contains-append_right lefts (rights ++ (loadeds ++ addresses)) (Loaded i)
      (Contains-append_right rights (loadeds ++ addresses) (Loaded i)
      (Contains-append_left loadeds addresses (Loaded i) (in_bytes Loaded m.loaded 8 i (below_eight m.loaded i h) h)))
  listed_in (Address i) h =
      let parts = both_true m.address (nat_lt i 8) h in
      Contains-append_right lefts (rights ++ (loadeds ++ addresses)) (Address i)
      (Contains-append_right rights (loadeds ++ addresses) (Address i)
      (Contains-append_right loadeds addresses (Address i)
      (subst (λ a. Contains (address_bytes a) (Address i)) (sym parts.0) (in_address i (ltb-true i 8 parts.1)))))

  in_listed : (x : Operand) → Contains (listed m) x → is_in m x ≡ true
  in_listed x c = elim (Contains-append_cases lefts (rights ++ (loadeds ++ addresses)) x c) [
    | inl h ↦ let w = of_bytes Left m.first 8 x h in subst (λ y. is_in m y ≡ true) w.2 w.1
    | inr r ↦ elim (Contains-append_cases rights (loadeds ++ addresses) x r) [
      | inl h ↦ let w = of_bytes Right m.second 8 x h in subst (λ y. is_in m y ≡ true) w.2 w.1
      | inr s ↦ elim (Contains-append_cases loadeds addresses x s) [
        | inl h ↦ let w = of_bytes Loaded m.loaded 8 x h in subst (λ y. is_in m y ≡ true) w.2 w.1
        | inr h ↦ let w = of_address m.address x h in subst (λ y. is_in m y ≡ true) w.2 w.1
      ]
    ]
  ]

-- masks that list these operands have exactly them
pub exactly : (m : Operands) (xs : List Operand) → listed m ≡ xs → (x : Operand) → IsTrue (is_in m x) ↔ Contains xs x
exactly m xs e x = subst (λ l. IsTrue (is_in m x) ↔ Contains l x) e (listed_in m x, in_listed m x)

of_left-append : (xs ys : List Operand) → of_left (xs ++ ys) ≡ of_left xs ++ of_left ys
of_left-append [] ys = refl
of_left-append (Left i ∷ xs) ys = ap (λ l. Left i ∷ l) (of_left-append xs ys)
of_left-append (Right i ∷ xs) ys = of_left-append xs ys
of_left-append (Loaded i ∷ xs) ys = of_left-append xs ys
of_left-append (Address i ∷ xs) ys = of_left-append xs ys

joined : (a b c d : List Operand) → a ≡ b → c ≡ d → a ++ c ≡ b ++ d
joined a b c d p q = λ j. p j ++ q j

one_kept : (b : Bool) (i : ℕ) → of_left (taken_if b (Left i)) ≡ taken_if b (Left i)
one_kept true i = refl
one_kept false i = refl

kept : (mask n : ℕ) → of_left (bytes_below Left mask n) ≡ bytes_below Left mask n
kept mask zero = refl
kept mask (suc n) = of_left-append (bytes_below Left mask n) (taken_if (has_byte mask n) (Left n)) ∙ joined _ _ _ _ (kept mask n) (one_kept (has_byte mask n) n)

module _ (operand : ℕ → Operand) (other : (i : ℕ) → of_left (operand i ∷ []) ≡ []) (mask : ℕ) where
  one_dropped : (b : Bool) (i : ℕ) → of_left (taken_if b (operand i)) ≡ []
  one_dropped true i = other i
  one_dropped false i = refl

  dropped : (n : ℕ) → of_left (bytes_below operand mask n) ≡ []
  dropped zero = refl
  dropped (suc n) = of_left-append (bytes_below operand mask n) (taken_if (has_byte mask n) (operand n)) ∙ joined _ [] _ [] (dropped n) (one_dropped (has_byte mask n) n)

no_address : (a : Bool) → of_left (address_bytes a) ≡ []
no_address true = refl
no_address false = refl

-- the bytes of rs1 alone
pub listed-of_first : (m : Operands) → listed (one_left m.first) ≡ of_left (listed m)
listed-of_first m =
    sym (of_left-append (lefts m) (rights m ++ (loadeds m ++ addresses m))
    ∙ joined _ (lefts m) _ [] (kept m.first 8)
    (of_left-append (rights m) (loadeds m ++ addresses m)
    ∙ joined _ [] _ [] (dropped Right (λ i. refl) m.second 8)
    (of_left-append (loadeds m) (addresses m)
    ∙ joined _ [] _ [] (dropped Loaded (λ i. refl) m.loaded 8) (no_address m.address))))
