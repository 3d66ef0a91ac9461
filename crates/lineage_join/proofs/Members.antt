-- Members of lists that grow and are joined.
use Rattle.std.proofs.Common.{◌≡◌, ℕ, ◌<◌, nat_lt, Bool, true, false, cond, List, [], ◌∷◌, flat_map, Contains, refl, sym, ap, subst, inl, inr, arith, true≢false, Result, Ok, Err, OnOk}
use Rattle.std.proofs.lemmas.Bool.Decides.{nat_tests}
use Rattle.std.proofs.lemmas.List.Elements.{Contains-append_left, Contains-append_right, Contains-append_cases}
use Rattle.arn_base.specs.declared.records.Pair.{Pair}
use Rattle.lineage_model.specs.Flow.{At, Byte}
use Rattle.lineage_model.specs.Joined.{source_byte}
use Rattle.lineage_model.specs.Tracking.{EventByte}
use Rattle.lineage_join.specs.Rising.{source_of}
use Rattle.lineage_join.specs.Waits.{HasAlso, HasPairs}
use Rattle.lineage_join.proofs.Rises.{none_in, front, behind, cases}

module _ {X Y : Type 0} (f : X → List Y) where
  pub in-flat : (xs : List X) (x : X) (y : Y) → Contains xs x → Contains (f x) y → Contains (flat_map f xs) y
  in-flat [] x y c d = absurd (none_in x c)
  in-flat (z ∷ xs) x y c d = elim (cases z xs x c) [
    | inl e ↦ Contains-append_left (f z) (flat_map f xs) y (subst (λ w. Contains (f w) y) (sym e) d)
    | inr g ↦ Contains-append_right (f z) (flat_map f xs) y (in-flat xs x y g d)
  ]

  pub from-flat : (xs : List X) (y : Y) → Contains (flat_map f xs) y → (x : X) × Contains xs x × Contains (f x) y
  from-flat [] y c = absurd (none_in y c)
  from-flat (x ∷ xs) y c = elim (Contains-append_cases (f x) (flat_map f xs) y c) [
    | inl d ↦ (x, front x xs, d)
    | inr d ↦ let more = from-flat xs y d in (more.0, behind x xs more.0 more.1, more.2)
  ]

abbrev number : At → ℕ
number (Byte k) = k
number _ = 0

-- a source byte that is there, and one that isn't
module _ (old : List Pair) (byte event len at : ℕ) where
  pub kept : (new : List Pair) → at < len → HasAlso old (record { event = event; at = at; byte = byte }) new → HasPairs old byte (source_byte event len (Byte at)) new
  kept new h has = subst (λ (bytes : List EventByte). HasPairs old byte bytes new) (sym (there (nat_lt at len) (grind (arith, nat_tests)))) (λ p. (
    λ c. elim ((has p).0 c) [ inl d ↦ inl d | inr e ↦ inr (ap (λ (q : Pair). q.byte) e, subst (λ (q : Pair). Contains (own ∷ []) (source_of q)) e (front own [])) ],
    λ s. elim s [ inl c ↦ (has p).1 (inl c) | inr c ↦ elim (cases own [] (source_of p) c.1) [ inl e ↦ (has p).1 (inr (same p (c.0) e)) | inr d ↦ absurd (none_in (source_of p) d) ] ],
  ))
    where
      own : EventByte
      own = record { event = event; at = Byte at }

      there : (b : Bool) → b ≡ true → cond b (own ∷ []) [] ≡ own ∷ []
      there true e = refl
      there false e = absurd (true≢false (sym e))

      same : (p : Pair) → byte ≡ p.byte → own ≡ source_of p → record { event = event; at = at; byte = byte } ≡ p
      same p e f = λ i. record { event = (f i).event; at = number (f i).at; byte = e i }

pub on-ok : {E : Type 0} (A B : Type 0) (r : Result (Unit {0}) E) → (A → B) → OnOk r A → OnOk r B
on-ok A B (Ok x) f h = f h
on-ok A B (Err e) f h = tt
