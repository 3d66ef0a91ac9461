-- Slices that are picked one after another.
use Rattle.std.proofs.Common.{◌≡◌, ℕ, zero, suc, ◌+◌, ◌++◌, List, [], ◌∷◌, length, Option, IfSome, option_map, slice_get, ap, ◌∙◌, subst, arith, zero-add, length-append}
use Rattle.arn_base.specs.declared.boxes.Choice.{Choice}
use Rattle.guest_legs.specs.Legs.{Ask, Picked, PickedBy, brought}

-- the k-th slice is the k-th choice brought into range
abbrev IsPicked : Option Choice → List Ask → List Picked → ℕ → Type 0
IsPicked told asks slices k = IfSome told (λ choice. option_map (λ s. s.pick) (slice_get slices k) ≡ option_map (λ ask. brought ask choice) (slice_get asks k))

picked-append : (before between : ℕ → Option Choice) (asks more : List Ask) (xs ys : List Picked) → length asks ≡ length xs → ((k : ℕ) → between k ≡ before (length xs + k)) → ((k : ℕ) → IsPicked (before k) asks xs k) → ((k : ℕ) → IsPicked (between k) more ys k) → (k : ℕ) → IsPicked (before k) (asks ++ more) (xs ++ ys) k
picked-append before between [] more [] ys many later h g k =
    subst (λ (o : Option Choice). IsPicked o more ys k) (later k ∙ ap before (zero-add k)) (g k)
picked-append before between [] more (x ∷ xs) ys many later h g k = absurd (omega (arith, many))
picked-append before between (a ∷ asks) more [] ys many later h g k = absurd (omega (arith, many))
picked-append before between (a ∷ asks) more (x ∷ xs) ys many later h g zero = h 0
picked-append before between (a ∷ asks) more (x ∷ xs) ys many later h g (suc k) =
    picked-append (λ k. before (suc k)) between asks more xs ys (omega (arith, many)) (λ k. later k ∙ ap before (omega arith)) (λ k. h (suc k)) g k

pub PickedBy-append : (a b c : ℕ → Option Choice) (asks more : List Ask) (xs ys : List Picked) → PickedBy a b asks xs → PickedBy b c more ys → PickedBy a c (asks ++ more) (xs ++ ys)
PickedBy-append a b c asks more xs ys p q = record {
  many = omega (arith, p.many, q.many, length-append asks more, length-append xs ys);
  each = picked-append a b asks more xs ys p.many p.later p.each q.each;
  later = λ k. q.later k ∙ p.later (length ys + k) ∙ ap a (omega (arith, length-append xs ys));
}
