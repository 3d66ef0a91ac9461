-- Members of lists that are made of others.
use Rattle.std.proofs.lemmas.Bool.Decides.{nat_tests}
use Rattle.std.proofs.lemmas.Grind.{common_steps}
use Rattle.std.proofs.Common.{◌≡◌, inl, inr, List, [], ◌∷◌, map, flat_map, sym, subst, Contains, arith}
use Rattle.std.proofs.lemmas.List.Elements.{Contains-append_left, Contains-append_right, Contains-append_cases}
use Rattle.query_laws.proofs.Lists.{none-in, head-or-tail, first-in, later-in}

module _ {X Y : Type 0} where
  pub in-map : (f : X → Y) (xs : List X) (y : Y) → Contains (map f xs) y → (x : X) × Contains xs x × (f x ≡ y)
  in-map f [] y has = absurd (none-in y has)
  in-map f (x ∷ xs) y has =
      elim (head-or-tail (f x) y (map f xs) has) [
        | inl here ↦ (x, first-in x xs, here)
        | inr later ↦ (let rest = in-map f xs y later in (rest.0, later-in x rest.0 xs rest.1, rest.2))
      ]

  pub map-in : (f : X → Y) (xs : List X) (x : X) → Contains xs x → Contains (map f xs) (f x)
  map-in f xs x h1 = grind (arith, common_steps, nat_tests, none-in, head-or-tail, first-in, later-in)

  pub in-flat : (f : X → List Y) (xs : List X) (y : Y) → Contains (flat_map f xs) y → (x : X) × Contains xs x × Contains (f x) y
  in-flat f [] y has = absurd (none-in y has)
  in-flat f (x ∷ xs) y has =
      elim (Contains-append_cases (f x) (flat_map f xs) y has) [
        | inl here ↦ (x, first-in x xs, here)
        | inr later ↦ (let rest = in-flat f xs y later in (rest.0, later-in x rest.0 xs rest.1, rest.2))
      ]

  pub flat-in : (f : X → List Y) (xs : List X) (x : X) (y : Y) → Contains xs x → Contains (f x) y → Contains (flat_map f xs) y
  flat-in f [] x y has is = absurd (none-in x has)
  flat-in f (z ∷ xs) x y has is =
      elim (head-or-tail z x xs has) [
        | inl here ↦ Contains-append_left (f z) (flat_map f xs) y (subst (λ (w : X). Contains (f w) y) (sym here) is)
        | inr later ↦ Contains-append_right (f z) (flat_map f xs) y (flat-in f xs x y later is)
      ]
