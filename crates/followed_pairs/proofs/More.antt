-- Lists of which one thing more is looked at.
use Rattle.std.proofs.Common.{◌≡◌, ℕ, zero, suc, ◌+◌, ◌<◌, ◌≤◌, ◌||◌, Bool, true, false, List, [], ◌∷◌, ◌++◌, append-nil, length, map, take, get_or, Option, Result, Ok, Err, IsErrAnd, IfErr, refl, sym, ap, subst, ◌∙◌, arith}
use Rattle.std.specs.List.{list_any}
use Rattle.std.proofs.lemmas.List.{append_assoc, map-append, take_all, take_more}
use Rattle.std.proofs.lemmas.List.Folds.{list_any_more}
use Rattle.parts_model.specs.declared.tagged.TaggedByte.{TaggedByte}
use Rattle.replay_steps.specs.declared.errors.QueryError.{QueryError}
use Rattle.replay_steps.specs.declared.errors.QueryError.TheVariants as error
use Rattle.followed_pairs.specs.Names.{LacksVersion}

-- behind others, each of a list is made into another
module _ {A B : Type 0} (f : A → B) (base : List B) (xs : List A) where
  pub mapped-none : base ≡ base ++ map f []
  mapped-none = sym (append-nil base)

  pub mapped-more : (i : ℕ) (d : A) → i < length xs → (old new : List B) → new ≡ old ++ f (get_or xs i d) ∷ [] → old ≡ base ++ map f (take i xs) → new ≡ base ++ map f (take (i + 1) xs)
  mapped-more i d low old new is before =
      is
      ∙ (ap (λ (l : List B). l ++ f (get_or xs i d) ∷ []) before
      ∙ (append_assoc base (map f (take i xs)) (f (get_or xs i d) ∷ [])
      ∙ ap (λ (l : List B). base ++ l) (sym (map-append f (take i xs) (get_or xs i d ∷ [])) ∙ ap (map f) (sym (take_more xs i d low)))))

  pub mapped-all : (i : ℕ) → length xs ≤ i → (new : List B) → new ≡ base ++ map f (take i xs) → new ≡ base ++ map f xs
  mapped-all i past new is = is ∙ ap (λ (l : List A). base ++ map f l) (take_all i xs past)

-- whether one of a list passes a test
or-true : (b : Bool) → (b || true) ≡ true
or-true false = refl
or-true true = refl

module _ {A : Type 0} (p : A → Bool) where
  pub any-at : (xs : List A) (i : ℕ) (d : A) → i < length xs → p (get_or xs i d) ≡ true → list_any p xs ≡ true
  any-at [] i d low h = absurd (omega (arith, low))
  any-at (x ∷ xs) zero d low h = ap (λ (b : Bool). b || list_any p xs) h
  any-at (x ∷ xs) (suc i) d low h = ap (λ (b : Bool). p x || b) (any-at xs i d (omega (arith, low)) h) ∙ or-true (p x)

  pub none-yet : (xs : List A) (i : ℕ) (d : A) → i < length xs → list_any p (take i xs) ≡ false → p (get_or xs i d) ≡ false → list_any p (take (i + 1) xs) ≡ false
  none-yet xs i d low before fails = list_any_more p xs i d low ∙ (ap (λ (b : Bool). b || p (get_or xs i d)) before ∙ fails)

  pub none-at-all : (xs : List A) (i : ℕ) → length xs ≤ i → list_any p (take i xs) ≡ false → false ≡ list_any p xs
  none-at-all xs i past before = sym before ∙ ap (list_any p) (take_all i xs past)

-- memory ran out for a version of a file
pub memory-lacks : {T : Type 0} (version : Option (List TaggedByte)) (r : Result T QueryError) → IsErrAnd r (λ e. e ≡ error.NoMemory) → IfErr r (LacksVersion version)
memory-lacks version (Ok t) h = absurd h
memory-lacks version (Err e) h = subst (LacksVersion version) (sym h) tt
