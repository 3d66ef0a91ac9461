-- What a function gives of each page, after one page changes or is added.
use Rattle.std.proofs.Common.{◌≡◌, ℕ, zero, suc, ◌+◌, ◌<◌, ◌≤◌, List, [], ◌∷◌, ◌++◌, length, get_or, set, take, map, replicate, refl, ap, sym, subst, ◌∙◌, arith}
use Rattle.std.proofs.lemmas.List.{length-map, map-append, replicate_more, take_all, take_more}

module _ {X Y : Type 0} (f : X → Y) where
  pub map-read : (pages : List X) (i : ℕ) (page other : X) (d : Y) → i < length pages → page ≡ get_or pages i other → f page ≡ get_or (map f pages) i d
  map-read [] i page other d inside read = absurd (omega arith)
  map-read (x ∷ xs) zero page other d inside read = ap f read
  map-read (x ∷ xs) (suc i) page other d inside read = map-read xs i page other d (omega arith) read

  pub map-same : (pages : List X) (i : ℕ) (other new : X) → f new ≡ f (get_or pages i other) → map f (set pages i new) ≡ map f pages
  map-same [] i other new same = refl
  map-same (x ∷ xs) zero other new same = ap (λ (y : Y). y ∷ map f xs) same
  map-same (x ∷ xs) (suc i) other new same = ap (λ (l : List Y). f x ∷ l) (map-same xs i other new same)

  pub map-more : (pages copy : List X) (i : ℕ) (old new : X) → map f copy ≡ take i (map f pages) → i < length pages → old ≡ get_or pages i old → f new ≡ f old → map f (copy ++ new ∷ []) ≡ take (i + 1) (map f pages)
  map-more pages copy i old new e inside read same =
      let within : i < length (map f pages) = subst (λ n. i < n) (sym (length-map pages f)) inside in
      map-append f copy (new ∷ [])
      ∙ ap (λ (l : List Y). l ++ f new ∷ []) e
      ∙ ap (λ (y : Y). take i (map f pages) ++ y ∷ []) (same ∙ map-read pages i old old (f old) inside read)
      ∙ sym (take_more (map f pages) i (f old) within)

  pub map-all : (pages copy : List X) (n : ℕ) → map f copy ≡ take n (map f pages) → length pages ≤ n → map f copy ≡ map f pages
  map-all pages copy n e long = e ∙ take_all n (map f pages) (subst (λ m. m ≤ n) (sym (length-map pages f)) long)

  pub map-replicate : (pages : List X) (n : ℕ) (y : Y) (new : X) → map f pages ≡ replicate n y → f new ≡ y → map f (pages ++ new ∷ []) ≡ replicate (n + 1) y
  map-replicate pages n y new e same =
      map-append f pages (new ∷ [])
      ∙ ap (λ (l : List Y). l ++ f new ∷ []) e
      ∙ ap (λ (z : Y). replicate n y ++ z ∷ []) same
      ∙ replicate_more n y
