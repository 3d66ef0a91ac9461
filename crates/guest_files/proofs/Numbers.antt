-- Files by number, after one of them changes.
use Rattle.std.proofs.Common.{◌≡◌, ℕ, zero, suc, ◌+◌, ◌<◌, ◌==◌, ◌||◌, Bool, true, false, cond, not, List, [], ◌∷◌, ◌++◌, length, get_or, set, Option, None, Some, IsSome, IfSome, is_some, refl, sym, ap, ◌∙◌, arith, true≢false, eq-eqb}
use Rattle.std.proofs.lemmas.List.Sums.{sum_by-append, sum_by-set}
use Rattle.std.specs.Str.{bytes_eq}
use Rattle.parts_model.specs.Files.{File, Name, file_among, has_name, without_name}
use Rattle.parts_model.specs.Numbered.{how_many, nth}
use Rattle.guest_files.specs.Table.{AreThere}

module _ {A : Type 0} where
  -- a thing that is there has a number below the next one
  pub IsSome-within : (all : List (Option A)) (n : ℕ) → IsSome (nth all n) → n < length all
  IsSome-within [] n there = absurd (true≢false (sym there))
  IsSome-within (x ∷ all) zero there = omega arith
  IsSome-within (x ∷ all) (suc n) there = omega (arith, IsSome-within all n there)

  pub nth-set : (all : List (Option A)) (n : ℕ) (v : Option A) → n < length all → nth (set all n v) n ≡ v
  nth-set [] n v within = absurd (omega arith)
  nth-set (x ∷ all) zero v within = refl
  nth-set (x ∷ all) (suc n) v within = nth-set all n v (omega arith)

  -- what stands in the place of a thing is what is there
  pub nth-get_or : (all : List (Option A)) (n : ℕ) (slot : Option A) → IsSome (nth all n) → slot ≡ get_or all n slot → nth all n ≡ slot
  nth-get_or [] n slot there read = absurd (true≢false (sym there))
  nth-get_or (x ∷ all) zero slot there read = sym read
  nth-get_or (x ∷ all) (suc n) slot there read = nth-get_or all n slot there read

  pub set-nth : (all : List (Option A)) (n : ℕ) (a : A) → nth all n ≡ Some a → set all n (Some a) ≡ all
  set-nth [] n a is = refl
  set-nth (x ∷ all) zero a is = ap (λ (y : Option A). y ∷ all) (sym is)
  set-nth (x ∷ all) (suc n) a is = ap (λ (l : List (Option A)). x ∷ l) (set-nth all n a is)

  pub set-set : (all : List A) (n : ℕ) (v w : A) → set (set all n v) n w ≡ set all n w
  set-set [] n v w = refl
  set-set (x ∷ all) zero v w = refl
  set-set (x ∷ all) (suc n) v w = ap (λ (l : List A). x ∷ l) (set-set all n v w)

  pub IsSome-set_some : (all : List (Option A)) (n m : ℕ) (a : A) → IsSome (nth all m) → IsSome (nth (set all n (Some a)) m)
  IsSome-set_some [] n m a there = there
  IsSome-set_some (x ∷ all) zero zero a there = refl
  IsSome-set_some (x ∷ all) zero (suc m) a there = there
  IsSome-set_some (x ∷ all) (suc n) zero a there = there
  IsSome-set_some (x ∷ all) (suc n) (suc m) a there = IsSome-set_some all n m a there

  pub IsSome-set_none : (all : List (Option A)) (n m : ℕ) → (m ≡ n → ⊥) → IsSome (nth all m) → IsSome (nth (set all n None) m)
  IsSome-set_none [] n m apart there = there
  IsSome-set_none (x ∷ all) zero zero apart there = absurd (apart refl)
  IsSome-set_none (x ∷ all) zero (suc m) apart there = there
  IsSome-set_none (x ∷ all) (suc n) zero apart there = there
  IsSome-set_none (x ∷ all) (suc n) (suc m) apart there = IsSome-set_none all n m (λ (e : m ≡ n). apart (ap (λ (k : ℕ). suc k) e)) there

  pub IsSome-push : (all : List (Option A)) (m : ℕ) (x : Option A) → IsSome (nth all m) → IsSome (nth (all ++ x ∷ []) m)
  IsSome-push [] m x there = absurd (true≢false (sym there))
  IsSome-push (y ∷ all) zero x there = there
  IsSome-push (y ∷ all) (suc m) x there = IsSome-push all m x there

  pub IsSome-last : (all : List (Option A)) (a : A) → IsSome (nth (all ++ Some a ∷ []) (length all))
  IsSome-last [] a = refl
  IsSome-last (y ∷ all) a = IsSome-last all a

  is_some-get_or : (all : List (Option A)) (n : ℕ) → IsSome (nth all n) → is_some (get_or all n None) ≡ true
  is_some-get_or [] n there = absurd (true≢false (sym there))
  is_some-get_or (x ∷ all) zero there = there
  is_some-get_or (x ∷ all) (suc n) there = is_some-get_or all n there

  one : Option A → ℕ
  one x = cond (is_some x) 1 0

  how_many-set : (all : List (Option A)) (n : ℕ) (v : Option A) → IsSome (nth all n) → how_many (set all n v) + 1 ≡ how_many all + cond (is_some v) 1 0
  unfolding one
  how_many-set all n v there =
      ap (λ (b : Bool). how_many (set all n v) + cond b 1 0) (sym (is_some-get_or all n there))
      ∙ sum_by-set one all n v None (IsSome-within all n there)

  pub how_many-set_some : (all : List (Option A)) (n : ℕ) (a : A) → IsSome (nth all n) → how_many (set all n (Some a)) ≡ how_many all
  how_many-set_some all n a there = omega (arith, how_many-set all n (Some a) there)

  pub how_many-set_none : (all : List (Option A)) (n : ℕ) → IsSome (nth all n) → how_many (set all n None) + 1 ≡ how_many all
  how_many-set_none all n there = omega (arith, how_many-set all n None there)

  pub how_many-push : (all : List (Option A)) (a : A) → how_many (all ++ Some a ∷ []) ≡ how_many all + 1
  unfolding one
  how_many-push all a = sum_by-append one all (Some a ∷ [])

-- each name's file stays
pub AreThere-set_some : (all : List (Option File)) (file : ℕ) (f : File) (names : List Name) → AreThere all names → AreThere (set all file (Some f)) names
AreThere-set_some all file f [] there = tt
AreThere-set_some all file f (n ∷ names) there = (IsSome-set_some all file n.file f there.0, AreThere-set_some all file f names there.1)

pub AreThere-set_none : (all : List (Option File)) (file : ℕ) (names : List Name) → has_name names file ≡ false → AreThere all names → AreThere (set all file None) names
AreThere-set_none all file [] none there = tt
AreThere-set_none all file (n ∷ names) none there = (
  IsSome-set_none all file n.file (λ (e : n.file ≡ file). true≢false (sym (first (n.file == file) (has_name names file) (eq-eqb n.file file e)) ∙ none)) there.0,
  AreThere-set_none all file names (second (n.file == file) (has_name names file) none) there.1,
)
  where
    first : (a b : Bool) → a ≡ true → a || b ≡ true
    first a b h = rw h refl

    second : (a b : Bool) → a || b ≡ false → b ≡ false
    second true b h = absurd (true≢false h)
    second false b h = h

pub AreThere-push : (all : List (Option File)) (x : Option File) (names : List Name) → AreThere all names → AreThere (all ++ x ∷ []) names
AreThere-push all x [] there = tt
AreThere-push all x (n ∷ names) there = (IsSome-push all n.file x there.0, AreThere-push all x names there.1)

pub AreThere-more : (all : List (Option File)) (names : List Name) (n : Name) → AreThere all names → IsSome (nth all n.file) → AreThere all (names ++ n ∷ [])
AreThere-more all [] n there here = (here, tt)
AreThere-more all (m ∷ names) n there here = (there.0, AreThere-more all names n there.1 here)

pub AreThere-without_name : (all : List (Option File)) (path : List ℕ) (names : List Name) → AreThere all names → AreThere all (without_name names path)
AreThere-without_name all path [] there = tt
AreThere-without_name all path (n ∷ names) there = kept (not (bytes_eq n.path path)) (AreThere-without_name all path names there.1)
  where
    kept : (b : Bool) → AreThere all (without_name names path) → AreThere all (cond b (n ∷ without_name names path) (without_name names path))
    kept true rest = (there.0, rest)
    kept false rest = rest

-- a name that is found stands for a file that is there
pub file_among-there : (all : List (Option File)) (path : List ℕ) (names : List Name) → AreThere all names → IfSome (file_among names path) (λ file. IsSome (nth all file))
file_among-there all path [] there = tt
file_among-there all path (n ∷ names) there = by (bytes_eq n.path path) (file_among-there all path names there.1)
  where
    by : (b : Bool) → IfSome (file_among names path) (λ file. IsSome (nth all file)) → IfSome (cond b (Some n.file) (file_among names path)) (λ file. IsSome (nth all file))
    by true rest = there.0
    by false rest = rest
