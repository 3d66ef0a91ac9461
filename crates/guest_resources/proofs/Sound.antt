-- Descriptions and files, after some of them change.
use Rattle.std.proofs.Common.{◌≡◌, ℕ, zero, suc, ◌+◌, ◌≤◌, ◌==◌, Bool, true, false, List, [], ◌∷◌, ◌++◌, length, set, Option, None, Some, IfSome, is_some, refl, sym, ap, arith, subst, true≢false}
use Rattle.std.proofs.lemmas.Bool.{eqb-true, eqb-false}
use Rattle.parts_model.specs.declared.open.Description.{Description}
use Rattle.parts_model.specs.declared.open.Description.TheVariants.{Console, File, Reader}
use Rattle.parts_model.specs.Files as files
use Rattle.parts_model.specs.Files.{Files, Name}
use Rattle.parts_model.specs.Numbered.{nth}
use Rattle.arn_model.specs.Kernel.{Opened}
use Rattle.guest_resources.specs.Resources.{IsIn, IsKnown, AreKnown, IsSound, is_of, one_if, holding, holders_of}
use Rattle.guest_resources.proofs.Numbers.{nth-set, nth-set_other}

-- what is known by number
pub known-nth : (all : Files) (ds : List (Option Opened)) (n : ℕ) → AreKnown all ds → IfSome (nth ds n) (λ o. IsKnown all o.what)
known-nth all [] n are = tt
known-nth all (o ∷ ds) zero are = are.0
known-nth all (o ∷ ds) (suc n) are = known-nth all ds n are.1

pub known-set : (all : Files) (ds : List (Option Opened)) (n : ℕ) (x : Option Opened) → AreKnown all ds → IfSome x (λ o. IsKnown all o.what) → AreKnown all (set ds n x)
known-set all [] n x are is = tt
known-set all (o ∷ ds) zero x are is = (is, are.1)
known-set all (o ∷ ds) (suc n) x are is = (are.0, known-set all ds n x are.1 is)

pub known-add : (all : Files) (ds : List (Option Opened)) (x : Option Opened) → AreKnown all ds → IfSome x (λ o. IsKnown all o.what) → AreKnown all (ds ++ x ∷ [])
known-add all [] x are is = (is, tt)
known-add all (o ∷ ds) x are is = (are.0, known-add all ds x are.1 is)

-- how many stand for a file
pub holders-set : (m : ℕ) (ds : List (Option Opened)) (n : ℕ) (x : Option Opened) → is_some (nth ds n) ≡ true → holders_of m (set ds n x) + holding m (nth ds n) ≡ holders_of m ds + holding m x
holders-set m [] n x there = absurd (true≢false (sym there))
holders-set m (o ∷ ds) zero x there = omega arith
holders-set m (o ∷ ds) (suc n) x there = omega (arith, holders-set m ds n x there)

pub holders-add : (m : ℕ) (ds : List (Option Opened)) (x : Option Opened) → holders_of m (ds ++ x ∷ []) ≡ holders_of m ds + holding m x
holders-add m [] x = omega arith
holders-add m (o ∷ ds) x = omega (arith, holders-add m ds x)

one-few : (b : Bool) → one_if b ≤ 1
one-few true = omega arith
one-few false = omega arith

holding-few : (m : ℕ) (o : Option Opened) → holding m o ≤ 1
holding-few m None = omega arith
holding-few m (Some o) = one-few (is_of m o.what)

pub holders-few : (m : ℕ) (ds : List (Option Opened)) → holders_of m ds ≤ length ds
holders-few m [] = omega arith
holders-few m (o ∷ ds) = omega (arith, holding-few m o, holders-few m ds)

-- nobody stands for a file that isn't there
known-isnt : (all : Files) (m : ℕ) (d : Description) → nth all.all m ≡ None → IsKnown all d → is_of m d ≡ false
known-isnt all m Console none is = refl
known-isnt all m (File file position) none is = by (file == m) refl
  where
    by : (b : Bool) → (file == m) ≡ b → b ≡ false
    by true e = absurd (subst (λ (o : Option files.File). IsIn o position) none (subst (λ (i : ℕ). IsIn (nth all.all i) position) (eqb-true file m e) is))
    by false e = refl
known-isnt all m (Reader pipe) none is = refl
known-isnt all m _ none is = refl

known-holds : (all : Files) (m : ℕ) (o : Option Opened) → nth all.all m ≡ None → IfSome o (λ d. IsKnown all d.what) → holding m o ≡ 0
known-holds all m None none is = refl
known-holds all m (Some o) none is = ap one_if (known-isnt all m o.what none is)

pub holders-none : (all : Files) (m : ℕ) (ds : List (Option Opened)) → nth all.all m ≡ None → AreKnown all ds → holders_of m ds ≡ 0
holders-none all m [] none are = refl
holders-none all m (o ∷ ds) none are = omega (arith, known-holds all m o none are.0, holders-none all m ds none are.1)

-- files of which all others keep their places, and this one where something stands for it
module _ (old new : Files) (file : ℕ) (others : (n at : ℕ) → (n ≡ file → ⊥) → IsIn (nth old.all n) at → IsIn (nth new.all n) at) where
  kept-what : (d : Description) → (is_of file d ≡ true → (at : ℕ) → IsIn (nth old.all file) at → IsIn (nth new.all file) at) → IsKnown old d → IsKnown new d
  kept-what Console own is = tt
  kept-what (File n position) own is = by (n == file) refl
    where
      by : (b : Bool) → (n == file) ≡ b → IsIn (nth new.all n) position
      by true e = subst (λ (i : ℕ). IsIn (nth new.all i) position) (sym (eqb-true n file e)) (own e position (subst (λ (i : ℕ). IsIn (nth old.all i) position) (eqb-true n file e) is))
      by false e = others n position (eqb-false n file e) is
  kept-what _ own is = tt

  kept-one : (o : Option Opened) → ((at : ℕ) → IsIn (nth old.all file) at → IsIn (nth new.all file) at) → IfSome o (λ d. IsKnown old d.what) → IfSome o (λ d. IsKnown new d.what)
  kept-one None own is = tt
  kept-one (Some o) own is = kept-what o.what (λ e. own) is

  pub known-kept : (ds : List (Option Opened)) → ((at : ℕ) → IsIn (nth old.all file) at → IsIn (nth new.all file) at) → AreKnown old ds → AreKnown new ds
  known-kept [] own are = tt
  known-kept (o ∷ ds) own are = (kept-one o own are.0, known-kept ds own are.1)

  gone-what : (d : Description) → one_if (is_of file d) ≡ 0 → IsKnown old d → IsKnown new d
  gone-what d none is = kept-what d (λ e. absurd (one-isnt (is_of file d) e none)) is
    where
      one-isnt : (b : Bool) → b ≡ true → one_if b ≡ 0 → ⊥
      one-isnt true e none = cc
      one-isnt false e none = cc

  gone-one : (o : Option Opened) → holding file o ≡ 0 → IfSome o (λ d. IsKnown old d.what) → IfSome o (λ d. IsKnown new d.what)
  gone-one None none is = tt
  gone-one (Some o) none is = gone-what o.what none is

  pub known-gone : (ds : List (Option Opened)) → holders_of file ds ≡ 0 → AreKnown old ds → AreKnown new ds
  known-gone [] none are = tt
  known-gone (o ∷ ds) none are = (gone-one o (omega (arith, none)) are.0, known-gone ds (omega (arith, none)) are.1)

-- what becomes of a file: it is gone where nothing stands for it, or it keeps its places and its holders are counted
abbrev pub IsSettled : Option files.File → Option files.File → ℕ → Type 0
IsSettled None old count = count ≡ 0
IsSettled (Some f) old count = (f.holders ≡ count) × ((at : ℕ) → IsIn old at → at ≤ length f.bytes)

module _ (all : Files) (names : List Name) (ds new : List (Option Opened)) (file : ℕ) (there : is_some (nth all.all file) ≡ true) where
  abbrev changed : Option files.File → Files
  changed x = record { all = set all.all file x; names = names }

  others : (x : Option files.File) (n at : ℕ) → (n ≡ file → ⊥) → IsIn (nth all.all n) at → IsIn (nth (changed x).all n) at
  others x n at other is = subst (λ (o : Option files.File). IsIn o at) (sym (nth-set_other all.all file x n other)) is

  known : (x : Option files.File) → IsSettled x (nth all.all file) (holders_of file new) → AreKnown all new → AreKnown (changed x) new
  known None settled are = known-gone all (changed None) file (others None) new settled are
  known (Some f) settled are =
      known-kept all (changed (Some f)) file (others (Some f)) new
      (λ at is. subst (λ (o : Option files.File). IsIn o at) (sym (nth-set all.all file (Some f) there)) (settled.1 at is)) are

  own : (x : Option files.File) → IsSettled x (nth all.all file) (holders_of file new) → IfSome x (λ f. f.holders ≡ holders_of file new)
  own None settled = tt
  own (Some f) settled = settled.0

  counted : (x : Option files.File) → IsSettled x (nth all.all file) (holders_of file new) → ((n : ℕ) → (n ≡ file → ⊥) → holders_of n new ≡ holders_of n ds) → ((n : ℕ) → IfSome (nth all.all n) (λ f. f.holders ≡ holders_of n ds)) → (n : ℕ) (b : Bool) → (n == file) ≡ b → IfSome (nth (set all.all file x) n) (λ f. f.holders ≡ holders_of n new)
  counted x settled same held n true e =
      subst (λ (i : ℕ). IfSome (nth (set all.all file x) i) (λ f. f.holders ≡ holders_of i new)) (sym (eqb-true n file e))
      (subst (λ (o : Option files.File). IfSome o (λ f. f.holders ≡ holders_of file new)) (sym (nth-set all.all file x there)) (own x settled))
  counted x settled same held n false e =
      subst (λ (o : Option files.File). IfSome o (λ f. f.holders ≡ holders_of n new)) (sym (nth-set_other all.all file x n (eqb-false n file e)))
      (subst (λ (c : ℕ). IfSome (nth all.all n) (λ f. f.holders ≡ c)) (sym (same n (eqb-false n file e))) (held n))

  -- one file has changed, and the descriptions
  pub settled-sound : (x : Option files.File) → IsSettled x (nth all.all file) (holders_of file new) → ((n : ℕ) → (n ≡ file → ⊥) → holders_of n new ≡ holders_of n ds) → AreKnown all new → ((n : ℕ) → IfSome (nth all.all n) (λ f. f.holders ≡ holders_of n ds)) → IsSound (record { files = record { all = set all.all file x; names = names }; descriptions = new })
  settled-sound x settled same are held = record { known = known x settled are; held = λ n. counted x settled same held n (n == file) refl }
