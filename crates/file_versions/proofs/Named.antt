-- What a map of names tells of each, before and after a change.
use Rattle.std.proofs.Common.{◌≡◌, ℕ, ◌&&◌, nat_le, Bool, true, false, cond, List, [], ◌∷◌, ◌++◌, Option, None, Some, bytes_eq, refl, sym, ap, subst, ◌∙◌}
use Rattle.std.specs.Borrow.{Bor}
use Rattle.std.specs.Global.{Vec}
use Rattle.std.specs.Map.{lookup, set_value}
use Rattle.std.proofs.lemmas.Slice.Eq.{bytes_eq-Decides}
use Rattle.file_versions.specs.declared.names.Change.{Change}
use Rattle.file_versions.specs.Kept.{names_of}
use Rattle.file_versions.specs.Tables.{NameAt, changed_after, changes_of, file_after, file_until, name_after}

-- the test of a key
abbrev pub is_name : List ℕ → Bor (List ℕ) → Bool
is_name name key = bytes_eq name key.now

-- two tests that hold together are the same
same_test : (a b : Bool) → (a ≡ true → b ≡ true) → (b ≡ true → a ≡ true) → a ≡ b
same_test true false f g = sym (f refl)
same_test false true f g = g refl
same_test _ _ f g = refl

bytes_eq-swap : (xs ys : List ℕ) → bytes_eq xs ys ≡ bytes_eq ys xs
bytes_eq-swap xs ys =
    let one = bytes_eq-Decides xs ys in
    let other = bytes_eq-Decides ys xs in
    same_test (bytes_eq xs ys) (bytes_eq ys xs) (λ (h : bytes_eq xs ys ≡ true). other.1 (sym (one.0 h))) (λ (h : bytes_eq ys xs ≡ true). one.1 (sym (other.0 h)))

-- the changes that were found, if some were
abbrev pub changes_in : Option (Vec Change) → List Change
changes_in None = []
changes_in (Some changes) = changes.items

-- a look-up finds the changes of a name
pub changes_of-names_of : (name : List ℕ) (es : List (Bor (List ℕ) × Vec Change)) → changes_of name (names_of es) ≡ changes_in (lookup (is_name name) es)
changes_of-names_of name [] = refl
changes_of-names_of name (e ∷ es) = by_test (bytes_eq name e.0.now) (changes_of-names_of name es)
  where
    by_test : (b : Bool) → changes_of name (names_of es) ≡ changes_in (lookup (is_name name) es) → cond b e.1.items (changes_of name (names_of es)) ≡ changes_in (cond b (Some e.1) (lookup (is_name name) es))
    by_test true rest = refl
    by_test false rest = rest

-- one change more
file_after-push : (m : ℕ) (changes : List Change) (c : Change) (x : Option ℕ) → file_after m (changes ++ c ∷ []) x ≡ changed_after m c (file_after m changes x)
file_after-push m [] c x = refl
file_after-push m (d ∷ changes) c x = file_after-push m changes c (changed_after m d x)

-- other names keep theirs where the changes of one are others
changes_of-set_other : (path name : List ℕ) (es : List (Bor (List ℕ) × Vec Change)) (v : Vec Change) → bytes_eq name path ≡ false → changes_of name (names_of (set_value (is_name path) es v)) ≡ changes_of name (names_of es)
changes_of-set_other path name [] v other = refl
changes_of-set_other path name (e ∷ es) v other = by_test (bytes_eq path e.0.now) refl (changes_of-set_other path name es v other)
  where
    by_test : (b : Bool) → bytes_eq path e.0.now ≡ b → changes_of name (names_of (set_value (is_name path) es v)) ≡ changes_of name (names_of es) → changes_of name (names_of (cond b ((e.0, v) ∷ es) (e ∷ set_value (is_name path) es v))) ≡ changes_of name (names_of (e ∷ es))
    by_test true is rest =
        let isnt : bytes_eq name e.0.now ≡ false = ap (bytes_eq name) (sym ((bytes_eq-Decides path e.0.now).0 is)) ∙ other in
        ap (λ (t : Bool). cond t v.items (changes_of name (names_of es))) isnt ∙ sym (ap (λ (t : Bool). cond t e.1.items (changes_of name (names_of es))) isnt)
    by_test false is rest = ap (λ (changes : List Change). cond (bytes_eq name e.0.now) e.1.items changes) rest

-- that one has these
changes_of-set_own : (path : List ℕ) (es : List (Bor (List ℕ) × Vec Change)) (old v : Vec Change) → lookup (is_name path) es ≡ Some old → changes_of path (names_of (set_value (is_name path) es v)) ≡ v.items
changes_of-set_own path [] old v found = cc
changes_of-set_own path (e ∷ es) old v found = by_test (bytes_eq path e.0.now) refl (changes_of-set_own path es old v)
  where
    by_test : (b : Bool) → bytes_eq path e.0.now ≡ b → (lookup (is_name path) es ≡ Some old → changes_of path (names_of (set_value (is_name path) es v)) ≡ v.items) → changes_of path (names_of (cond b ((e.0, v) ∷ es) (e ∷ set_value (is_name path) es v))) ≡ v.items
    by_test true is rest = ap (λ (t : Bool). cond t v.items (changes_of path (names_of es))) is
    by_test false is rest =
        let further : lookup (is_name path) es ≡ Some old = ap (λ (t : Bool). cond t (Some e.1) (lookup (is_name path) es)) (sym is) ∙ found in
        ap (λ (t : Bool). cond t e.1.items (changes_of path (names_of (set_value (is_name path) es v)))) is ∙ rest further

-- a new name stands behind the others
changes_of-push_other : (name : List ℕ) (key : Bor (List ℕ)) (v : Vec Change) (es : List (Bor (List ℕ) × Vec Change)) → bytes_eq name key.now ≡ false → changes_of name (names_of (es ++ (key, v) ∷ [])) ≡ changes_of name (names_of es)
changes_of-push_other name key v [] other = ap (λ (t : Bool). cond t v.items []) other
changes_of-push_other name key v (e ∷ es) other =
    ap (λ (changes : List Change). cond (bytes_eq name e.0.now) e.1.items changes) (changes_of-push_other name key v es other)

changes_of-push_own : (key : Bor (List ℕ)) (v : Vec Change) (es : List (Bor (List ℕ) × Vec Change)) → lookup (is_name key.now) es ≡ None → changes_of key.now (names_of (es ++ (key, v) ∷ [])) ≡ v.items
changes_of-push_own key v [] none = ap (λ (t : Bool). cond t v.items []) ((bytes_eq-Decides key.now key.now).1 refl)
changes_of-push_own key v (e ∷ es) none = by_test (bytes_eq key.now e.0.now) refl (changes_of-push_own key v es)
  where
    by_test : (b : Bool) → bytes_eq key.now e.0.now ≡ b → (lookup (is_name key.now) es ≡ None → changes_of key.now (names_of (es ++ (key, v) ∷ [])) ≡ v.items) → changes_of key.now (names_of (e ∷ (es ++ (key, v) ∷ []))) ≡ v.items
    by_test true is rest =
        let found : Some e.1 ≡ None = ap (λ (t : Bool). cond t (Some e.1) (lookup (is_name key.now) es)) (sym is) ∙ none in
        cc
    by_test false is rest =
        let further : lookup (is_name key.now) es ≡ None = ap (λ (t : Bool). cond t (Some e.1) (lookup (is_name key.now) es)) (sym is) ∙ none in
        ap (λ (t : Bool). cond t e.1.items (changes_of key.now (names_of (es ++ (key, v) ∷ [])))) is ∙ rest further

-- the name that a change is of, and the others
module _ (m : ℕ) (name path : List ℕ) (c : Change) (old new : List (Bor (List ℕ) × Vec Change)) where
  abbrev change_of : NameAt
  change_of = record { moment = c.moment; path = path; file = c.file }

  own-after : bytes_eq path name ≡ true → (x : Option ℕ) → changed_after m c x ≡ name_after m name change_of x
  own-after is x = by_test (nat_le c.moment m) (bytes_eq path name) is
    where
      by_test : (a b : Bool) → b ≡ true → cond a c.file x ≡ cond (a && b) c.file x
      by_test true b is = sym (ap (λ (t : Bool). cond t c.file x) is)
      by_test false b is = refl

  other-after : bytes_eq path name ≡ false → (x : Option ℕ) → x ≡ name_after m name change_of x
  other-after isnt x = by_test (nat_le c.moment m) (bytes_eq path name) isnt
    where
      by_test : (a b : Bool) → b ≡ false → x ≡ cond (a && b) c.file x
      by_test true b isnt = sym (ap (λ (t : Bool). cond t c.file x) isnt)
      by_test false b isnt = refl

  after-one : (path ≡ name → changes_of name (names_of new) ≡ changes_of name (names_of old) ++ c ∷ []) → (bytes_eq name path ≡ false → changes_of name (names_of new) ≡ changes_of name (names_of old))
      → file_until m name (names_of new) ≡ name_after m name change_of (file_until m name (names_of old))
  after-one own other = by_test (bytes_eq path name) refl
    where
      by_test : (b : Bool) → bytes_eq path name ≡ b → file_until m name (names_of new) ≡ name_after m name change_of (file_until m name (names_of old))
      by_test true is =
          ap (λ (changes : List Change). file_after m changes None) (own ((bytes_eq-Decides path name).0 is))
          ∙ file_after-push m (changes_of name (names_of old)) c None
          ∙ own-after is (file_until m name (names_of old))
      by_test false isnt =
          ap (λ (changes : List Change). file_after m changes None) (other (bytes_eq-swap name path ∙ isnt))
          ∙ other-after isnt (file_until m name (names_of old))

-- after a change of a name that has some
pub file_until-set : (m : ℕ) (name path : List ℕ) (c : Change) (es : List (Bor (List ℕ) × Vec Change)) (v w : Vec Change) → lookup (is_name path) es ≡ Some v → w.items ≡ v.items ++ c ∷ []
    → file_until m name (names_of (set_value (is_name path) es w)) ≡ name_after m name (record { moment = c.moment; path = path; file = c.file }) (file_until m name (names_of es))
file_until-set m name path c es v w found longer =
    after-one m name path c es (set_value (is_name path) es w)
    (λ (same : path ≡ name).
    let had : changes_of path (names_of es) ≡ v.items = changes_of-names_of path es ∙ ap changes_in found in
    let has : changes_of path (names_of (set_value (is_name path) es w)) ≡ changes_of path (names_of es) ++ c ∷ [] = changes_of-set_own path es v w found ∙ longer ∙ ap (λ (changes : List Change). changes ++ c ∷ []) (sym had) in
    subst (λ (n : List ℕ). changes_of n (names_of (set_value (is_name path) es w)) ≡ changes_of n (names_of es) ++ c ∷ []) same has)
    (changes_of-set_other path name es w)

-- and of one that has none
pub file_until-push : (m : ℕ) (name : List ℕ) (key : Bor (List ℕ)) (c : Change) (es : List (Bor (List ℕ) × Vec Change)) (v : Vec Change) → lookup (is_name key.now) es ≡ None → v.items ≡ c ∷ []
    → file_until m name (names_of (es ++ (key, v) ∷ [])) ≡ name_after m name (record { moment = c.moment; path = key.now; file = c.file }) (file_until m name (names_of es))
file_until-push m name key c es v none only =
    after-one m name key.now c es (es ++ (key, v) ∷ [])
    (λ (same : key.now ≡ name).
    let had : changes_of key.now (names_of es) ≡ [] = changes_of-names_of key.now es ∙ ap changes_in none in
    let has : changes_of key.now (names_of (es ++ (key, v) ∷ [])) ≡ changes_of key.now (names_of es) ++ c ∷ [] = changes_of-push_own key v es none ∙ only ∙ ap (λ (changes : List Change). changes ++ c ∷ []) (sym had) in
    subst (λ (n : List ℕ). changes_of n (names_of (es ++ (key, v) ∷ [])) ≡ changes_of n (names_of es) ++ c ∷ []) same has)
    (λ (other : bytes_eq name key.now ≡ false). changes_of-push_other name key v es other)

-- the file of a name that was looked up
pub file_until-found : (m : ℕ) (name : List ℕ) (es : List (Bor (List ℕ) × Vec Change)) (v : Vec Change) → lookup (is_name name) es ≡ Some v → file_until m name (names_of es) ≡ file_after m v.items None
file_until-found m name es v found =
    ap (λ (changes : List Change). file_after m changes None) (changes_of-names_of name es ∙ ap changes_in found)

pub file_until-none : (m : ℕ) (name : List ℕ) (es : List (Bor (List ℕ) × Vec Change)) → lookup (is_name name) es ≡ None → file_until m name (names_of es) ≡ None
file_until-none m name es none =
    ap (λ (changes : List Change). file_after m changes None) (changes_of-names_of name es ∙ ap changes_in none)
