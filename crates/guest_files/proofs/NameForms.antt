-- Names as a map keeps them.
use Rattle.std.proofs.Common.{◌≡◌, ℕ, ◌==◌, Bool, true, false, cond, List, [], ◌∷◌, ◌++◌, Option, None, Some, refl, sym, ap, ◌∙◌}
use Rattle.std.specs.Global.{Vec}
use Rattle.std.specs.List.{list_any}
use Rattle.std.specs.Str.{bytes_eq}
use Rattle.std.specs.Map.{lookup, remove_entry, values_of}
use Rattle.std.proofs.lemmas.List.{map-append}
use Rattle.std.proofs.lemmas.Slice.Eq.{bytes_eq-Decides}
use Rattle.parts_model.specs.Files.{Name, file_among, without_name}
use Rattle.guest_files.specs.Table.{name_of, names_of}

-- two tests that hold together are the same
same_test : (a b : Bool) → (a ≡ true → b ≡ true) → (b ≡ true → a ≡ true) → a ≡ b
same_test true true f g = refl
same_test true false f g = sym (f refl)
same_test false true f g = g refl
same_test false false f g = refl

bytes_eq-swap : (xs ys : List ℕ) → bytes_eq xs ys ≡ bytes_eq ys xs
bytes_eq-swap xs ys =
    let one = bytes_eq-Decides xs ys in
    let other = bytes_eq-Decides ys xs in
    same_test (bytes_eq xs ys) (bytes_eq ys xs) (λ (h : bytes_eq xs ys ≡ true). other.1 (sym (one.0 h))) (λ (h : bytes_eq ys xs ≡ true). one.1 (sym (other.0 h)))

-- the test of a key
abbrev pub is_path : List ℕ → Vec ℕ → Bool
is_path path key = bytes_eq path key.items

-- a look-up finds the file of the name
pub lookup-names_of : (path : List ℕ) (es : List (Vec ℕ × ℕ)) → lookup (is_path path) es ≡ file_among (names_of es) path
lookup-names_of path [] = refl
lookup-names_of path (e ∷ es) =
    ap (λ (o : Option ℕ). cond (bytes_eq path e.0.items) (Some e.1) o) (lookup-names_of path es)
    ∙ ap (λ (b : Bool). cond b (Some e.1) (file_among (names_of es) path)) (bytes_eq-swap path e.0.items)

-- a name of this path is in front, and nothing more
without_name-front : (path : List ℕ) (e : Vec ℕ × ℕ) (names : List Name) (b : Bool) → bytes_eq path e.0.items ≡ b → without_name (name_of e ∷ names) path ≡ cond b (without_name names path) (name_of e ∷ without_name names path)
without_name-front path e names true is = rw (sym (bytes_eq-swap path e.0.items) ∙ is) refl
without_name-front path e names false is = rw (sym (bytes_eq-swap path e.0.items) ∙ is) refl

-- no name is taken away where none is there
without_name-none : (path : List ℕ) (es : List (Vec ℕ × ℕ)) → lookup (is_path path) es ≡ None → names_of es ≡ without_name (names_of es) path
without_name-none path [] none = refl
without_name-none path (e ∷ es) none = by (bytes_eq path e.0.items) refl (without_name-none path es) where
  by : (b : Bool) → bytes_eq path e.0.items ≡ b → (lookup (is_path path) es ≡ None → names_of es ≡ without_name (names_of es) path) → names_of (e ∷ es) ≡ without_name (names_of (e ∷ es)) path
  by true is rest =
      let found : Some e.1 ≡ None = ap (λ (b : Bool). cond b (Some e.1) (lookup (is_path path) es)) (sym is) ∙ none in
      cc
  by false is rest =
      let missing : lookup (is_path path) es ≡ None = ap (λ (b : Bool). cond b (Some e.1) (lookup (is_path path) es)) (sym is) ∙ none in
      ap (λ (names : List Name). name_of e ∷ names) (rest missing) ∙ sym (without_name-front path e (names_of es) false is)

-- what is left where no name is found any more
pub names_of-remove_entry : (path : List ℕ) (es : List (Vec ℕ × ℕ)) → lookup (is_path path) (remove_entry (is_path path) es) ≡ None → names_of (remove_entry (is_path path) es) ≡ without_name (names_of es) path
names_of-remove_entry path [] none = refl
names_of-remove_entry path (e ∷ es) none = by (bytes_eq path e.0.items) refl (names_of-remove_entry path es) where
  by : (b : Bool) → bytes_eq path e.0.items ≡ b → (lookup (is_path path) (remove_entry (is_path path) es) ≡ None → names_of (remove_entry (is_path path) es) ≡ without_name (names_of es) path) → names_of (remove_entry (is_path path) (e ∷ es)) ≡ without_name (names_of (e ∷ es)) path
  by true is rest =
      let missing : lookup (is_path path) es ≡ None = ap (λ (b : Bool). lookup (is_path path) (cond b es (e ∷ remove_entry (is_path path) es))) (sym is) ∙ none in
      ap (λ (b : Bool). names_of (cond b es (e ∷ remove_entry (is_path path) es))) is ∙ without_name-none path es missing ∙ sym (without_name-front path e (names_of es) true is)
  by false is rest =
      let missing : lookup (is_path path) (e ∷ remove_entry (is_path path) es) ≡ None = ap (λ (b : Bool). lookup (is_path path) (cond b es (e ∷ remove_entry (is_path path) es))) (sym is) ∙ none in
      let further : lookup (is_path path) (remove_entry (is_path path) es) ≡ None = ap (λ (b : Bool). cond b (Some e.1) (lookup (is_path path) (remove_entry (is_path path) es))) (sym is) ∙ missing in
      ap (λ (b : Bool). names_of (cond b es (e ∷ remove_entry (is_path path) es))) is ∙ ap (λ (names : List Name). name_of e ∷ names) (rest further) ∙ sym (without_name-front path e (names_of es) false is)

pub has_name-values : (file : ℕ) (es : List (Vec ℕ × ℕ)) → list_any (λ number. number == file) (values_of es) ≡ list_any (λ name. name.file == file) (names_of es)
has_name-values file [] = refl
has_name-values file (e ∷ es) = rw (has_name-values file es) refl

pub names_of-push : (es : List (Vec ℕ × ℕ)) (e : Vec ℕ × ℕ) → names_of (es ++ e ∷ []) ≡ names_of es ++ name_of e ∷ []
names_of-push es e = map-append name_of es (e ∷ [])
