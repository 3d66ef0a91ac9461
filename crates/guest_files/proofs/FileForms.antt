-- Files after one of them changes.
use Rattle.std.proofs.Common.{◌≡◌, ℕ, ◌+◌, ◌-◌, ◌<◌, ◌||◌, nat_lt, Bool, true, false, cond, not, List, [], ◌∷◌, ◌++◌, length, get_or, set, Option, None, Some, IsSome, is_some, IfSome, option_map, Result, Ok, Err, IfOk, OnOk, OnErr, IsErr, refl, sym, ap, subst, ap₂, ◌∙◌, arith, true≢false}
use Rattle.std.specs.Prelude.{vec_len}
use Rattle.std.specs.Str.{bytes_eq}
use Rattle.parts_model.specs.declared.tagged.TaggedByte.{TaggedByte}
use Rattle.parts_model.specs.Files.{File, Files, Name, file_among, file_bytes, has_name, held, if_reached, made, reached_again, released, rewritten, with_file, with_holder, without_holder, without_name, written}
use Rattle.parts_model.specs.Numbered.{nth}
use Rattle.guest_files.specs.declared.files.Files.TheInside.{Inside}
use Rattle.guest_files.specs.Table.{AreThere, IsSound, IsThere}
use Rattle.guest_files.proofs.Numbers.{AreThere-more, AreThere-push, AreThere-set_none, AreThere-set_some, AreThere-without_name, IsSome-last, IsSome-within, how_many-push, how_many-set_none, how_many-set_some, nth-get_or, nth-set, set-nth, set-set}

-- what the fields are seen as
abbrev pub seen : Inside → Files
seen inside = record { all = inside.all.items; names = inside.names }

abbrev pub files_of : List (Option File) → List Name → Files
files_of all names = record { all = all; names = names }

-- a changed file in its place
pub IsSound-put : (all : List (Option File)) (names : List Name) (count file : ℕ) (f : File) → IsSome (nth all file) → IsSound (files_of all names) count → IsSound (files_of (set all file (Some f)) names) count
IsSound-put all names count file f there s = record {
  counted = s.counted ∙ sym (how_many-set_some all file f there);
  named = AreThere-set_some all file f names s.named;
}

-- a file that no name stands for is gone
pub IsSound-gone : (all : List (Option File)) (names : List Name) (count file : ℕ) → IsSome (nth all file) → has_name names file ≡ false → IsSound (files_of all names) count → IsSound (files_of (set all file None) names) (count - 1)
IsSound-gone all names count file there none s = record {
  counted = omega (arith, s.counted, how_many-set_none all file there);
  named = AreThere-set_none all file names none s.named;
}

pub IsSound-made : (all all' : List (Option File)) (names names' : List Name) (count number : ℕ) (path : List ℕ) (f : File) → all' ≡ all ++ Some f ∷ [] → names' ≡ names ++ record { path = path; file = number } ∷ [] → number ≡ length all → IsSound (files_of all names) count → IsSound (files_of all' names') (count + 1)
IsSound-made all all' names names' count number path f made named is s =
    let name : Name = record { path = path; file = number } in
    let P : List (Option File) → List Name → Type 0 = λ a n. IsSound (files_of a n) (count + 1) in
    let here : IsSome (nth (all ++ Some f ∷ []) number) = subst (λ (n : ℕ). IsSome (nth (all ++ Some f ∷ []) n)) (sym is) (IsSome-last all f) in
    subst (λ (a : List (Option File)). P a names') (sym made) (subst (λ (n : List Name). P (all ++ Some f ∷ []) n) (sym named) (record {
      counted = ap (λ (n : ℕ). n + 1) s.counted ∙ sym (how_many-push all f);
      named = AreThere-more (all ++ Some f ∷ []) names name (AreThere-push all (Some f) names s.named) here;
    }))

pub IsSound-unnamed : (all : List (Option File)) (names names' : List Name) (count : ℕ) (path : List ℕ) → names' ≡ without_name names path → IsSound (files_of all names) count → IsSound (files_of all names') count
IsSound-unnamed all names names' count path rest s = record {
  counted = s.counted;
  named = subst (AreThere all) (sym rest) (AreThere-without_name all path names s.named);
}

-- where no name is found, none is taken away
pub without_name-absent : (names : List Name) (path : List ℕ) → file_among names path ≡ None → without_name names path ≡ names
without_name-absent [] path none = refl
without_name-absent (n ∷ names) path none = by (bytes_eq n.path path) none (without_name-absent names path)
  where
    by : (b : Bool) → cond b (Some n.file) (file_among names path) ≡ None → (file_among names path ≡ None → without_name names path ≡ names) → cond (not b) (n ∷ without_name names path) (without_name names path) ≡ n ∷ names
    by true found rest = cc
    by false missing rest = ap (λ (l : List Name). n ∷ l) (rest missing)

-- one more holder
pub held-put : (files new : Files) (all : List (Option File)) (names : List Name) (file : ℕ) (f f' : File) → files_of all names ≡ files → new ≡ files_of (set all file (Some f')) names → nth all file ≡ Some f → f' ≡ record f { holders = f.holders + 1 } → new ≡ held files file
held-put files new all names file f f' seen made was is =
    made ∙ ap (λ (g : File). files_of (set all file (Some g)) names) is
    ∙ ap (with_holder (files_of all names) file) (sym was)
    ∙ ap (λ (fs : Files). held fs file) seen

-- written bytes
pub written-put : (files new : Files) (all : List (Option File)) (names : List Name) (file at : ℕ) (bytes : List ℕ) (event : ℕ) (f f' : File) → files_of all names ≡ files → new ≡ files_of (set all file (Some f')) names → nth all file ≡ Some f → f' ≡ rewritten at bytes event f → new ≡ written files file at bytes event
written-put files new all names file at bytes event f f' seen made was is =
    made ∙ ap (λ (g : File). files_of (set all file (Some g)) names) is
    ∙ ap (λ (o : Option File). files_of (set all file (option_map (rewritten at bytes event) o)) names) (sym was)
    ∙ ap (λ (fs : Files). written fs file at bytes event) seen

-- a new file under a free name
pub made-new : (files : Files) (all all' : List (Option File)) (names names' : List Name) (number : ℕ) (path : List ℕ) (f : File) → files_of all names ≡ files → all' ≡ all ++ Some f ∷ [] → names' ≡ names ++ record { path = path; file = number } ∷ [] → number ≡ length all → f.holders ≡ 0 → files_of all' names' ≡ made files path f.bytes
made-new files all all' names names' number path f seen more named is none =
    ap₂ files_of more named
    ∙ ap (λ (n : ℕ). files_of (all ++ Some f ∷ []) (names ++ record { path = path; file = n } ∷ [])) is
    ∙ ap (λ (n : ℕ). files_of (all ++ Some (record { bytes = f.bytes; holders = n }) ∷ []) (names ++ record { path = path; file = length all } ∷ [])) none
    ∙ ap (λ (fs : Files). made fs path f.bytes) seen

-- what a return with an error says
pub no-ok : {T E : Type 0} (P : T → Type 0) (r : Result T E) → IsErr r → IfOk r P
no-ok P (Ok x) is = absurd (true≢false (sym is))
no-ok P (Err e) is = tt

pub not-ok : {T E : Type 0} (P : Type 0) (r : Result T E) → IsErr r → OnOk r P
not-ok P (Ok x) is = absurd (true≢false (sym is))
not-ok P (Err e) is = tt

pub on-err : {T E : Type 0} {P : Type 0} (r : Result T E) → P → OnErr r P
on-err (Ok x) holds = tt
on-err (Err e) holds = holds

-- a file that did not change
pub same-put : (files : Files) (all : List (Option File)) (names : List Name) (file : ℕ) (f f' : File) → files_of all names ≡ files → nth all file ≡ Some f → f' ≡ f → files_of (set all file (Some f')) names ≡ files
same-put files all names file f f' seen was is =
    ap (λ (g : File). files_of (set all file (Some g)) names) is ∙ ap (λ (a : List (Option File)). files_of a names) (set-nth all file f was) ∙ seen

-- a file that a name or a holder reaches stays
reached_again-kept : (files : Files) (file : ℕ) (f : File) → nth files.all file ≡ Some f → has_name files.names file || nat_lt 0 f.holders ≡ true → files ≡ reached_again files file (Some f)
reached_again-kept files file f was reached =
    ap (λ (all : List (Option File)). record files { all = all }) (sym (set-nth files.all file f was))
    ∙ ap (λ (b : Bool). with_file files file (cond b (Some f) None)) (sym reached)

pub reached-kept : (files : Files) (file : ℕ) → IfSome (nth files.all file) (λ f. has_name files.names file || nat_lt 0 f.holders ≡ true) → files ≡ reached_again files file (nth files.all file)
reached-kept files file reached = by (nth files.all file) refl reached
  where
    by : (o : Option File) → nth files.all file ≡ o → IfSome o (λ f. has_name files.names file || nat_lt 0 f.holders ≡ true) → files ≡ reached_again files file o
    by None is reached = refl
    by (Some f) is reached = reached_again-kept files file f is reached

-- one holder fewer, and then whether the file stays
pub released-put : (files mid new : Files) (all : List (Option File)) (names : List Name) (file : ℕ) (f f' : File) → files_of all names ≡ files → mid ≡ files_of (set all file (Some f')) names → new ≡ reached_again mid file (nth mid.all file) → IsSome (nth all file) → nth all file ≡ Some f → f' ≡ without_holder f → new ≡ released files file
released-put files mid new all names file f f' seen made settled there was is =
    settled
    ∙ ap (λ (m : Files). reached_again m file (nth m.all file)) made
    ∙ ap (reached_again (files_of (set all file (Some f')) names) file) (nth-set all file (Some f') (IsSome-within all file there))
    ∙ ap (λ (a : List (Option File)). files_of a names) (set-set all file (Some f') (if_reached names file f'))
    ∙ ap (λ (g : File). reached_again (files_of all names) file (Some g)) is
    ∙ ap (λ (o : Option File). reached_again (files_of all names) file (option_map without_holder o)) (sym was)
    ∙ ap (λ (fs : Files). released fs file) seen

-- the slot of a file that is there
pub slot-within : (k : Inside) (files : Files) (file : ℕ) → seen k ≡ files → IsThere files file → file < vec_len k.all
slot-within k files file is there = omega (arith, IsSome-within k.all.items file (subst (λ (fs : Files). IsThere fs file) (sym is) there), k.all.ok.0)

pub slot-some : (k : Inside) (files : Files) (file : ℕ) (slot : Option File) (f : File) → seen k ≡ files → IsThere files file → slot ≡ get_or k.all.items file slot → slot ≡ Some f → nth files.all file ≡ Some f
slot-some k files file slot f is there read some =
    ap (λ (fs : Files). nth fs.all file) (sym is)
    ∙ (nth-get_or k.all.items file slot (subst (λ (fs : Files). IsThere fs file) (sym is) there) read ∙ some)

pub slot-none : (k : Inside) (files : Files) (file : ℕ) (slot : Option File) → seen k ≡ files → IsThere files file → slot ≡ get_or k.all.items file slot → slot ≡ None → ⊥
slot-none k files file slot is there read none =
    let here : IsThere (seen k) file = subst (λ (fs : Files). IsThere fs file) (sym is) there in
    true≢false (sym here ∙ ap is_some (nth-get_or k.all.items file slot here read ∙ none))

-- what holds of a file that is there, and of what is kept in its place
pub of-file : (files : Files) (file : ℕ) (f : File) (P : File → Type 0) → nth files.all file ≡ Some f → IfSome (nth files.all file) P → P f
of-file files file f P is holds = subst (λ (o : Option File). IfSome o P) is holds

pub for-file : (files : Files) (file : ℕ) (f : File) (P : File → Type 0) → nth files.all file ≡ Some f → P f → IfSome (nth files.all file) P
for-file files file f P is holds = subst (λ (o : Option File). IfSome o P) (sym is) holds

pub bytes-of : {A : Type 0} (files : Files) (file : ℕ) (f : File) (a : A) (g : List TaggedByte → A) → nth files.all file ≡ Some f → a ≡ g f.bytes → Some a ≡ option_map g (file_bytes files file)
bytes-of {A} files file f a g is same =
    ap (λ (x : A). Some x) same ∙ ap (λ (o : Option File). option_map g (option_map (λ h. h.bytes) o)) (sym is)

pub IfOk-map : {T E : Type 0} (r : Result T E) (P Q : T → Type 0) → ((v : T) → P v → Q v) → IfOk r P → IfOk r Q
IfOk-map (Ok v) P Q f h = f v h
IfOk-map (Err e) P Q f h = tt

pub OnErr-map : {T E : Type 0} (r : Result T E) (P Q : Type 0) → (P → Q) → OnErr r P → OnErr r Q
OnErr-map (Ok v) P Q f h = tt
OnErr-map (Err e) P Q f h = f h

pub OnOk-map : {T E : Type 0} (r : Result T E) (P Q : Type 0) → (P → Q) → OnOk r P → OnOk r Q
OnOk-map (Ok v) P Q f h = f h
OnOk-map (Err e) P Q f h = tt
