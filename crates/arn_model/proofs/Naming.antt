-- Files that are made, and names that come and go.
use Rattle.std.proofs.lemmas.Grind.{common_steps}
use Rattle.std.proofs.Common.{is_some, ◌≡◌, inr, ℕ, ◌+◌, ◌<◌, List, [], ◌∷◌, ◌++◌, length, refl, ap, ◌∙◌, sym, Option, Some, None, IfSome, Bool, true, false, cond, if◌then◌else◌, ◌||◌, not, arith, option_map, nat_lt, bytes_eq}
use Rattle.std.proofs.lemmas.Bool.Decides.{nat_tests}
use Rattle.std.proofs.lemmas.Bool.{eqb-true, eqb-false}
use Rattle.std.proofs.lemmas.List.{length_push}
use Rattle.std.proofs.lemmas.Slice.Eq.{bytes_eq-Decides}
use Rattle.parts_model.specs.declared.open.Description.{Description}
use Rattle.parts_model.specs.declared.open.Description.TheVariants.{File}
use Rattle.parts_model.specs.declared.tagged.TaggedByte.{TaggedByte}
use Rattle.parts_model.specs.Files as files
use Rattle.parts_model.specs.Files.{Files, Name, file_bytes, file_among, find_file, made, next_file, unnamed, without_name}
use Rattle.parts_model.specs.Numbered.{nth}
use Rattle.acts_model.specs.Moved.{KernelByte}
use Rattle.acts_model.specs.Records.{NoLife, Names, Unnames}
use Rattle.arn_model.specs.Kernel.{Kernel, Opened}
use Rattle.arn_model.specs.Sound.{FitsFiles, IsSound}
use Rattle.arn_model.specs.Tells.{FilesLast, kernel_byte, named_after}
use Rattle.arn_model.proofs.Numbers.{nth-push, nth-past}
use Rattle.arn_model.proofs.Quiet.{FileSame, file-same, FilesQuiet, quiet-files}
use Rattle.arn_model.proofs.Closing.{among-named, reached-quiet, files-same}
use Rattle.arn_model.proofs.Effects.{KernelTells, kept-same}

pub same-path : (a b : List ℕ) → bytes_eq a b ≡ true → a ≡ b
same-path a b e = (bytes_eq-Decides a b).0 e

pub path-same : (a b : List ℕ) → a ≡ b → bytes_eq a b ≡ true
path-same a b e = (bytes_eq-Decides a b).1 e

-- the first, or else the second
abbrev pub first_of_two : Option ℕ → Option ℕ → Option ℕ
first_of_two None y = y
first_of_two (Some x) y = Some x

among-push : (names : List Name) (n : Name) (path : List ℕ) → file_among (names ++ n ∷ []) path ≡ first_of_two (file_among names path) (cond (bytes_eq n.path path) (Some n.file) None)
among-push [] n path = refl
among-push (x ∷ names) n path = ap (λ (o : Option ℕ). cond (bytes_eq x.path path) (Some x.file) o) (among-push names n path) ∙ by_test (bytes_eq x.path path)
  where
    by_test : (b : Bool) → cond b (Some x.file) (first_of_two (file_among names path) (cond (bytes_eq n.path path) (Some n.file) None)) ≡ first_of_two (cond b (Some x.file) (file_among names path)) (cond (bytes_eq n.path path) (Some n.file) None)
    by_test b = grind (arith, nat_tests)

-- a free name
made-names : (names : List Name) (path : List ℕ) (file : ℕ) → file_among names path ≡ None → (name : List ℕ) → file_among (names ++ record { path = path; file = file } ∷ []) name ≡ named_after (Names path file) name (file_among names name)
made-names names path file free name = among-push names (record { path = path; file = file }) name ∙ by_test (bytes_eq path name) refl
  where
    some : (o : Option ℕ) → first_of_two o None ≡ o
    some o = grind (arith, nat_tests)

    by_test : (b : Bool) → bytes_eq path name ≡ b → first_of_two (file_among names name) (cond b (Some file) None) ≡ cond b (Some file) (file_among names name)
    by_test true e = ap (λ (o : Option ℕ). first_of_two o (Some file)) (ap (λ (p : List ℕ). file_among names p) (sym (same-path path name e)) ∙ free)
    by_test false e = some (file_among names name)

-- a name that stands for the file already
pub found-names : (names : List Name) (path : List ℕ) (file : ℕ) → file_among names path ≡ Some file → (name : List ℕ) → file_among names name ≡ named_after (Names path file) name (file_among names name)
found-names names path file found name = by_test (bytes_eq path name) refl
  where
    by_test : (b : Bool) → bytes_eq path name ≡ b → file_among names name ≡ cond b (Some file) (file_among names name)
    by_test true e = ap (λ (p : List ℕ). file_among names p) (sym (same-path path name e)) ∙ found
    by_test false e = refl

made-fits : (fs : Files) (path : List ℕ) (bytes : List TaggedByte) (what : Description) → FitsFiles fs what → FitsFiles (made fs path bytes) what
made-fits fs path bytes what h1 = grind (arith, nat_tests, eqb-true, length_push, nth-push)

made-named : (names : List Name) (path : List ℕ) (made : ℕ) → ((name : List ℕ) (file : ℕ) → file_among names name ≡ Some file → file < made) → (name : List ℕ) (file : ℕ) → file_among (names ++ record { path = path; file = made } ∷ []) name ≡ Some file → file < made + 1
made-named names path made h1 name file h2 = grind (arith, common_steps, nat_tests, among-push)

-- it is an old name, or the new one
data Among (names : List Name) (made : ℕ) (file : ℕ) : Type 0 where
  Old : (name : List ℕ) → file_among names name ≡ Some file → Among names made file
  New : file ≡ made → Among names made file

made-among : (names : List Name) (path : List ℕ) (made : ℕ) (name : List ℕ) (file : ℕ) → file_among (names ++ record { path = path; file = made } ∷ []) name ≡ Some file → Among names made file
made-among names path made name file e = by_found (file_among names name) refl (sym (among-push names (record { path = path; file = made }) name) ∙ e)
  where
    new : (b : Bool) → cond b (Some made) None ≡ Some file → Among names made file
    new b h1 = grind (arith, nat_tests)

    by_found : (o : Option ℕ) → file_among names name ≡ o → first_of_two o (cond (bytes_eq path name) (Some made) None) ≡ Some file → Among names made file
    by_found None t e = new (bytes_eq path name) e
    by_found (Some x) t e = Old name (t ∙ e)

made-there : (k : Kernel) (path : List ℕ) (bytes : List TaggedByte) → IsSound k → (file : ℕ) → Among k.files.names (length k.files.all) file → is_some (file_bytes (made k.files path bytes) file) ≡ true
made-there k path bytes h1 file h2 = grind (arith, nat_tests, eqb-false, nth-push)

pub made-sound : (k : Kernel) (path : List ℕ) (bytes : List TaggedByte) → IsSound k → IsSound (record k { files = made k.files path bytes })
made-sound k path bytes s =
    record {
      fits = λ n. each (nth k.descriptions n) (s.fits n);
      named = λ name file e. let l = made-named k.files.names path (length k.files.all) s.named name file e in let g = length_push k.files.all (Some (record { bytes = bytes; holders = 0 })) in omega arith;
      there = λ name file e. made-there k path bytes s file (made-among k.files.names path (length k.files.all) name file e);
    }
  where
    each : (o : Option Opened) → IfSome o (λ o. FitsFiles k.files o.what) → IfSome o (λ o. FitsFiles (made k.files path bytes) o.what)
    each o h1 = grind (arith, nat_tests, made-fits)

-- the other files are as they were
made-last : (k : Kernel) (path : List ℕ) → FilesLast k.files (made k.files path [])
made-last k path = grind (arith, nat_tests, eqb-true, length_push, nth-push)

-- a new empty file under a free name
pub made-tells : (k : Kernel) (event : ℕ) (path : List ℕ) → find_file k.files path ≡ None → KernelTells k event [] None NoLife (Names path (next_file k.files)) None (record k { files = made k.files path [] })
made-tells k event path h1 = grind (arith, common_steps, nat_tests, made-names, nth-push, made-last, made-sound, nth-past, eqb-true, kept-same, file-same)

-- a name goes
unnamed-names : (names : List Name) (path name : List ℕ) → file_among (without_name names path) name ≡ named_after (Unnames path) name (file_among names name)
unnamed-names [] path name = none (bytes_eq path name)
  where
    none : (b : Bool) → ◌≡◌ {A = Option ℕ} None (cond b None None)
    none b = grind (arith, nat_tests)
unnamed-names (n ∷ names) path name = by_test (bytes_eq n.path path) refl (unnamed-names names path name)
  where
    skipped : (b c : Bool) → bytes_eq path name ≡ b → bytes_eq n.path name ≡ c → n.path ≡ path → cond b None (file_among names name) ≡ cond b None (cond c (Some n.file) (file_among names name))
    skipped b c h1 h2 h3 = grind (arith, nat_tests, path-same, same-path)

    stays : (b c : Bool) → bytes_eq path name ≡ b → bytes_eq n.path name ≡ c → bytes_eq n.path path ≡ false → cond c (Some n.file) (cond b None (file_among names name)) ≡ cond b None (cond c (Some n.file) (file_among names name))
    stays b c h1 h2 h3 = grind (arith, nat_tests, path-same, same-path)

    by_test : (b : Bool) → bytes_eq n.path path ≡ b → file_among (without_name names path) name ≡ named_after (Unnames path) name (file_among names name) → file_among (cond (not b) (n ∷ without_name names path) (without_name names path)) name ≡ named_after (Unnames path) name (file_among (n ∷ names) name)
    by_test b h1 h2 = grind (arith, nat_tests, skipped, same-path, stays)

-- without the name the file is as it was, or it is gone
unnamed-quiet : (fs : Files) (file : ℕ) (o : Option files.File) → nth fs.all file ≡ o → FilesQuiet fs (files.reached_again fs file o)
unnamed-quiet fs file None e = files-same fs
unnamed-quiet fs file (Some f) e =
    reached-quiet fs file (Some f) (files.if_reached fs.names file f) e (by_test (files.has_name fs.names file || nat_lt 0 f.holders))
    (λ path found some. by_name (files.has_name fs.names file) (among-named fs.names path file found))
  where
    by_name : (b : Bool) → b ≡ true → is_some (option_map (λ f. f.bytes) (if b || nat_lt 0 f.holders then Some f else None)) ≡ true
    by_name b h1 = grind (arith, nat_tests)

    by_test : (b : Bool) → FileSame (Some f.bytes) (option_map (λ f. f.bytes) (if b then Some f else None))
    by_test b = grind (arith, nat_tests)

pub unnamed-tells : (k : Kernel) (event : ℕ) (path : List ℕ) (file : ℕ) → KernelTells k event [] None NoLife (Unnames path) None (record k { files = unnamed k.files path file })
unnamed-tells k event path file =
    let fs = record k.files { names = without_name k.files.names path } in
    let k' = record k { files = fs } in
    let q = quiet-files k' (files.reached_again fs file (nth k.files.all file)) (unnamed-quiet fs file (nth k.files.all file) refl) in
    record {
      holds = λ b h e. inr (refl, same b h (q.bytes b h e));
      living = λ p. refl;
      names = λ name. ap (λ (names : List Name). file_among names name) q.names ∙ unnamed-names k.files.names path name;
      kept = λ f. kept-same event f (file_bytes k.files f) (file_bytes (unnamed k.files path file) f) (q.files f);
      last = record { made = q.last.made; gone = q.last.gone };
      writes = tt;
      sound = λ s. q.sound (sound s);
      grows = omega arith;
      few = omega arith;
      unplugged = refl;
    }
  where
    same : (b : KernelByte) (h : TaggedByte) → kernel_byte (record k { files = record k.files { names = without_name k.files.names path } }) b ≡ Some h → kernel_byte k b ≡ Some h
    same b h h1 = grind (arith, nat_tests)

    fits : (what : Description) → FitsFiles k.files what → FitsFiles (record k.files { names = without_name k.files.names path }) what
    fits what h1 = grind (arith, nat_tests)

    each : (o : Option Opened) → IfSome o (λ o. FitsFiles k.files o.what) → IfSome o (λ o. FitsFiles (record k.files { names = without_name k.files.names path }) o.what)
    each o h1 = grind (arith, nat_tests, fits)

    left : (name : List ℕ) (file : ℕ) (b : Bool) → cond b None (file_among k.files.names name) ≡ Some file → file_among k.files.names name ≡ Some file
    left name file b h1 = grind (arith, nat_tests)

    sound : IsSound k → IsSound (record k { files = record k.files { names = without_name k.files.names path } })
    sound h1 = grind (arith, nat_tests, fits, each, left, unnamed-names)
