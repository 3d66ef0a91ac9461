-- Resources after each change.
use Rattle.std.proofs.Common.{◌≡◌, ℕ, ◌+◌, ◌-◌, ◌<◌, ◌≤◌, ◌==◌, Bool, true, false, cond, ◌||◌, List, [], ◌∷◌, ◌++◌, length, set, take, drop, Option, None, Some, IfSome, is_some, option_map, Result, Ok, Err, OnOk, OnErr, IfOk, refl, sym, ap, ap₂, ◌∙◌, arith, subst, true≢false, ne_eqb, eq-eqb, length-append, length-drop, length-take, length-take-le, le-leb, ltb-false, ◌^◌, nat_lt}
use Rattle.std.proofs.lemmas.Bool.{eqb-true, or_parts}
use Rattle.std.proofs.lemmas.Option.{same_Some}
use Rattle.parts_model.specs.declared.limits.TheConstants.{MOST_FILE_BYTES}
use Rattle.parts_model.specs.declared.open.Description.{Description}
use Rattle.parts_model.specs.declared.open.Description.TheVariants.{File}
use Rattle.parts_model.specs.declared.tagged.TaggedByte.{TaggedByte}
use Rattle.parts_model.specs.Files as files
use Rattle.parts_model.specs.Files.{Files, Name, has_name, held, if_reached, laid_over, made, next_file, fitting, reached_again, rewritten, unnamed, with_holder, without_holder, without_name, written}
use Rattle.parts_model.specs.Numbered.{nth}
use Rattle.parts_model.specs.Tagged.{held_bytes}
use Rattle.arn_model.specs.Kernel.{Opened, also_held, with_count, with_what}
use Rattle.guest_resources.specs.Opened.{fewer, first_descriptions, last_of, more}
use Rattle.guest_resources.specs.Resources.{Resources, Changes, IsIn, IsKnown, IsSound, HoldsFile, is_of, one_if, holding, holders_of, settled_files, with_resources}
use Rattle.guest_resources.proofs.Numbers.{nth-set, nth-add, nth-add_other, nth-behind, set-none}
use Rattle.guest_resources.proofs.Queues.{length-held}
use Rattle.guest_resources.proofs.Sound.{known-nth, known-set, known-add, known-kept, holders-set, holders-add, holders-few, holders-none, IsSettled, settled-sound}

abbrev opened_at : ℕ → ℕ → Opened
opened_at file position = record { what = File file position; descriptors = 1 }

-- a file more
made-held : (r : Resources) (path : List ℕ) (bytes : List TaggedByte) → IsSound r → (n : ℕ) (b : Bool) → (n == length r.files.all) ≡ b → IfSome (nth (made r.files path bytes).all n) (λ f. f.holders ≡ holders_of n r.descriptions)
made-held r path bytes sound n true e =
    subst (λ (i : ℕ). IfSome (nth (made r.files path bytes).all i) (λ f. f.holders ≡ holders_of i r.descriptions)) (sym (eqb-true n (length r.files.all) e))
    (subst (λ (o : Option files.File). IfSome o (λ f. f.holders ≡ holders_of (length r.files.all) r.descriptions)) (sym (nth-add r.files.all (Some (record { bytes = bytes; holders = 0 }))))
    (sym (holders-none r.files (length r.files.all) r.descriptions (nth-behind r.files.all) sound.known)))
made-held r path bytes sound n false e =
    subst (λ (o : Option files.File). IfSome o (λ f. f.holders ≡ holders_of n r.descriptions)) (sym (nth-add_other r.files.all (Some (record { bytes = bytes; holders = 0 })) n (λ (is : n ≡ length r.files.all). true≢false (sym (eq-eqb n (length r.files.all) is) ∙ e)))) (sound.held n)

pub made-sound : (r : Resources) (path : List ℕ) (bytes : List TaggedByte) → IsSound r → IsSound (record r { files = made r.files path bytes })
made-sound r path bytes sound =
    record {
      known =
          known-kept r.files (made r.files path bytes) (length r.files.all)
          (λ n at other is. subst (λ (o : Option files.File). IsIn o at) (sym (nth-add_other r.files.all (Some (record { bytes = bytes; holders = 0 })) n other)) is)
          r.descriptions (λ at is. absurd (subst (λ (o : Option files.File). IsIn o at) (nth-behind r.files.all) is)) sound.known;
      held = λ n. made-held r path bytes sound n (n == length r.files.all) refl;
    }

in-start : (o : Option files.File) → is_some o ≡ true → IsIn o 0
in-start None there = cc
in-start (Some f) there = omega arith

in-file : (o : Option files.File) (f : files.File) (at : ℕ) → o ≡ Some f → IsIn o at → at ≤ length f.bytes
in-file o f at is inside = subst (λ (x : Option files.File). IsIn x at) is inside

-- a file is opened
held-by : (r : Resources) (file : ℕ) → IsSound r → is_some (nth r.files.all file) ≡ true → (o : Option files.File) → nth r.files.all file ≡ o → IsSound (record { files = with_holder r.files file o; descriptions = r.descriptions ++ Some (opened_at file 0) ∷ [] })
held-by r file sound there None is = absurd (true≢false (sym there ∙ ap is_some is))
held-by r file sound there (Some f) is =
    settled-sound r.files r.files.names r.descriptions (r.descriptions ++ Some (opened_at file 0) ∷ []) file there (Some (record f { holders = f.holders + 1 })) (
      omega (arith, holders-add file r.descriptions (Some (opened_at file 0)), ap one_if (eq-eqb file file refl), subst (λ (x : Option files.File). IfSome x (λ g. g.holders ≡ holders_of file r.descriptions)) is (sound.held file)),
      λ at inside. in-file (nth r.files.all file) f at is inside,
    )
    (λ n other. omega (arith, holders-add n r.descriptions (Some (opened_at file 0)), ap one_if (ne_eqb file n (λ (e : file ≡ n). other (sym e)))))
    (known-add r.files r.descriptions (Some (opened_at file 0)) sound.known (in-start (nth r.files.all file) there)) sound.held

pub opened-sound : (r : Resources) (file : ℕ) → IsSound r → is_some (nth r.files.all file) ≡ true → IsSound (record { files = held r.files file; descriptions = r.descriptions ++ Some (opened_at file 0) ∷ [] })
opened-sound r file sound there = held-by r file sound there (nth r.files.all file) refl

pub made-opened-sound : (r : Resources) (path : List ℕ) → IsSound r → IsSound (record { files = held (made r.files path []) (next_file r.files); descriptions = r.descriptions ++ Some (opened_at (next_file r.files) 0) ∷ [] })
made-opened-sound r path sound =
    opened-sound (record r { files = made r.files path [] }) (next_file r.files) (made-sound r path [] sound)
    (ap is_some (nth-add r.files.all (Some (record { bytes = []; holders = 0 }))))

no-holders : (h : ℕ) → nat_lt 0 h ≡ false → h ≡ 0
no-holders h e = omega (arith, ltb-false 0 h e)

reached-by : (f : files.File) (old : Option files.File) (count : ℕ) (named : Bool) → f.holders ≡ count → ((at : ℕ) → IsIn old at → at ≤ length f.bytes) → (b : Bool) → named || nat_lt 0 f.holders ≡ b → IsSettled (cond b (Some f) None) old count
reached-by f old count named is places true e = (is, places)
reached-by f old count named is places false e = sym is ∙ no-holders f.holders (or_parts named (nat_lt 0 f.holders) e).1

reached-settled : (names : List Name) (file : ℕ) (f : files.File) (old : Option files.File) (count : ℕ) → f.holders ≡ count → ((at : ℕ) → IsIn old at → at ≤ length f.bytes) → IsSettled (if_reached names file f) old count
reached-settled names file f old count is places = reached-by f old count (has_name names file) is places (has_name names file || nat_lt 0 f.holders) refl

-- a name is taken away
unnamed-by : (r : Resources) (names : List Name) (file : ℕ) → IsSound r → (o : Option files.File) → nth r.files.all file ≡ o → IsSound (record r { files = reached_again (record r.files { names = names }) file o })
unnamed-by r names file sound None is =
    record { known = known-kept r.files (record r.files { names = names }) 0 (λ n at other inside. inside) r.descriptions (λ at inside. inside) sound.known; held = sound.held }
unnamed-by r names file sound (Some f) is =
    settled-sound r.files names r.descriptions r.descriptions file (ap is_some is) (if_reached names file f)
    (reached-settled names file f (nth r.files.all file) (holders_of file r.descriptions) (subst (λ (x : Option files.File). IfSome x (λ g. g.holders ≡ holders_of file r.descriptions)) is (sound.held file)) (λ at inside. in-file (nth r.files.all file) f at is inside))
    (λ n other. refl) sound.known sound.held

pub unnamed-sound : (r : Resources) (path : List ℕ) (file : ℕ) → IsSound r → IsSound (record r { files = unnamed r.files path file })
unnamed-sound r path file sound = unnamed-by r (without_name r.files.names path) file sound (nth r.files.all file) refl

-- another description of the same file, or of none, in the place of one
same-holding : (m : ℕ) (ds : List (Option Opened)) (n : ℕ) (o x : Opened) → nth ds n ≡ Some o → is_of m x.what ≡ is_of m o.what → holders_of m (set ds n (Some x)) ≡ holders_of m ds
same-holding m ds n o x is same = omega (arith, holders-set m ds n (Some x) (ap is_some is), ap (holding m) is, ap one_if same)

pub changed-sound : (r : Resources) (n : ℕ) (o x : Opened) → nth r.descriptions n ≡ Some o → ((m : ℕ) → is_of m x.what ≡ is_of m o.what) → IsKnown r.files x.what → IsSound r → IsSound (record r { descriptions = set r.descriptions n (Some x) })
changed-sound r n o x is same known sound =
    record {
      known = known-set r.files r.descriptions n (Some x) sound.known known;
      held = λ m. subst (λ (c : ℕ). IfSome (nth r.files.all m) (λ f. f.holders ≡ c)) (sym (same-holding m r.descriptions n o x is (same m))) (sound.held m);
    }

known-at : (r : Resources) (n : ℕ) (o : Opened) → nth r.descriptions n ≡ Some o → IsSound r → IsKnown r.files o.what
known-at r n o is sound = subst (λ (x : Option Opened). IfSome x (λ d. IsKnown r.files d.what)) is (known-nth r.files r.descriptions n sound.known)

more-by : (r : Resources) (n : ℕ) → IsSound r → (o : Option Opened) → nth r.descriptions n ≡ o → IsSound (record r { descriptions = more n o r.descriptions })
more-by r n sound None is = sound
more-by r n sound (Some o) is = changed-sound r n o (with_count (λ c. c + 1) o) is (λ m. refl) (known-at r n o is sound) sound

pub more-sound : (r : Resources) (n : ℕ) → IsSound r → IsSound (record r { descriptions = more n (nth r.descriptions n) r.descriptions })
more-sound r n sound = more-by r n sound (nth r.descriptions n) refl

-- a description without descriptors is gone
none-held : (r : Resources) (n : ℕ) (o : Opened) → nth r.descriptions n ≡ Some o → (m : ℕ) → holders_of m (set r.descriptions n None) + one_if (is_of m o.what) ≡ holders_of m r.descriptions
none-held r n o is m = omega (arith, holders-set m r.descriptions n None (ap is_some is), ap (holding m) is)

other-gone : (r : Resources) (n : ℕ) (o : Opened) → nth r.descriptions n ≡ Some o → ((m : ℕ) → is_of m o.what ≡ false) → IsSound r → IsSound (record r { descriptions = set r.descriptions n None })
other-gone r n o is none sound =
    record {
      known = known-set r.files r.descriptions n None sound.known tt;
      held =
          λ m. subst (λ (c : ℕ). IfSome (nth r.files.all m) (λ f. f.holders ≡ c)) (omega (arith, none-held r n o is m, ap one_if (none m))) (sound.held m);
    }

released-by : (r : Resources) (n file position : ℕ) (d : ℕ) → nth r.descriptions n ≡ Some (record { what = File file position; descriptors = d }) → IsSound r → (o : Option files.File) → nth r.files.all file ≡ o → IsSound (record { files = reached_again r.files file (option_map without_holder o); descriptions = set r.descriptions n None })
released-by r n file position d is sound None gone =
    absurd (subst (λ (x : Option files.File). IsIn x position) gone (known-at r n (record { what = File file position; descriptors = d }) is sound))
released-by r n file position d is sound (Some f) found =
    settled-sound r.files r.files.names r.descriptions (set r.descriptions n None) file (ap is_some found) (if_reached r.files.names file (without_holder f))
    (reached-settled r.files.names file (without_holder f) (nth r.files.all file) (holders_of file (set r.descriptions n None))
    (omega (arith, none-held r n (record { what = File file position; descriptors = d }) is file, ap one_if (eq-eqb file file refl), subst (λ (x : Option files.File). IfSome x (λ g. g.holders ≡ holders_of file r.descriptions)) found (sound.held file)))
    (λ at inside. in-file (nth r.files.all file) f at found inside))
    (λ m other. omega (arith, none-held r n (record { what = File file position; descriptors = d }) is m, ap one_if (ne_eqb file m (λ (e : file ≡ m). other (sym e)))))
    (known-set r.files r.descriptions n None sound.known tt) sound.held

gone-sound : (r : Resources) (n : ℕ) (what : Description) (d : ℕ) → nth r.descriptions n ≡ Some (record { what = what; descriptors = d }) → IsSound r → IsSound (record { files = settled_files (Some what) r.files; descriptions = set r.descriptions n None })
gone-sound r n (File file position) d is sound = released-by r n file position d is sound (nth r.files.all file) refl
gone-sound r n e d is sound = other-gone r n (record { what = e; descriptors = d }) is (λ m. refl) sound

fewer-more : (r : Resources) (n : ℕ) (o : Opened) → nth r.descriptions n ≡ Some o → IsSound r → (b : Bool) → IsSound (record { files = settled_files (cond b None (Some o.what)) r.files; descriptions = cond b (set r.descriptions n (Some (with_count (λ c. c - 1) o))) (set r.descriptions n None) })
fewer-more r n o is sound true = changed-sound r n o (with_count (λ c. c - 1) o) is (λ m. refl) (known-at r n o is sound) sound
fewer-more r n o is sound false = gone-sound r n o.what o.descriptors is sound

fewer-by : (r : Resources) (n : ℕ) → IsSound r → (o : Option Opened) → nth r.descriptions n ≡ o → IsSound (record { files = settled_files (last_of o) r.files; descriptions = fewer n o r.descriptions })
fewer-by r n sound None is = sound
fewer-by r n sound (Some o) is = fewer-more r n o is sound (nat_lt 1 o.descriptors)

pub fewer-sound : (r : Resources) (n : ℕ) → IsSound r → IsSound (record { files = settled_files (last_of (nth r.descriptions n)) r.files; descriptions = fewer n (nth r.descriptions n) r.descriptions })
fewer-sound r n sound = fewer-by r n sound (nth r.descriptions n) refl

-- one descriptor more, as the kernel says it
held-more : (n : ℕ) (ds : List (Option Opened)) (o : Option Opened) → nth ds n ≡ o → set ds n (option_map (with_count (λ c. c + 1)) o) ≡ more n o ds
held-more n ds None is = set-none ds n is
held-more n ds (Some o) is = refl

pub also_held-changes : (r : Resources) (n : ℕ) → Changes r (also_held n) (record r { descriptions = more n (nth r.descriptions n) r.descriptions })
also_held-changes r n = record { kernel = λ k. ap (λ (ds : List (Option Opened)). with_resources (record r { descriptions = ds }) k) (held-more n r.descriptions (nth r.descriptions n) refl) }

-- a place in the same file
same-file : (what : Description) (file position m : ℕ) → is_of file what ≡ true → is_of m (File file position) ≡ is_of m what
same-file (File n at) file position m is = ap (λ (i : ℕ). i == m) (sym (eqb-true n file is))
same-file _ file position m is = absurd (true≢false (sym is))

moved-by : (r : Resources) (n file position : ℕ) → IsSound r → IsIn (nth r.files.all file) position → (o : Option Opened) → nth r.descriptions n ≡ o → IfSome o (λ d. is_of file d.what ≡ true) → IsSound (record r { descriptions = set r.descriptions n (option_map (with_what (File file position)) o) })
moved-by r n file position sound inside None is own = subst (λ (ds : List (Option Opened)). IsSound (record r { descriptions = ds })) (sym (set-none r.descriptions n is)) sound
moved-by r n file position sound inside (Some o) is own = changed-sound r n o (with_what (File file position) o) is (λ m. same-file o.what file position m own) inside sound

pub moved-sound : (r : Resources) (n file position : ℕ) → IsSound r → IsIn (nth r.files.all file) position → IfSome (nth r.descriptions n) (λ d. is_of file d.what ≡ true) → IsSound (record r { descriptions = set r.descriptions n (option_map (with_what (File file position)) (nth r.descriptions n)) })
moved-sound r n file position sound inside own = moved-by r n file position sound inside (nth r.descriptions n) refl own

-- bytes are written over others
length-laid : (old : List TaggedByte) (at : ℕ) (new : List TaggedByte) → at ≤ length old → (length old ≤ length (laid_over old at new)) × (at + length new ≤ length (laid_over old at new))
length-laid old at new within =
    let all : length (laid_over old at new) ≡ length (take at old) + length new + length (drop (at + length new) old) =
    length-append (take at old ++ new) (drop (at + length new) old) ∙ ap (λ (n : ℕ). n + length (drop (at + length new) old)) (length-append (take at old) new) in
    (omega (arith, all, length-take at old, length-drop (at + length new) old, within), omega (arith, all, length-take at old, length-drop (at + length new) old, within))

fitting-all : (at len : ℕ) → at + len ≤ MOST_FILE_BYTES → fitting at len ≡ len
fitting-all at len fits = ap (λ (b : Bool). cond b len (MOST_FILE_BYTES - at)) (le-leb (at + len) MOST_FILE_BYTES fits)

-- how many bytes they are, where all fit
length-new : (event at : ℕ) (bytes : List ℕ) → at + length bytes ≤ MOST_FILE_BYTES → length (held_bytes event (take (fitting at (length bytes)) bytes)) ≡ length bytes
length-new event at bytes fits =
    length-held event 0 (take (fitting at (length bytes)) bytes)
    ∙ (ap (λ (n : ℕ). length (take n bytes)) (fitting-all at (length bytes) fits) ∙ length-take-le (length bytes) bytes (omega arith))

written-by : (r : Resources) (file at event : ℕ) (bytes : List ℕ) → IsSound r → IsIn (nth r.files.all file) at → (o : Option files.File) → nth r.files.all file ≡ o → IsSound (record r { files = record r.files { all = set r.files.all file (option_map (rewritten at bytes event) o) } })
written-by r file at event bytes sound inside None is = absurd (subst (λ (x : Option files.File). IsIn x at) is inside)
written-by r file at event bytes sound inside (Some f) is =
    settled-sound r.files r.files.names r.descriptions r.descriptions file (ap is_some is) (Some (rewritten at bytes event f)) (
      subst (λ (x : Option files.File). IfSome x (λ g. g.holders ≡ holders_of file r.descriptions)) is (sound.held file),
      λ place there. omega (arith, in-file (nth r.files.all file) f place is there, (length-laid f.bytes at (held_bytes event (take (fitting at (length bytes)) bytes)) (in-file (nth r.files.all file) f at is inside)).0),
    )
    (λ n other. refl) sound.known sound.held

written-in : (all : List (Option files.File)) (file at event : ℕ) (bytes : List ℕ) → at + length bytes ≤ MOST_FILE_BYTES → (o : Option files.File) → nth all file ≡ o → IsIn o at → IsIn (nth (set all file (option_map (rewritten at bytes event) o)) file) (at + length bytes)
written-in all file at event bytes fits None is inside = absurd inside
written-in all file at event bytes fits (Some f) is inside =
    subst (λ (o : Option files.File). IsIn o (at + length bytes)) (sym (nth-set all file (Some (rewritten at bytes event f)) (ap is_some is)))
    (omega (arith, length-new event at bytes fits, (length-laid f.bytes at (held_bytes event (take (fitting at (length bytes)) bytes)) inside).1))

pub written-sound : (r : Resources) (n file at event : ℕ) (bytes : List ℕ) → IsSound r → IsIn (nth r.files.all file) at → at + length bytes ≤ MOST_FILE_BYTES → IfSome (nth r.descriptions n) (λ d. is_of file d.what ≡ true) → IsSound (record { files = written r.files file at bytes event; descriptions = set r.descriptions n (option_map (with_what (File file (at + length bytes))) (nth r.descriptions n)) })
written-sound r n file at event bytes sound inside fits own =
    moved-sound (record r { files = written r.files file at bytes event }) n file (at + length bytes)
    (written-by r file at event bytes sound inside (nth r.files.all file) refl)
    (written-in r.files.all file at event bytes fits (nth r.files.all file) refl inside) own

-- what calls on files ask for
pub there-in : (o : Option files.File) (at : ℕ) → IsIn o at → is_some o ≡ true
there-in None at inside = absurd inside
there-in (Some f) at inside = refl

few-by : (r : Resources) (file : ℕ) → (o : Option files.File) → IfSome o (λ f. f.holders ≡ holders_of file r.descriptions) → length r.descriptions < 2 ^ 31 → IfSome o (λ f. f.holders < 2 ^ 31)
few-by r file None held few = tt
few-by r file (Some f) held few = omega (arith, held, few, holders-few file r.descriptions)

pub few-holders : (r : Resources) (file : ℕ) → IsSound r → length r.descriptions < 2 ^ 31 → IfSome (nth r.files.all file) (λ f. f.holders < 2 ^ 31)
few-holders r file sound few = few-by r file (nth r.files.all file) (sound.held file) few

-- what has gone with its last descriptor
last-by : (b : Bool) (d what : Description) → cond b None (Some d) ≡ Some what → d ≡ what
last-by true d what is = cc
last-by false d what is = same_Some d what is

last-of : (o : Option Opened) (what : Description) → last_of o ≡ Some what → IfSome o (λ d. d.what ≡ what)
last-of None what is = tt
last-of (Some o) what is = last-by (nat_lt 1 o.descriptors) o.what what is

last-known-by : (r : Resources) (what : Description) (o : Option Opened) → IfSome o (λ d. IsKnown r.files d.what) → last_of o ≡ Some what → IfSome o (λ d. d.what ≡ what) → IsKnown r.files what
last-known-by r what None known is same = cc
last-known-by r what (Some o) known is same = subst (IsKnown r.files) same known

last-known : (r : Resources) (n : ℕ) (what : Description) → IsSound r → last_of (nth r.descriptions n) ≡ Some what → IsKnown r.files what
last-known r n what sound is = last-known-by r what (nth r.descriptions n) (known-nth r.files r.descriptions n sound.known) is (last-of (nth r.descriptions n) what is)

some-holder : (r : Resources) (n file position : ℕ) (o : Option Opened) → nth r.descriptions n ≡ o → last_of o ≡ Some (File file position) → IfSome o (λ d. d.what ≡ File file position) → 0 < holders_of file r.descriptions
some-holder r n file position None is last same = cc
some-holder r n file position (Some o) is last same =
    omega (arith, none-held r n o is file, ap (λ (d : Description). one_if (is_of file d)) same, ap one_if (eq-eqb file file refl))

held-some : (o : Option files.File) (count : ℕ) → IfSome o (λ f. f.holders ≡ count) → 0 < count → IfSome o (λ f. 0 < f.holders)
held-some None count is some = tt
held-some (Some f) count is some = omega (arith, is, some)

last-file : (r : Resources) (n file position : ℕ) → IsSound r → last_of (nth r.descriptions n) ≡ Some (File file position) → IfSome (nth r.files.all file) (λ f. 0 < f.holders)
last-file r n file position sound is =
    held-some (nth r.files.all file) (holders_of file r.descriptions) (sound.held file)
    (some-holder r n file position (nth r.descriptions n) refl is (last-of (nth r.descriptions n) (File file position) is))

pub last-holds : (r : Resources) (n : ℕ) (what : Description) → IsSound r → last_of (nth r.descriptions n) ≡ Some what → HoldsFile r.files what
last-holds r n (File file position) sound is = (there-in (nth r.files.all file) position (last-known r n (File file position) sound is), last-file r n file position sound is)
last-holds r n _ sound is = tt

-- resources with one descriptor fewer, once the files are settled
module _ (r : Resources) (n : ℕ) (what : Option Description) (all : Files) (ds : List (Option Opened)) (last : last_of (nth r.descriptions n) ≡ what) (less : ds ≡ fewer n (nth r.descriptions n) r.descriptions) (settled : all ≡ settled_files what r.files) where
  abbrev after : Resources
  after = record { files = settled_files (last_of (nth r.descriptions n)) r.files; descriptions = fewer n (nth r.descriptions n) r.descriptions }

  abbrev into : Resources
  into = record { files = all; descriptions = ds }

  same-after : after ≡ into
  same-after = ap₂ (λ (a : Files) (l : List (Option Opened)). record { files = a; descriptions = l }) (ap (λ (w : Option Description). settled_files w r.files) last ∙ sym settled) (sym less)

  pub after-sound : IsSound r → IsSound (record { files = all; descriptions = ds })
  after-sound sound = subst IsSound same-after (fewer-sound r n sound)

-- by how a call ends
pub by-result : {T E : Type 0} (result : Result T E) (P Q R : Type 0) → OnOk result P → OnErr result Q → (P → R) → (Q → R) → R
by-result (Ok v) P Q R ok err f g = f ok
by-result (Err e) P Q R ok err f g = g err

pub OnOk-map : {T E : Type 0} (result : Result T E) (P Q : Type 0) → OnOk result P → (P → Q) → OnOk result Q
OnOk-map (Ok v) P Q ok f = f ok
OnOk-map (Err e) P Q ok f = tt

-- what is known of a description is known of what it is
pub known-what : (all : Files) (o : Option Opened) → IfSome o (λ d. IsKnown all d.what) → IfSome (option_map (λ (d : Opened). d.what) o) (IsKnown all)
known-what all None is = tt
known-what all (Some o) is = is

-- what is open first holds no file
pub first-sound : (r : Resources) (ds : List (Option Opened)) → r.descriptions ≡ [] → ds ≡ first_descriptions → IsSound r → IsSound (record r { descriptions = ds })
first-sound r ds none first sound =
    subst (λ (l : List (Option Opened)). IsSound (record r { descriptions = l })) (sym first) (record {
      known = (tt, tt);
      held = λ m. subst (λ (l : List (Option Opened)). IfSome (nth r.files.all m) (λ f. f.holders ≡ holders_of m l)) none (sound.held m);
    })

-- the same, of what a call has made
pub opened-into : (r : Resources) (file : ℕ) (all : Files) (ds : List (Option Opened)) → IsSound r → is_some (nth r.files.all file) ≡ true → all ≡ held r.files file → ds ≡ r.descriptions ++ Some (opened_at file 0) ∷ [] → IsSound (record { files = all; descriptions = ds })
opened-into r file all ds sound there is longer =
    subst IsSound (ap₂ (λ (a : Files) (l : List (Option Opened)). record { files = a; descriptions = l }) (sym is) (sym longer)) (opened-sound r file sound there)

pub made-opened-into : (r : Resources) (path : List ℕ) (first second : ℕ) (mid all : Files) (ds : List (Option Opened)) → IsSound r → first ≡ next_file r.files → second ≡ next_file r.files → mid ≡ made r.files path [] → all ≡ held mid second → ds ≡ r.descriptions ++ Some (opened_at first 0) ∷ [] → IsSound (record { files = all; descriptions = ds })
made-opened-into r path first second mid all ds sound one other is_made is longer =
    subst IsSound
    (ap₂ (λ (a : Files) (l : List (Option Opened)). record { files = a; descriptions = l })
    (sym (is ∙ ap₂ held is_made other))
    (sym (longer ∙ ap (λ (n : ℕ). r.descriptions ++ Some (opened_at n 0) ∷ []) one)))
    (made-opened-sound r path sound)

pub written-into : (r : Resources) (n file at position event : ℕ) (bytes : List ℕ) (all : Files) (ds : List (Option Opened)) → IsSound r → IsIn (nth r.files.all file) at → at + length bytes ≤ MOST_FILE_BYTES → IfSome (nth r.descriptions n) (λ d. is_of file d.what ≡ true) → all ≡ written r.files file at bytes event → position ≡ at + length bytes → ds ≡ set r.descriptions n (option_map (with_what (File file position)) (nth r.descriptions n)) → IsSound (record { files = all; descriptions = ds })
written-into r n file at position event bytes all ds sound inside fits own is there moved =
    subst IsSound
    (ap₂ (λ (a : Files) (l : List (Option Opened)). record { files = a; descriptions = l }) (sym is)
    (sym (moved ∙ ap (λ (p : ℕ). set r.descriptions n (option_map (with_what (File file p)) (nth r.descriptions n))) there)))
    (written-sound r n file at event bytes sound inside fits own)

pub fitting-is : (at len count : ℕ) → at + len ≤ MOST_FILE_BYTES → count ≡ fitting at len → count ≡ len
fitting-is at len count fits is = is ∙ fitting-all at len fits

pub unnamed-after : {E : Type 0} (result : Result ℕ E) (r : Resources) (path : List ℕ) (all : Files) → IfOk result (λ file. all ≡ unnamed r.files path file) → OnErr result (all ≡ r.files) → IsSound r → IsSound (record r { files = all })
unnamed-after (Ok file) r path all is same sound = subst (λ (a : Files). IsSound (record r { files = a })) (sym is) (unnamed-sound r path file sound)
unnamed-after (Err e) r path all is same sound = subst (λ (a : Files). IsSound (record r { files = a })) (sym same) sound
