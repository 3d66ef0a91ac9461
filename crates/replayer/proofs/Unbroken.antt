-- What stands behind a list of records that isn't broken.
use Rattle.std.proofs.lemmas.Grind.{common_steps}
use Rattle.std.proofs.lemmas.Bool.Decides.{nat_tests}
use Rattle.std.proofs.Common.{◌≡◌, ◌<◌, ◌≤◌, ℕ, zero, suc, ◌+◌, ◌*◌, ◌&&◌, not, nat_le, max, Bool, true, false, if◌then◌else◌, List, [], ◌∷◌, ◌++◌, length, take, get_or, Option, Some, None, IfSome, refl, ap, sym, subst, ◌∙◌, append_assoc, arith, All, append-nil}
use Rattle.std.proofs.lemmas.Bool.{and_parts, eqb-true, leb-true, or_parts, not-false}
use Rattle.std.specs.Option.{option_map_or}
use Rattle.std.proofs.Math.Seq.{take-nil}
use Rattle.std.proofs.lemmas.List.Elements.{All-cons, All-nil}
use Rattle.std.proofs.lemmas.List.Folds.{list_any-append}
use Rattle.arn_base.specs.declared.machine.Block.{Block}
use Rattle.arn_base.specs.declared.records.Record.{Record}
use Rattle.arn_base.specs.declared.records.Record.TheVariants as entry
use Rattle.arn_base.specs.declared.records.Start.{Start}
use Rattle.parts_model.specs.declared.limits.TheConstants.{BLOCK_LEN, WINDOW_LEN}
use Rattle.acts_model.specs.Records.{give_of}
use Rattle.guest_bodies.specs.Shown.{IsInside}
use Rattle.history_model.specs.Broken as broken
use Rattle.history_model.specs.Broken.{Behind, Nowhere, behind, behind_from, broken_from, cant_follow, child_in, first_broken, greatest, greatest_after, greatest_from, has_blocks_wrong, misnumbers, rise_from, start_in}
use Rattle.history_model.specs.Names.{is_boot, is_booted}

if-none : (b : Bool) (n : ℕ) (o : Option ℕ) → (if b then Some n else o) ≡ None → (b ≡ false) × (o ≡ None)
if-none true n o none = absurd (let no : Some n ≡ None = none in cc)
if-none false n o none = (refl, none)

-- no record can't stand where it does
pub can-follow : (before after : List Record) (i : ℕ) (e : Record) → broken_from before after ≡ None → i < length after → e ≡ get_or after i e → cant_follow (before ++ take i after) e ≡ false
can-follow before [] i e none lt is = absurd (omega arith)
can-follow before (x ∷ after) zero e none lt is = grind (arith, nat_tests, if-none (cant_follow before x) (length before) (broken_from (before ++ x ∷ []) after) none, append-nil before)
can-follow before (x ∷ after) (suc i) e none lt is = grind (arith, nat_tests, append_assoc before (x ∷ []) (take i after), can-follow (before ++ x ∷ []) after i e (if-none (cant_follow before x) (length before) (broken_from (before ++ x ∷ []) after) none).1 (omega arith) is)

-- the tests of a record that can follow
pub record Follows (before : List Record) (e : Record) : Type 0 where
  pub comes : broken.comes_wrong before e ≡ false
  pub process : broken.lacks_process before e ≡ false
  pub slice : broken.lacks_slice before e ≡ false
  pub origins : not (broken.are_origins before (give_of e)) ≡ false
  pub blocks : has_blocks_wrong (start_in e) ≡ false
  pub numbers : misnumbers before (child_in e) ≡ false
  pub start : broken.misplaces_start e ≡ false

pub tests : (before : List Record) (e : Record) → cant_follow before e ≡ false → Follows before e
tests before e h1 = grind (arith, nat_tests, or_parts)

-- files alone
abbrev IsFiles : List Record → Type 0
IsFiles [] = Unit {0}
IsFiles (entry.File name bytes ∷ entries) = IsFiles entries
IsFiles (e ∷ entries) = ⊥

files-behind : (entries : List Record) (b : Behind) → IsFiles entries → b ≡ Nowhere → behind_from b entries ≡ Nowhere
files-behind [] b files is = is
files-behind (entry.File name bytes ∷ entries) b files is = files-behind entries Nowhere files refl
files-behind _ b files is = absurd files

files-greatest : (entries : List Record) (n : ℕ) → IsFiles entries → greatest_from n entries ≡ n
files-greatest [] n files = refl
files-greatest (entry.File name bytes ∷ entries) n files = files-greatest entries n files
files-greatest _ n files = absurd files

files-unbooted : (entries : List Record) → IsFiles entries → is_booted entries ≡ false
files-unbooted [] files = refl
files-unbooted (entry.File name bytes ∷ entries) files = files-unbooted entries files
files-unbooted _ files = absurd files

files-snoc : (entries : List Record) (name bytes : List ℕ) → IsFiles entries → IsFiles (entries ++ entry.File name bytes ∷ [])
files-snoc [] name bytes files = tt
files-snoc (entry.File n b ∷ entries) name bytes files = files-snoc entries name bytes files
files-snoc _ name bytes files = absurd files

-- behind files nothing but a file or a boot can follow
module _ (before : List Record) (files : IsFiles before) where
  early : (t : Bool) → t ≡ is_booted before → not t ≡ false → ⊥
  early t is none = let yea : t ≡ true = not-false t none in let no : true ≡ false = sym yea ∙ (is ∙ files-unbooted before files) in cc

  alone-behind : (pid : ℕ) → not (broken.is_behind pid (behind before)) ≡ false → ⊥
  alone-behind pid none =
      let no : true ≡ false = sym (not-false _ none) ∙ ap (broken.is_behind pid) (files-behind before Nowhere files refl) in cc

  file-or-boot : (e : Record) → Follows before e → is_boot e ≡ false → IsFiles (before ++ e ∷ [])
  file-or-boot e h1 h2 = grind (arith, nat_tests, files-snoc, alone-behind, early)

booted-parts : (before : List Record) (x : Record) (after : List Record) → is_booted (before ++ x ∷ after) ≡ false → is_boot x ≡ false
booted-parts before x after none =
    (or_parts (is_boot x) (is_booted after) ((or_parts (is_booted before) (is_booted (x ∷ after)) (sym (list_any-append is_boot before (x ∷ after)) ∙ none)).1)).0

-- before the boot there are files alone
unbooted-files : (before after : List Record) (i : ℕ) → IsFiles before → broken_from before after ≡ None → is_booted (before ++ take i after) ≡ false → IsFiles (before ++ take i after)
unbooted-files before [] i files none unbooted = subst IsFiles (ap (λ (es : List Record). before ++ es) (sym (take-nil i))) (subst IsFiles (sym (append-nil before)) files)
unbooted-files before (x ∷ after) zero files none unbooted = subst IsFiles (sym (append-nil before)) files
unbooted-files before (x ∷ after) (suc i) files none unbooted =
    let first = if-none (cant_follow before x) (length before) (broken_from (before ++ x ∷ []) after) none in
    let more = file-or-boot before files x (tests before x first.0) (booted-parts before x (take i after) unbooted) in
    subst IsFiles (append_assoc before (x ∷ []) (take i after))
    (unbooted-files (before ++ x ∷ []) after i more first.1 (ap is_booted (append_assoc before (x ∷ []) (take i after)) ∙ unbooted))

greatest-append : (before after : List Record) (n : ℕ) → greatest_from n (before ++ after) ≡ greatest_from (greatest_from n before) after
greatest-append [] after n = refl
greatest-append (x ∷ before) after n = greatest-append before after (greatest_after x n)

number-is : (n : ℕ) (o : Option ℕ) (before : List Record) → n ≡ greatest before → misnumbers before o ≡ false → IfSome o (λ (c : ℕ). c ≡ n + 1)
number-is n o before h1 h2 = grind (arith, common_steps, nat_tests, eqb-true, not-false)

if-after : (child : Option ℕ) (n : ℕ) → IfSome child (λ (c : ℕ). c ≡ n + 1) → option_map_or (max n) child n ≤ n + 1
if-after (Some c) n is = omega (arith, is)
if-after None n is = omega arith

-- each record makes one process at most
after-few : (before : List Record) (e : Record) (n : ℕ) → n ≡ greatest before → Follows before e → greatest_after e n ≤ n + 1
after-few before (entry.Boot name give) n is f = omega arith
after-few before e n is f = if-after (child_in e) n (number-is n (child_in e) before is f.numbers)

pub greatest-few : (before after : List Record) (i m : ℕ) → broken_from before after ≡ None → greatest before ≤ m → greatest (before ++ take i after) ≤ m + i
greatest-few before [] i m none few = let is = ap greatest (ap (λ (es : List Record). before ++ es) (take-nil i) ∙ append-nil before) in omega (arith, is, few)
greatest-few before (x ∷ after) zero m none few = let is = ap greatest (append-nil before) in omega (arith, is, few)
greatest-few before (x ∷ after) (suc i) m none few =
    let first = if-none (cant_follow before x) (length before) (broken_from (before ++ x ∷ []) after) none in
    let one : greatest (before ++ x ∷ []) ≡ greatest_after x (greatest before) = greatest-append before (x ∷ []) 0 in
    let up = after-few before x (greatest before) refl (tests before x first.0) in
    omega (arith, greatest-few (before ++ x ∷ []) after i (m + 1) first.1 (omega (arith, one, up, few)), ap greatest (append_assoc before (x ∷ []) (take i after)))

blocks-inside : (least : ℕ) (blocks : List Block) → rise_from least blocks ≡ true → All IsInside blocks
blocks-inside least [] rise = All-nil IsInside
blocks-inside least (b ∷ blocks) rise =
    let first = and_parts (nat_le least b.number) (nat_le (BLOCK_LEN * (b.number + 1)) WINDOW_LEN && rise_from (b.number + 1) blocks) rise in
    let second = and_parts (nat_le (BLOCK_LEN * (b.number + 1)) WINDOW_LEN) (rise_from (b.number + 1) blocks) first.1 in
    All-cons IsInside b blocks (leb-true (BLOCK_LEN * (b.number + 1)) WINDOW_LEN second.0) (blocks-inside (b.number + 1) blocks second.1)

start-inside : (o : Option Start) → has_blocks_wrong o ≡ false → IfSome o (λ (start : Start). All IsInside start.blocks)
start-inside None right = tt
start-inside (Some start) right = blocks-inside 0 start.blocks (not-false (rise_from 0 start.blocks) right)

boot-first : (before : List Record) (e : Record) → Follows before e → is_boot e ≡ true → is_booted before ≡ false
boot-first before (entry.Boot name give) f is = f.comes
boot-first before _ f is = absurd (let no : false ≡ true = is in cc)

-- the blocks with which a group begins lie in the window
pub starts-inside : (entries : List Record) (i : ℕ) (e : Record) → first_broken entries ≡ None → i < length entries → e ≡ get_or entries i e → IfSome (start_in e) (λ (start : Start). All IsInside start.blocks)
starts-inside entries i e none lt is = start-inside (start_in e) (tests (take i entries) e (can-follow [] entries i e none lt is)).blocks

-- the boot comes before any process, and each child is the next
pub boot-none : (entries : List Record) (i : ℕ) (e : Record) → first_broken entries ≡ None → Follows (take i entries) e → is_boot e ≡ true → greatest (take i entries) ≡ 0
boot-none entries i e none f boot = files-greatest (take i entries) 0 (unbooted-files [] entries i tt none (boot-first (take i entries) e f boot))

pub child-next : (before : List Record) (e : Record) → Follows before e → IfSome (child_in e) (λ (c : ℕ). c ≡ greatest before + 1)
child-next before e f = number-is (greatest before) (child_in e) before refl f.numbers
