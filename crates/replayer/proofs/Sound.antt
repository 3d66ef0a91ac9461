-- What stands of each record of a list that isn't broken, by the records before it.
use Rattle.std.proofs.lemmas.Grind.{common_steps}
use Rattle.std.proofs.lemmas.Bool.Decides.{nat_tests}
use Rattle.std.proofs.Common.{◌≡◌, ◌<◌, ◌≤◌, ℕ, zero, suc, ◌+◌, ◌==◌, not, max, Bool, true, false, if◌then◌else◌, List, [], ◌∷◌, length, take, drop, get_or, Option, Some, None, IfSome, refl, ap, sym, arith, subst}
use Rattle.std.specs.Option.{option_map_or}
use Rattle.std.proofs.lemmas.Bool.{eqb-true, not-false}
use Rattle.arn_base.specs.declared.records.Record.{Record}
use Rattle.arn_base.specs.declared.records.Record.TheVariants as entry
use Rattle.parts_model.specs.declared.calls.TheConstants.{EXIT}
use Rattle.acts_model.specs.Records.{Child, LifeChange, BeginsLife, EndsLife, NoLife, child_called, child_life, child_number, life_told, lives_after}
use Rattle.history_index.specs.Check.{lacks_slice_by}
use Rattle.history_model.specs.Broken.{Behind, Nowhere, behind, behind_from, behind_record, child_in, first_broken, greatest, greatest_after, greatest_from}
use Rattle.history_model.specs.Moments.{Numbered, events_from, if_happened, lives_at, lives_by, total}
use Rattle.history_model.specs.Names.{is_boot}
use Rattle.replayer.proofs.Unbroken.{Follows, boot-none, can-follow, child-next, tests}
use Rattle.replayer.proofs.Loops.{greatest-snoc}

-- the process of a slice
abbrev pub runner : Record → Option ℕ
runner (entry.Slice pid ran) = Some pid
runner e = None

-- a record, behind a slice at hand and so many processes
pub record Fits (b : Behind) (n : ℕ) (e : Record) : Type 0 where
  pub slice : lacks_slice_by b e ≡ false
  pub child : IfSome (child_in e) (λ c. c ≡ n + 1)
  pub boot : is_boot e ≡ true → n ≡ 0
  pub made : IfSome (runner e) (λ p. p ≤ n)

abbrev pub Sound : Behind → ℕ → List Record → Type 0
Sound b n [] = Unit {0}
Sound b n (e ∷ entries) = Fits b n e × Sound (behind_record b e) (greatest_after e n) entries

-- who lives was made
abbrev Born : ℕ → LifeChange → Type 0
Born n (BeginsLife pid) = pid ≤ n
Born n _ = Unit {0}

abbrev AllBorn : ℕ → List Numbered → Type 0
AllBorn n [] = Unit {0}
AllBorn n (e ∷ events) = Born n (life_told e.entry) × AllBorn n events

if-test : (c b : Bool) (pid p n : ℕ) → p ≤ n → (b ≡ true → pid ≤ n) → c ≡ (p == pid) → (if c then true else b) ≡ true → pid ≤ n
if-test true b pid p n le was is lives = let same : p ≡ pid = eqb-true p pid (sym is) in omega (arith, same, le)
if-test false b pid p n le was is lives = was lives

if-ended : (c b : Bool) → (if c then false else b) ≡ true → b ≡ true
if-ended true b lives = absurd (let no-way : false ≡ true = lives in cc)
if-ended false b lives = lives

lives-born : (n pid : ℕ) (life : LifeChange) (b : Bool) → Born n life → (b ≡ true → pid ≤ n) → lives_after life pid b ≡ true → pid ≤ n
lives-born n pid life b h1 h2 h3 = grind (arith, common_steps, nat_tests, if-test, if-ended)

lives-made : (n pid : ℕ) (events : List Numbered) (b : Bool) → AllBorn n events → (b ≡ true → pid ≤ n) → lives_by events pid b ≡ true → pid ≤ n
lives-made n pid [] b born was lives = was lives
lives-made n pid (e ∷ events) b born was lives =
    lives-made n pid events (lives_after (life_told e.entry) pid b) born.1 (lives-born n pid (life_told e.entry) b born.0 was) lives

happened-born : (c : Bool) (n k : ℕ) (e : Record) (events : List Numbered) → Born n (life_told e) → AllBorn n events → AllBorn n (if_happened c k e events)
happened-born true n k e events born all = (born, all)
happened-born false n k e events born all = all

grows-if : (child : Option ℕ) (m : ℕ) → m ≤ option_map_or (max m) child m
grows-if (Some c) m = omega arith
grows-if None m = omega arith

pub grows : (e : Record) (m : ℕ) → m ≤ greatest_after e m
grows (entry.Boot name give) m = omega arith
grows e m = grows-if (child_in e) m

pub grows-all : (entries : List Record) (m : ℕ) → m ≤ greatest_from m entries
grows-all [] m = omega arith
grows-all (e ∷ entries) m = let one = grows e m in let rest = grows-all entries (greatest_after e m) in omega (arith, one, rest)

born-call : (exits : Bool) (child : Option Child) (m pid n : ℕ) → option_map_or (max m) (child_number child) m ≤ n → Born n (if exits then EndsLife pid else child_life child)
born-call exits child m pid n h1 = grind (arith, common_steps, nat_tests)

born-signal : (c : Bool) (pid n : ℕ) → Born n (if c then EndsLife pid else NoLife)
born-signal true pid n = tt
born-signal false pid n = tt

all-born : (moment begins ends k m n : ℕ) (entries : List Record) → greatest_from m entries ≤ n → AllBorn n (events_from moment begins ends k entries)
all-born moment begins ends k m n [] le = tt
all-born moment begins ends k m n (entry.Slice pid ran ∷ entries) le = all-born moment ends (ends + ran) k m n entries le
all-born moment begins ends k m n (entry.Signal pid signal cut handler ∷ entries) le = grind (arith, nat_tests, born-signal (handler == 0) pid n, all-born moment begins ends (k + 1) m n entries le)
all-born moment begins ends k m n (entry.Boot name give ∷ entries) le = grind (arith, nat_tests, grows-all entries (max m 1), all-born moment begins ends (k + 1) (max m 1) n entries le)
all-born moment begins ends k m n (entry.Call pid number r more ∷ entries) le = grind (arith, nat_tests, born-call (number == EXIT) (child_called number r more) m pid n (omega (arith, grows-all entries (greatest_after (entry.Call pid number r more) m), le)), all-born moment begins ends (k + 1) (greatest_after (entry.Call pid number r more) m) n entries le)
all-born moment begins ends k m n (e ∷ entries) le = happened-born _ n k e _ tt (all-born moment begins ends (k + 1) m n entries le)

live-made : (before : List Record) (pid : ℕ) → not (lives_at before (total before) pid) ≡ false → pid ≤ greatest before
live-made before pid is =
    lives-made (greatest before) pid (events_from (total before) 0 0 0 before) false (all-born (total before) 0 0 0 0 (greatest before) before (omega arith)) (λ (b : false ≡ true). absurd (let no-way : false ≡ true = b in cc)) (not-false _ is)

runner-made : (before : List Record) (e : Record) → Follows before e → IfSome (runner e) (λ p. p ≤ greatest before)
runner-made before (entry.Slice pid ran) f = live-made before pid f.process
runner-made before _ f = tt

hand-held : (before : List Record) (e : Record) → Follows before e → lacks_slice_by (behind before) e ≡ false
hand-held before e h1 = grind (arith, nat_tests)

pub behind-snoc : (b : Behind) (entries : List Record) (i : ℕ) (e : Record) → i < length entries → e ≡ get_or entries i e → behind_from b (take (suc i) entries) ≡ behind_record (behind_from b (take i entries)) e
behind-snoc b [] i e lt is = absurd (omega arith)
behind-snoc b (x ∷ entries) zero e lt is = ap (behind_record b) (sym is)
behind-snoc b (x ∷ entries) (suc i) e lt is = behind-snoc (behind_record b x) entries i e (omega arith) is

pub drop-more : {A : Type 0} (entries : List A) (i : ℕ) (e : A) → i < length entries → e ≡ get_or entries i e → drop i entries ≡ e ∷ drop (suc i) entries
drop-more [] i e lt is = absurd (omega arith)
drop-more (x ∷ entries) zero e lt is = ap (λ r. r ∷ entries) (sym is)
drop-more (x ∷ entries) (suc i) e lt is = drop-more entries i e (omega arith) is

pub drop-past : {A : Type 0} (entries : List A) (i : ℕ) → length entries ≤ i → drop i entries ≡ []
drop-past entries i h1 = grind (arith, common_steps, nat_tests)

pub there : (entries : List Record) (i : ℕ) → i < length entries → (e : Record) × (e ≡ get_or entries i e)
there [] i lt = absurd (omega arith)
there (x ∷ entries) zero lt = (x, refl)
there (x ∷ entries) (suc i) lt = there entries i (omega arith)

module _ (entries : List Record) (stands : first_broken entries ≡ None) where
  pub fits : (i : ℕ) (e : Record) → i < length entries → e ≡ get_or entries i e → Fits (behind (take i entries)) (greatest (take i entries)) e
  fits i e lt is =
      let f : Follows (take i entries) e = tests (take i entries) e (can-follow [] entries i e stands lt is) in
      record {
        slice = hand-held (take i entries) e f;
        child = child-next (take i entries) e f;
        boot = λ (boot : is_boot e ≡ true). boot-none entries i e stands f boot;
        made = runner-made (take i entries) e f;
      }

  pub sound-from : (left i : ℕ) → left + i ≡ length entries → Sound (behind (take i entries)) (greatest (take i entries)) (drop i entries)
  sound-from zero i is = subst (Sound (behind (take i entries)) (greatest (take i entries))) (sym (drop-past entries i (omega arith))) tt
  sound-from (suc left) i is =
      let lt : i < length entries = omega arith in
      let e = there entries i lt in
      let rest = sound-from left (suc i) (omega arith) in
      let hand = behind-snoc Nowhere entries i e.0 lt e.1 in
      let many = greatest-snoc 0 entries i e.0 lt e.1 in
      subst (Sound (behind (take i entries)) (greatest (take i entries))) (sym (drop-more entries i e.0 lt e.1)) (
        fits i e.0 lt e.1,
        subst (λ (b : Behind). Sound b (greatest_after e.0 (greatest (take i entries))) (drop (suc i) entries)) hand
            (subst (λ (m : ℕ). Sound (behind (take (suc i) entries)) m (drop (suc i) entries)) many rest),
      )

  pub sound : Sound Nowhere 0 entries
  sound = sound-from (length entries) 0 (omega arith)
