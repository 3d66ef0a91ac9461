-- Records beside a group's: which are its own, and what each leaves.
use Rattle.std.proofs.lemmas.Grind.{common_steps}
use Rattle.std.proofs.lemmas.Bool.Decides.{nat_tests}
use Rattle.std.proofs.Common.{◌≡◌, ◌≢◌, ◌⊎◌, ◌<◌, ◌≤◌, ℕ, ◌+◌, ◌==◌, max, Bool, true, false, if◌then◌else◌, List, [], ◌∷◌, Option, Some, None, IfSome, inl, inr, refl, ap, ◌∙◌, arith}
use Rattle.std.specs.Option.{option_map_or}
use Rattle.std.proofs.lemmas.Bool.{eqb-true, not-false, and_parts, cases_Bool}
use Rattle.std.proofs.lemmas.Bool.Decides.{eqb_tells}
use Rattle.arn_base.specs.declared.records.Record.{Record}
use Rattle.arn_base.specs.declared.records.Record.TheVariants as entry
use Rattle.acts_model.specs.Records.{Child, child_called, child_number, is_event, is_founder}
use Rattle.history_index.specs.Lookups.{founds}
use Rattle.history_model.specs.Broken.{Behind, Nowhere, ADelivery, behind_record, behind_signal, greatest_after, is_behind}
use Rattle.history_model.specs.Groups.{Groups, child_group, group_made, groups_from, groups_told, is_number}
use Rattle.history_model.specs.Moments.{changed}
use Rattle.history_model.specs.Names.{is_boot}
use Rattle.replayer.proofs.Passing.{first-not, is_own}
use Rattle.replayer.proofs.Sound.{Fits, Sound, grows}

-- another number than the one that changes
changed-other : {A : Type 0} (f : ℕ → A) (k : ℕ) (x : A) (i : ℕ) → i ≢ k → changed f k x i ≡ f i
changed-other f k x i apart = elim (eqb_tells i k) [ inl e ↦ absurd (apart e.1) | inr e ↦ ap (λ (b : Bool). if b then x else f i) e.0 ]

-- who was made keeps its group
pub made-kept : (child : Child) (pid : ℕ) (groups : Groups) (p : ℕ) → p ≢ child.number → group_made pid (Some child) groups p ≡ groups p
made-kept child pid groups p apart = changed-other groups child.number (child_group child (groups pid)) p apart

called-kept : (child : Option Child) (pid n : ℕ) (groups : Groups) (p : ℕ) → IfSome (child_number child) (λ c. c ≡ n + 1) → (p ≤ n) ⊎ (option_map_or (max n) (child_number child) n < p) → group_made pid child groups p ≡ groups p
called-kept (Some child) pid n groups p is out = made-kept child pid groups p (λ same. elim out [ inl le ↦ absurd (omega (arith, same, is, le)) | inr lt ↦ absurd (omega (arith, same, is, lt)) ])
called-kept None pid n groups p is out = refl

pub told-kept : (b : Behind) (n : ℕ) (e : Record) (groups : Groups) (p : ℕ) → Fits b n e → is_boot e ≡ false → (p ≤ n) ⊎ (greatest_after e n < p) → groups_told e groups p ≡ groups p
told-kept b n (entry.Call pid number r more) groups p f isnt out = called-kept (child_called number r more) pid n groups p f.child out
told-kept b n (entry.Boot name give) groups p f isnt out = absurd (let no-way : true ≡ false = isnt in cc)
told-kept b n _ groups p f isnt out = refl

pub told-above : (b : Behind) (n : ℕ) (e : Record) (groups : Groups) (p : ℕ) → Fits b n e → greatest_after e n < p → groups_told e groups p ≡ groups p
told-above b n e groups p h1 h2 = grind (arith, common_steps, nat_tests, changed-other, told-kept)

-- also a process 1 that the boot makes was of no number before; the processes from 1 on keep theirs
pub told-below : (b : Behind) (n : ℕ) (e : Record) (groups : Groups) (p : ℕ) → Fits b n e → p ≤ n → groups_told e groups p ≡ groups p
told-below b n e groups p h1 h2 = grind (arith, common_steps, nat_tests, changed-other, told-kept)

pub kept-all : (entries : List Record) (b : Behind) (n : ℕ) (groups : Groups) (p : ℕ) → Sound b n entries → p ≤ n → groups_from entries groups p ≡ groups p
kept-all [] b n groups p sound le = refl
kept-all (e ∷ entries) b n groups p sound le =
    kept-all entries (behind_record b e) (greatest_after e n) (groups_told e groups) p sound.1 (omega (arith, grows e n, le)) ∙ told-below b n e groups p sound.0 le

-- the slice at hand goes on, or there is none
hand-if : (c : Bool) (q pid : ℕ) → is_behind q (if c then ADelivery pid else Nowhere) ≡ true → (c ≡ true) × (pid ≡ q)
hand-if true q pid is = (refl, eqb-true pid q is)
hand-if false q pid is = absurd (let no-way : false ≡ true = is in cc)

pub same-test : (p q : ℕ) → p ≡ q → (p == q) ≡ true
same-test p q same = elim (eqb_tells p q) [ inl e ↦ e.0 | inr e ↦ absurd (e.1 same) ]

hand-signal : (b : Behind) (pid handler q : ℕ) → is_behind q (behind_signal pid handler b) ≡ true → is_behind q b ≡ true
hand-signal b pid handler q h1 = grind (arith, nat_tests, hand-if, same-test, eqb-true, and_parts)

pub hand-less : (b : Behind) (e : Record) (q : ℕ) → is_event e ≡ true → is_behind q (behind_record b e) ≡ true → is_behind q b ≡ true
hand-less b e q h1 h2 = grind (arith, common_steps, nat_tests, hand-signal)

-- a record that begins a group
begins-at : (child : Option Child) (g pid : ℕ) → is_number g (group_made pid child (λ p. None) g) ≡ true → child_number child ≡ Some g
begins-at child g pid h1 = grind (arith, nat_tests, eqb_tells)

-- it makes the first process
pub founder-next : (b : Behind) (n g : ℕ) (e : Record) → Fits b n e → founds g e ≡ true → (g ≡ n + 1) × (greatest_after e n ≡ n + 1) × ((q : ℕ) → is_behind q (behind_record b e) ≡ false)
founder-next b n g e h1 h2 = grind (arith, nat_tests, eqb_tells, begins-at)

-- once a group has begun, no other record begins it
pub founds-no-more : (b : Behind) (n g : ℕ) (e : Record) → Fits b n e → g ≤ n → founds g e ≡ false
founds-no-more b n g e h1 h2 = grind (arith, nat_tests, cases_Bool, founder-next)

-- a record of another process
pub of-others : (b : Behind) (n g : ℕ) (e : Record) (groups : Groups) → Fits b n e → is_event e ≡ true → is_boot e ≡ false → founds g e ≡ false → ((q : ℕ) → is_behind q b ≡ true → is_number g (groups q) ≡ false) → is_own g groups e ≡ false
of-others b n g e groups h1 h2 h3 h4 h5 = grind (arith, nat_tests, not-false)

-- where no process is of the group, none is behind a record that doesn't begin it
number-changed : (g k : ℕ) (x : Option ℕ) (groups : Groups) (p : ℕ) → is_number g x ≡ false → is_number g (groups p) ≡ false → is_number g (changed groups k x p) ≡ false
number-changed g k x groups p h1 h2 = grind (arith, nat_tests)

module _ (g : ℕ) (groups : Groups) (none : (p : ℕ) → is_number g (groups p) ≡ false) where
  child-none : (founds : Bool) (pid child : ℕ) → is_number g (if g == child then if founds then Some child else None else None) ≡ false → is_number g (if founds then Some child else groups pid) ≡ false
  child-none true pid child isnt = first-not g child isnt
  child-none false pid child isnt = none pid

  called-none : (pid : ℕ) (child : Option Child) → is_number g (group_made pid child (λ p. None) g) ≡ false → (p : ℕ) → is_number g (group_made pid child groups p) ≡ false
  called-none pid (Some child) isnt p =
      number-changed g child.number (child_group child (groups pid)) groups p (child-none (is_founder child) pid child.number isnt) (none p)
  called-none pid None isnt p = none p

  pub told-none : (e : Record) → founds g e ≡ false → (p : ℕ) → is_number g (groups_told e groups p) ≡ false
  told-none (entry.Boot name give) isnt p = number-changed g 1 (Some 1) groups p (first-not g 1 isnt) (none p)
  told-none (entry.Call pid number r more) isnt p = called-none pid (child_called number r more) isnt p
  told-none _ isnt p = none p

  pub own-none : (e : Record) → founds g e ≡ false → is_own g groups e ≡ false
  own-none e h1 = grind (arith, nat_tests)
