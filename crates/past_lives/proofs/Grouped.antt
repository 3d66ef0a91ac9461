-- Whoever lives has a group.
use Rattle.std.proofs.Common.{◌≡◌, ◌⊎◌, inl, inr, ℕ, ◌+◌, nat_le, Bool, true, false, is_some, List, [], ◌∷◌, ◌++◌, Option, Some, None, refl, sym, ap, ◌∙◌, arith}
use Rattle.std.proofs.lemmas.Bool.Decides.{nat_tests}
use Rattle.std.proofs.lemmas.Bool.{eqb-true, eqb-false, and_parts, not-false}
use Rattle.std.proofs.lemmas.Option.{same_Some}
use Rattle.arn_base.specs.declared.records.Extra.{Extra}
use Rattle.arn_base.specs.declared.records.Record.{Record}
use Rattle.arn_base.specs.declared.records.Record.TheVariants as entry
use Rattle.acts_model.specs.Records.{EndsLife, BeginsLife, child_forked, life_told, lives_after}
use Rattle.history_model.specs.Broken.{Behind, behind, behind_from, behind_record, behind_signal, broken_from, first_broken, is_behind}
use Rattle.history_model.specs.Groups.{Groups, group_made, groups_from, groups_told}
use Rattle.history_model.specs.Moments.{Numbered, changed, events_from, if_happened, lives_at, lives_by}
use Rattle.past_lives.proofs.Fold.{lived, lived-append, lives-all}
use Rattle.past_lives.proofs.Records.{Stands, follows}

abbrev Has : Groups → ℕ → Type 0
Has groups p = is_some (groups p) ≡ true

-- the process that makes a call
abbrev caller : Record → Option ℕ
caller (entry.Call pid number result more) = Some pid
caller other = None

-- groups stay, and a child has one if its parent has
forked-has : (pid child : ℕ) (more : Extra) (groups : Groups) (p : ℕ) → Has groups pid → (p ≡ child → ⊥) → Has groups p → Has (group_made pid (Some (child_forked child more)) groups) p
forked-has pid child more groups p h1 h2 h3 = grind (arith, nat_tests, eqb-true)

child-has : (pid child : ℕ) (more : Extra) (groups : Groups) (p : ℕ) → Has groups pid → p ≡ child → Has (group_made pid (Some (child_forked child more)) groups) p
child-has pid child more groups p h1 h2 = grind (arith, nat_tests, eqb-false)

changed-has : (groups : Groups) (k n p : ℕ) → Has groups p → Has (changed groups k (Some n)) p
changed-has groups k n p h1 = grind (arith, nat_tests)

stays-has : (e : Record) (groups : Groups) (p : ℕ) → ((pid : ℕ) → caller e ≡ Some pid → Has groups pid) → Has groups p → Has (groups_told e groups) p
stays-has e groups p h1 h2 = grind (arith, nat_tests, changed-has, child-has, eqb-false, eqb-true, forked-has)

-- who lives after a record has one

ended-before : (pid p : ℕ) (b : Bool) → lives_after (EndsLife pid) p b ≡ true → b ≡ true
ended-before pid p b h1 = grind (arith, nat_tests)

begun-before : (child p : ℕ) (b : Bool) → lives_after (BeginsLife child) p b ≡ true → (p ≡ child → ⊥) → b ≡ true
begun-before child p b h1 h2 = grind (arith, nat_tests, eqb-true)

call-has : (pid number result : ℕ) (more : Extra) (groups : Groups) (p : ℕ) (b : Bool) → Has groups pid → (b ≡ true → Has groups p) → lives_after (life_told (entry.Call pid number result more)) p b ≡ true → Has (groups_told (entry.Call pid number result more) groups) p
call-has pid number result more groups p b h1 h2 h3 = grind (arith, nat_tests, begun-before, child-has, ended-before, eqb-false, eqb-true, forked-has)

told-has : (e : Record) (groups : Groups) (p : ℕ) (b : Bool) → ((pid : ℕ) → caller e ≡ Some pid → is_some (groups pid) ≡ true) → (b ≡ true → Has groups p) → lives_after (life_told e) p b ≡ true → Has (groups_told e groups) p
told-has e groups p b h1 h2 h3 = grind (arith, nat_tests, begun-before, call-has, ended-before, eqb-false)

-- behind records: who has lived by then, and the process of the open slice
record Grouped (before : List Record) (b : Behind) (groups : Groups) : Type 0 where
  past : (p : ℕ) → lived before p false ≡ true → Has groups p
  slice : (p : ℕ) → is_behind p b ≡ true → Has groups p

signal-behind : (pid handler : ℕ) (b : Behind) (groups : Groups) → ((p : ℕ) → is_behind p b ≡ true → Has groups p) → (p : ℕ) → is_behind p (behind_signal pid handler b) ≡ true → Has groups p
signal-behind pid handler b groups h1 p h2 = grind (arith, nat_tests, and_parts, eqb-true)

runs-alive : (before : List Record) (pid ran : ℕ) → Stands before (entry.Slice pid ran) → lived before pid false ≡ true
runs-alive before pid ran h1 = grind (arith, nat_tests, lives-all, not-false)

parent-has : (before : List Record) (e : Record) (groups : Groups) → Stands before e → Grouped before (behind before) groups → (pid : ℕ) → caller e ≡ Some pid → Has groups pid
parent-has before e groups h1 h2 pid h3 = grind (arith, nat_tests, same_Some, not-false)

slice-next : (before : List Record) (e : Record) (groups : Groups) → Stands before e → Grouped before (behind before) groups → (p : ℕ) → is_behind p (behind_record (behind before) e) ≡ true → Has (groups_told e groups) p
slice-next before (entry.Slice pid ran) groups checks g p k = ap (λ (q : ℕ). is_some (groups q)) (sym (eqb-true pid p k)) ∙ g.past pid (runs-alive before pid ran checks)
slice-next before (entry.Signal pid signal cut handler) groups checks g p k = signal-behind pid handler (behind before) groups g.slice p k
slice-next before _ groups checks g p k = absurd (cc)

behind-append : (b : Behind) (rs : List Record) (e : Record) → behind_from b (rs ++ e ∷ []) ≡ behind_record (behind_from b rs) e
behind-append b [] e = refl
behind-append b (r ∷ rs) e = behind-append (behind_record b r) rs e

grouped-next : (before : List Record) (e : Record) (groups : Groups) → Stands before e → Grouped before (behind before) groups → Grouped (before ++ e ∷ []) (behind (before ++ e ∷ [])) (groups_told e groups)
grouped-next before e groups h1 h2 = grind (arith, nat_tests, behind-append, lived, lived-append, parent-has, slice-next, told-has)

-- events happen, or not
happened-has : (h : Bool) (n : ℕ) (e : Record) (events : List Numbered) (p : ℕ) (b : Bool) (P : Type 0)
    → ((c : Bool) → (c ≡ true → (b ≡ true) ⊎ (lives_after (life_told e) p b ≡ true)) → lives_by events p c ≡ true → P) → lives_by (if_happened h n e events) p b ≡ true → P
happened-has h n e events p b P h1 h2 = grind (arith, nat_tests)

event-has : (e : Record) (rest before : List Record) (until begins ends n : ℕ) (t : Bool) (groups : Groups) (p : ℕ) (b : Bool) → broken_from before (e ∷ rest) ≡ None → Grouped before (behind before) groups → (b ≡ true → Has groups p)
    → ((groups : Groups) (p : ℕ) (c : Bool) → broken_from (before ++ e ∷ []) rest ≡ None → Grouped (before ++ e ∷ []) (behind (before ++ e ∷ [])) groups → (c ≡ true → Has groups p) → lives_by (events_from until begins ends (n + 1) rest) p c ≡ true → Has (groups_from rest groups) p)
    → lives_by (if_happened t n e (events_from until begins ends (n + 1) rest)) p b ≡ true → Has (groups_from (e ∷ rest) groups) p
event-has e rest before until begins ends n t groups p b broken g h ih k =
    let more = follows before e rest broken in
    let next = grouped-next before e groups more.0 g in
    let parent = parent-has before e groups more.0 g in
    happened-has t n e (events_from until begins ends (n + 1) rest) p b (Has (groups_from (e ∷ rest) groups) p)
    (λ c f l. ih (groups_told e groups) p c more.1 next (λ m. elim (f m) [ inl was ↦ stays-has e groups p parent (h was) | inr is ↦ told-has e groups p b parent h is ]) l) k

all-has : (rest before : List Record) (until begins ends n : ℕ) (groups : Groups) (p : ℕ) (b : Bool) → broken_from before rest ≡ None → Grouped before (behind before) groups → (b ≡ true → Has groups p)
    → lives_by (events_from until begins ends n rest) p b ≡ true → Has (groups_from rest groups) p
all-has [] before until begins ends n groups p b broken g h k = h k
all-has (entry.Slice pid ran ∷ rest) before until begins ends n groups p b broken g h k =
    let more = follows before (entry.Slice pid ran) rest broken in
    all-has rest (before ++ entry.Slice pid ran ∷ []) until ends (ends + ran) n groups p b more.1 (grouped-next before (entry.Slice pid ran) groups more.0 g) h k
all-has (entry.Signal pid signal cut handler ∷ rest) before until begins ends n groups p b broken g h k =
    event-has (entry.Signal pid signal cut handler) rest before until begins ends n (nat_le begins until) groups p b broken g h (all-has rest (before ++ entry.Signal pid signal cut handler ∷ []) until begins ends (n + 1)) k
all-has (e ∷ rest) before until begins ends n groups p b broken g h k = grind (arith, nat_tests, event-has e rest before until begins ends n (nat_le ends until) groups p b broken g h (all-has rest (before ++ e ∷ []) until begins ends (n + 1)) k)

pub lives-grouped : (entries : List Record) (moment pid : ℕ) → first_broken entries ≡ None → lives_at entries moment pid ≡ true → is_some (groups_from entries (λ p. None) pid) ≡ true
lives-grouped entries moment pid broken k =
    all-has entries [] moment 0 0 0 (λ p. None) pid false broken (record { past = λ p l. absurd (cc); slice = λ p l. absurd (cc) }) (λ l. absurd (cc)) k
