-- The groups of processes are those of a history, where no record is broken.
use Rattle.std.proofs.Common.{◌≡◌, ◌≢◌, ℕ, zero, suc, ◌+◌, ◌<◌, ◌≤◌, ◌==◌, ◌&&◌, nat_lt, length, not, max, Bool, true, false, if◌then◌else◌, List, [], ◌∷◌, ◌++◌, filter, Contains, Option, Some, None, IfSome, option_and_then, refl, sym, ap, subst, ◌∙◌, arith, eqb-true, ne_eqb, ltb-true, ltb-false}
use Rattle.std.specs.List.{range_with_len}
use Rattle.std.specs.Option.{option_map_or}
use Rattle.arn_base.specs.declared.records.Extra.{Extra}
use Rattle.arn_base.specs.declared.records.Record.{Record}
use Rattle.arn_base.specs.declared.records.Record.TheVariants as entry
use Rattle.parts_model.specs.declared.calls.TheConstants.{FORK}
use Rattle.parts_model.specs.Replies.{is_success}
use Rattle.acts_model.specs.Records.{child_forked, child_number, is_founder, process_of}
use Rattle.history_index.specs.Lookups.{groups_in}
use Rattle.history_model.specs.Broken.{broken_from, child_in, first_broken, greatest, greatest_after, greatest_from, misnumbers}
use Rattle.history_model.specs.Events.{event_at}
use Rattle.history_model.specs.Groups.{Groups, event_group, group_made, group_of, groups_from, groups_told, is_number}
use Rattle.history_model.specs.Moments.{changed}
use Rattle.query_engine.proofs.Checks.{goes-on}

-- a group has the number of one of its processes, of these so far
record IsFounded (most : ℕ) (groups : Groups) (g : ℕ) : Type 0 where
  own : groups g ≡ Some g
  above : 1 ≤ g
  below : g ≤ most

abbrev AreFounded : ℕ → Groups → Type 0
AreFounded most groups = (p : ℕ) → IfSome (groups p) (IsFounded most groups)

-- another process of a group
changed-other : (groups : Groups) (child g : ℕ) (o : Option ℕ) → g ≢ child → changed groups child o g ≡ groups g
changed-other groups child g o ne = ap (λ (b : Bool). if b then o else groups g) (ne_eqb g child ne)

founded-later : (most more : ℕ) (groups : Groups) (child g : ℕ) (o : Option ℕ) → most ≤ more → g ≢ child → IsFounded most groups g → IsFounded more (changed groups child o) g
founded-later most more groups child g o le ne f = record { own = changed-other groups child g o ne ∙ f.own; above = f.above; below = (let low = f.below in omega arith) }

-- a process that is new has this group
module _ (most more : ℕ) (groups : Groups) (child : ℕ) (o : Option ℕ) (le : most ≤ more) (new : (g : ℕ) → IsFounded most groups g → IsFounded more (changed groups child o) g) (own : IfSome o (IsFounded more (changed groups child o))) where
  changed-founded : AreFounded most groups → AreFounded more (changed groups child o)
  changed-founded all p = by_test (p == child)
    where
      keeps : (q : Option ℕ) → IfSome q (IsFounded most groups) → IfSome q (IsFounded more (changed groups child o))
      keeps None h = tt
      keeps (Some g) h = new g h

      by_test : (b : Bool) → IfSome (if b then o else groups p) (IsFounded more (changed groups child o))
      by_test true = own
      by_test false = keeps (groups p) (all p)

same-number : (n : ℕ) → (n == n) ≡ true
same-number n = grind (arith)

-- it starts its own
starts-own : (more : ℕ) (groups : Groups) (child : ℕ) → 1 ≤ child → child ≤ more → IsFounded more (changed groups child (Some child)) child
starts-own more groups child above below = record { own = ap (λ (b : Bool). if b then Some child else groups child) (same-number child); above = above; below = below }

below-ne : (g child : ℕ) → g < child → g ≢ child
below-ne g child less same = omega arith

forked-founded : (most pid child : ℕ) (more : Extra) (groups : Groups) → child ≡ most + 1 → AreFounded most groups → AreFounded (max most child) (group_made pid (Some (child_forked child more)) groups)
forked-founded most pid child more groups is all = by_test (is_founder (child_forked child more))
  where
    later : (g : ℕ) → IsFounded most groups g → IsFounded (max most child) (changed groups child (groups pid)) g
    later g f = founded-later most (max most child) groups child g (groups pid) (omega arith) (below-ne g child (let low = f.below in omega arith)) f

    by_group : (q : Option ℕ) → IfSome q (IsFounded most groups) → IfSome q (IsFounded (max most child) (changed groups child (groups pid)))
    by_group None h = tt
    by_group (Some g) h = later g h

    by_test : (b : Bool) → AreFounded (max most child) (changed groups child (if b then Some child else groups pid))
    by_test true =
        changed-founded most (max most child) groups child (Some child) (omega arith)
        (λ g f. founded-later most (max most child) groups child g (Some child) (omega arith) (below-ne g child (let low = f.below in omega arith)) f)
        (starts-own (max most child) groups child (omega arith) (omega arith)) all
    by_test false = changed-founded most (max most child) groups child (groups pid) (omega arith) later (by_group (groups pid) (all pid)) all

un-not : (b : Bool) → not b ≡ false → b ≡ true
un-not true h = refl
un-not false h = absurd (cc)

called-founded : (before : List Record) (pid number result : ℕ) (more : Extra) (groups : Groups) → misnumbers before (child_in (entry.Call pid number result more)) ≡ false → AreFounded (greatest before) groups
    → AreFounded (greatest_after (entry.Call pid number result more) (greatest before)) (groups_told (entry.Call pid number result more) groups)
called-founded before pid number result more groups m all = by_test ((number == FORK) && is_success result) m
  where
    by_test : (b : Bool) → misnumbers before (child_number (if b then Some (child_forked result more) else None)) ≡ false
        → AreFounded (option_map_or (max (greatest before)) (child_number (if b then Some (child_forked result more) else None)) (greatest before)) (group_made pid (if b then Some (child_forked result more) else None) groups)
    by_test true k = forked-founded (greatest before) pid result more groups (eqb-true result (greatest before + 1) (un-not (result == greatest before + 1) k)) all
    by_test false k = all

booted-founded : (most : ℕ) (groups : Groups) → AreFounded most groups → AreFounded (max most 1) (changed groups 1 (Some 1))
booted-founded most groups all = changed-founded most (max most 1) groups 1 (Some 1) (omega arith) later (starts-own (max most 1) groups 1 (omega arith) (omega arith)) all
  where
    later : (g : ℕ) → IsFounded most groups g → IsFounded (max most 1) (changed groups 1 (Some 1)) g
    later g f = by_test (g == 1) refl
      where
        by_test : (b : Bool) → (g == 1) ≡ b → IsFounded (max most 1) (changed groups 1 (Some 1)) g
        by_test true e = subst (IsFounded (max most 1) (changed groups 1 (Some 1))) (sym (eqb-true g 1 e)) (starts-own (max most 1) groups 1 (omega arith) (omega arith))
        by_test false e = record { own = ap (λ (b : Bool). if b then Some 1 else groups g) e ∙ f.own; above = f.above; below = (let low = f.below in omega arith) }

told-founded : (before : List Record) (e : Record) (groups : Groups) → misnumbers before (child_in e) ≡ false → AreFounded (greatest before) groups → AreFounded (greatest_after e (greatest before)) (groups_told e groups)
told-founded before (entry.Boot name give) groups m all = booted-founded (greatest before) groups all
told-founded before (entry.Call pid number result more) groups m all = called-founded before pid number result more groups m all
told-founded before (entry.File name bytes) groups m all = all
told-founded before (entry.Typed bytes) groups m all = all
told-founded before (entry.Unplug device) groups m all = all
told-founded before (entry.Slice pid ran) groups m all = all
told-founded before (entry.Signal pid signal cut handler) groups m all = all
told-founded before (entry.End pid status) groups m all = all

greatest-append : (n : ℕ) (rs : List Record) (e : Record) → greatest_from n (rs ++ e ∷ []) ≡ greatest_after e (greatest_from n rs)
greatest-append n [] e = refl
greatest-append n (r ∷ rs) e = greatest-append (greatest_after r n) rs e

all-founded : (before rest : List Record) (groups : Groups) → broken_from before rest ≡ None → AreFounded (greatest before) groups → AreFounded (greatest_from (greatest before) rest) (groups_from rest groups)
all-founded before [] groups h all = all
all-founded before (e ∷ rest) groups h all =
    let goes = goes-on before e rest h in
    let next = subst (λ (n : ℕ). AreFounded n (groups_told e groups)) (sym (greatest-append 0 before e)) (told-founded before e groups goes.numbers all) in
    subst (λ (n : ℕ). AreFounded (greatest_from n rest) (groups_from rest (groups_told e groups))) (greatest-append 0 before e) (all-founded (before ++ e ∷ []) rest (groups_told e groups) goes.later next)

-- a group that is one of its processes is found among these
front : (n m : ℕ) (xs : List ℕ) → m ≡ n → Contains (m ∷ xs) n
front n m xs e = (0, omega arith, e)

behind : (n m : ℕ) (xs : List ℕ) → Contains xs n → Contains (m ∷ xs) n
behind n m xs c = (suc c.0, (let below : c.0 < length xs = c.1 in omega arith), c.2)

kept : (test : ℕ → Bool) (n from len : ℕ) → test n ≡ true → from ≤ n → n < from + len → Contains (filter test (range_with_len from len)) n
kept test n from zero t low high = absurd (omega arith)
kept test n from (suc len) t low high = by_less (nat_lt from n) refl (test from) refl (λ less. kept test n (from + 1) len t (omega arith) (omega arith))
  where
    by_less : (less : Bool) → nat_lt from n ≡ less → (b : Bool) → test from ≡ b → (from < n → Contains (filter test (range_with_len (from + 1) len)) n)
        → Contains (if b then from ∷ filter test (range_with_len (from + 1) len) else filter test (range_with_len (from + 1) len)) n
    by_less true l true e later = behind n from (filter test (range_with_len (from + 1) len)) (later (ltb-true from n l))
    by_less true l false e later = later (ltb-true from n l)
    by_less false l true e later = let most = ltb-false from n l in front n from (filter test (range_with_len (from + 1) len)) (omega arith)
    by_less false l false e later = absurd (let most = ltb-false from n l in let same : from ≡ n = omega arith in let clash : false ≡ true = sym e ∙ ap test same ∙ t in cc)

pub group-known : (entries : List Record) (pid g : ℕ) → first_broken entries ≡ None → group_of entries pid ≡ Some g → Contains (groups_in entries) g
group-known entries pid g unbroken is =
    let f : IsFounded (greatest entries) (group_of entries) g = subst (λ (o : Option ℕ). IfSome o (IsFounded (greatest entries) (group_of entries))) is (all-founded [] entries (λ p. None) unbroken (λ p. tt) pid) in
    kept (λ p. is_number p (group_of entries p)) g 1 (greatest entries) (ap (is_number g) f.own ∙ same-number g) f.above (let low = f.below in omega arith)

pub known : (entries : List Record) (event g : ℕ) → first_broken entries ≡ None → event_group entries event ≡ Some g → Contains (groups_in entries) g
known entries event g unbroken is = by_process (option_and_then process_of (event_at entries event)) is
  where
    by_process : (o : Option ℕ) → option_and_then (group_of entries) o ≡ Some g → Contains (groups_in entries) g
    by_process None k = absurd (cc)
    by_process (Some pid) k = group-known entries pid g unbroken k
