-- Groups that have come equally far.
use Rattle.std.proofs.Common.{◌≡◌, ℕ, suc, ◌+◌, ◌-◌, ◌≤◌, min, ◌==◌, ◌&&◌, nat_le, nat_lt, not, Bool, true, false, if◌then◌else◌, cond, List, [], ◌∷◌, ◌++◌, length, take, drop, filter, Option, Some, None, option_and_then, slice_get, refl, ap, sym, subst, ◌∙◌, arith, eqb-true, le-leb, leb-true, leb-false, ltb-true}
use Rattle.std.proofs.lemmas.List.{drop-append-le, take-append-le}
use Rattle.std.proofs.lemmas.Bool.{and_parts, lt-leb}
use Rattle.std.proofs.lemmas.List.Sums.{count_by-le-length, length-filter}
use Rattle.arn_base.specs.declared.records.Record.{Record}
use Rattle.history_index.specs.Indexes.{Indexes}
use Rattle.history_index.specs.Lookups.{event_moment, founding_event, slices_from, slices_of}
use Rattle.history_index.specs.Tables.{Tables}
use Rattle.history_index.specs.declared.slices.SliceAt.{SliceAt}
use Rattle.history_model.specs.Alone.{Made, Makes, Standing, nothing_own, after_slice, settled}
use Rattle.history_model.specs.Broken.{first_broken}
use Rattle.history_model.specs.Events.{event_at}
use Rattle.history_model.specs.Groups.{group_of, is_number}
use Rattle.replayer.specs.BySlices.{AloneBySlices, after_part, before_slice, by_slices, first_made, first_made_if, first_of, with_slice, with_slices}
use Rattle.group_extents.specs.Extents.{behind_of, comes_by, delivers, extent_of, felt, is_begun, is_felt, is_idle, last_of, own_len, owed_of}
use Rattle.group_extents.specs.Laws.{EqualExtentsMakeOne}
use Rattle.group_extents.specs.declared.extent.Extent.{Extent}
use Rattle.group_extents.proofs.Behind.{IsTidy, closed-same, idle-same, moment-free, open-same, settled-none, still-same}
use Rattle.group_extents.proofs.Goes.{unbroken-behind}
use Rattle.group_extents.proofs.Later.{Grows, event-stays, founding-inside, founding-stays, group-stays, moment-stays, slices-grow}
use Rattle.group_extents.proofs.Slices.{Chain, Each, Precedes, Stands, chain-all, chain-filter, each-filter, each-left, each-passes, felt-before, made-all, stands-all}

-- how far a slice is run up to two moments
record EqualCuts (s : SliceAt) (m n : ℕ) : Type 0 where
  begun : nat_le s.moment m ≡ nat_le s.moment n
  ended : nat_le (s.moment + s.ran) m ≡ nat_le (s.moment + s.ran) n
  owed : min s.ran (m - s.moment) ≡ min s.ran (n - s.moment)

-- one that ends up to both
whole-cuts : (s : SliceAt) (m n : ℕ) → s.moment + s.ran ≤ m → s.moment + s.ran ≤ n → EqualCuts s m n
whole-cuts s m n here there =
    record {
      begun = le-leb s.moment m (omega (arith, here)) ∙ sym (le-leb s.moment n (omega (arith, there)));
      ended = le-leb (s.moment + s.ran) m here ∙ sym (le-leb (s.moment + s.ran) n there);
      owed = omega (arith, here, there);
    }

-- one that begins up to both, of which as many instructions come before each
begun-cuts : (s : SliceAt) (m n : ℕ) → s.moment ≤ m → s.moment ≤ n → min s.ran (m - s.moment) ≡ min s.ran (n - s.moment) → EqualCuts s m n
begun-cuts s m n here there owed =
    record {
      begun = le-leb s.moment m here ∙ sym (le-leb s.moment n there);
      ended = by_test (nat_le (s.moment + s.ran) m) refl (nat_le (s.moment + s.ran) n) refl;
      owed = owed;
    }
  where
    by_test : (a : Bool) → nat_le (s.moment + s.ran) m ≡ a → (b : Bool) → nat_le (s.moment + s.ran) n ≡ b → nat_le (s.moment + s.ran) m ≡ nat_le (s.moment + s.ran) n
    by_test true a true b = a ∙ sym b
    by_test false a false b = a ∙ sym b
    by_test true a false b = absurd (let up = leb-true (s.moment + s.ran) m a in let down = leb-false (s.moment + s.ran) n b in omega (arith, here, there, owed, up, down))
    by_test false a true b = absurd (let up = leb-true (s.moment + s.ran) n b in let down = leb-false (s.moment + s.ran) m a in omega (arith, here, there, owed, up, down))

-- with this the slice stands alike
cut : ℕ → ℕ → ℕ → Standing → Bool → Bool → ℕ → Standing
cut g pid ran t begun ended owed =
    record {
      made = settled t;
      groups = t.groups;
      events = t.events;
      moment = t.moment + ran;
      is_begun = begun;
      is_ended = ended;
      owed = if is_number g (t.groups pid) then owed else 0;
      pid = pid;
      ran = ran;
      end_event = t.events;
    }

slice-same : (g m n : ℕ) (made : Made) (s : SliceAt) → EqualCuts s m n → after_slice g m s.pid s.ran (before_slice g made s) ≡ after_slice g n s.pid s.ran (before_slice g made s)
unfolding cut
slice-same g m n made s cuts =
    let t = before_slice g made s in
    ap (λ (b : Bool). cut g s.pid s.ran t b (nat_le (s.moment + s.ran) m) (min s.ran (m - s.moment))) cuts.begun
    ∙ (ap (λ (b : Bool). cut g s.pid s.ran t (nat_le s.moment n) b (min s.ran (m - s.moment))) cuts.ended
    ∙ ap (λ (k : ℕ). cut g s.pid s.ran t (nat_le s.moment n) (nat_le (s.moment + s.ran) n) k) cuts.owed)

-- the last of slices is that of those behind the first
last-later : (s t : SliceAt) (slices : List SliceAt) → last_of (t ∷ slices) ≡ last_of (s ∷ t ∷ slices)
last-later s t slices =
    let one : length (t ∷ slices) - 1 ≡ length slices = omega arith in
    let two : length (s ∷ t ∷ slices) - 1 ≡ suc (length slices) = omega arith in
    ap (slice_get (t ∷ slices)) one ∙ sym (ap (slice_get (s ∷ t ∷ slices)) two)

module _ (g m n : ℕ) (before more : List Record) where
  -- a slice makes the same, where what stands behind it does
  with-same : (made : Made) (s : SliceAt) → s.place + 1 ≤ length before → EqualCuts s m n
      → ((t : Standing) → settled (after_part g m t (drop (s.place + 1) before)) ≡ settled (after_part g m t (drop (s.place + 1) before ++ more))) → with_slice g m before made s ≡ with_slice g n (before ++ more) made s
  with-same made s inside cuts behind =
      let t = after_slice g m s.pid s.ran (before_slice g made s) in
      behind t
      ∙ (ap settled (moment-free g m n t (drop (s.place + 1) before ++ more))
      ∙ (ap (λ (u : Standing). settled (after_part g n u (drop (s.place + 1) before ++ more))) (slice-same g m n made s cuts)
      ∙ ap (λ (rest : List Record). settled (after_part g n (after_slice g n s.pid s.ran (before_slice g made s)) rest)) (sym (drop-append-le (s.place + 1) before more inside))))

  -- what is known of each of a group's slices that begins up to both moments
  record Both (s : SliceAt) : Type 0 where
    one : Stands before s
    both : Stands (before ++ more) s
    here : nat_le s.moment m ≡ true
    there : nat_le s.moment n ≡ true

  whole : (made : Made) (s later : SliceAt) → Both s → Both later → Precedes before s later → with_slice g m before made s ≡ with_slice g n (before ++ more) made s
  whole made s later of next order =
      let ends = order.ends in
      let here = leb-true later.moment m next.here in
      let there = leb-true later.moment n next.there in
      with-same made s of.one.inside (whole-cuts s m n (omega (arith, ends, here)) (omega (arith, ends, there))) (λ t. ap settled (closed-same g m t (drop (s.place + 1) before) more order.closed))

  last : (made : Made) (s : SliceAt) → Both s → owed_of m (Some s) ≡ owed_of n (Some s) → behind_of before (Some s) ≡ behind_of (before ++ more) (Some s) → with_slice g m before made s ≡ with_slice g n (before ++ more) made s
  last made s of owed behind =
      let split = drop-append-le (s.place + 1) before more of.one.inside in
      with-same made s of.one.inside (begun-cuts s m n (leb-true s.moment m of.here) (leb-true s.moment n of.there) owed)
      (λ t. open-same g m t (drop (s.place + 1) before) more of.one.tidy (subst IsTidy split of.both.tidy) (behind ∙ ap own_len split))

  all-same : (slices : List SliceAt) (made : Made) → Each Both slices → Chain before slices → owed_of m (last_of slices) ≡ owed_of n (last_of slices) → behind_of before (last_of slices) ≡ behind_of (before ++ more) (last_of slices)
      → with_slices g m before made slices ≡ with_slices g n (before ++ more) made slices
  all-same [] made each chain owed behind = refl
  all-same (s ∷ []) made each chain owed behind = last made s each.0 owed behind
  all-same (s ∷ t ∷ slices) made each chain owed behind =
      let later = last-later s t slices in
      ap (λ (x : Made). with_slices g m before x (t ∷ slices)) (whole made s t each.0 each.1.0 chain.0.0)
      ∙ all-same (t ∷ slices) (with_slice g n (before ++ more) made s) each.1 chain.1
      (ap (owed_of m) later ∙ (owed ∙ sym (ap (owed_of n) later)))
      (ap (behind_of before) later ∙ (behind ∙ sym (ap (behind_of (before ++ more)) later)))

-- a slice that begins behind the moment makes nothing
if-none : (b : Bool) (n : ℕ) → n ≡ 0 → (if b then n else 0) ≡ 0
if-none true n none = none
if-none false n none = refl

unbegun : (g until : ℕ) (entries : List Record) (made : Made) (s : SliceAt) → nat_le s.moment until ≡ false → with_slice g until entries made s ≡ made
unbegun g until entries made s late =
    let less = leb-false s.moment until late in
    idle-same g until (after_slice g until s.pid s.ran (before_slice g made s)) (drop (s.place + 1) entries) late (lt-leb (s.moment + s.ran) until (omega (arith, less)))
    (if-none (is_number g (Some g)) (min s.ran (until - s.moment)) (omega (arith, less)))
    ∙ settled-none (before_slice g made s) refl

-- nor does one that begins at it, where nothing of it comes up to it
idle : (g until : ℕ) (entries : List Record) (made : Made) (s : SliceAt) → Stands entries s → is_idle entries until s ≡ true → with_slice g until entries made s ≡ made
idle g until entries made s stands h =
    let one = and_parts (s.moment == until) (nat_lt 0 s.ran && not (delivers (drop (s.place + 1) entries))) h in
    let two = and_parts (nat_lt 0 s.ran) (not (delivers (drop (s.place + 1) entries))) one.1 in
    let at = eqb-true s.moment until one.0 in
    let some = ltb-true 0 s.ran two.0 in
    still-same g until (after_slice g until s.pid s.ran (before_slice g made s)) (drop (s.place + 1) entries) stands.tidy (not-true (delivers (drop (s.place + 1) entries)) two.1) (lt-leb (s.moment + s.ran) until (omega (arith, at, some)))
    (if-none (is_number g (Some g)) (min s.ran (until - s.moment)) (omega (arith, at)))
    ∙ settled-none (before_slice g made s) refl
  where
    not-true : (b : Bool) → not b ≡ true → b ≡ false
    not-true false h = refl
    not-true true h = absurd (cc)

unfelt : (g until : ℕ) (entries : List Record) (made : Made) (s : SliceAt) → Stands entries s → is_felt entries until s ≡ false → with_slice g until entries made s ≡ made
unfelt g until entries made s stands h = by_test (nat_le s.moment until) refl (is_idle entries until s) refl h
  where
    by_test : (a : Bool) → nat_le s.moment until ≡ a → (b : Bool) → is_idle entries until s ≡ b → (a && not b) ≡ false → with_slice g until entries made s ≡ made
    by_test false late b is k = unbegun g until entries made s late
    by_test true late true is k = idle g until entries made s stands is
    by_test true late false is k = absurd (cc)

felt-only : (g until : ℕ) (entries : List Record) (made : Made) (slices : List SliceAt) → Each (Stands entries) slices → with_slices g until entries made slices ≡ with_slices g until entries made (filter (is_felt entries until) slices)
felt-only g until entries made [] stands = refl
felt-only g until entries made (s ∷ slices) stands = by_test (is_felt entries until s) refl (felt-only g until entries (with_slice g until entries made s) slices stands.1) (felt-only g until entries made slices stands.1)
  where
    by_test : (b : Bool) → is_felt entries until s ≡ b → with_slices g until entries (with_slice g until entries made s) slices ≡ with_slices g until entries (with_slice g until entries made s) (filter (is_felt entries until) slices)
        → with_slices g until entries made slices ≡ with_slices g until entries made (filter (is_felt entries until) slices)
        → with_slices g until entries (with_slice g until entries made s) slices ≡ with_slices g until entries made (cond b (s ∷ filter (is_felt entries until) slices) (filter (is_felt entries until) slices))
    by_test true is kept left = kept
    by_test false is kept left = ap (λ (x : Made). with_slices g until entries x slices) (unfelt g until entries made s stands.0 is) ∙ left

-- those that are felt come first
unfelt-later : (entries : List Record) (until : ℕ) (s later : SliceAt) → Precedes entries s later → is_felt entries until s ≡ false → is_felt entries until later ≡ false
unfelt-later entries until s later order h = by_test (is_felt entries until later) refl
  where
    by_test : (b : Bool) → is_felt entries until later ≡ b → b ≡ false
    by_test false is = refl
    by_test true is = absurd (let clash : true ≡ false = sym (felt-before entries until s later order is) ∙ h in cc)

none-felt : (until : ℕ) (entries : List Record) (s : SliceAt) (slices : List SliceAt) → is_felt entries until s ≡ false → Each (Precedes entries s) slices → filter (is_felt entries until) slices ≡ []
none-felt until entries s [] late h = refl
none-felt until entries s (t ∷ slices) late h =
    ap (λ (b : Bool). cond b (t ∷ filter (is_felt entries until) slices) (filter (is_felt entries until) slices)) (unfelt-later entries until s t h.0 late) ∙ none-felt until entries s slices late h.1

felt-first : (until : ℕ) (entries : List Record) (slices : List SliceAt) → Chain entries slices → filter (is_felt entries until) slices ≡ take (length (filter (is_felt entries until) slices)) slices
felt-first until entries [] h = refl
felt-first until entries (s ∷ slices) h = by_test (is_felt entries until s) refl (felt-first until entries slices h.1)
  where
    by_test : (b : Bool) → is_felt entries until s ≡ b → filter (is_felt entries until) slices ≡ take (length (filter (is_felt entries until) slices)) slices
        → cond b (s ∷ filter (is_felt entries until) slices) (filter (is_felt entries until) slices) ≡ take (length (cond b (s ∷ filter (is_felt entries until) slices) (filter (is_felt entries until) slices))) (s ∷ slices)
    by_test true is rest = ap (λ (xs : List SliceAt). s ∷ xs) rest
    by_test false is rest =
        let none = none-felt until entries s slices is h.0 in
        none ∙ ap (λ (xs : List SliceAt). take (length xs) (s ∷ slices)) (sym none)

-- the event by which a group begins makes nothing where it comes behind the moment
module _ (g until : ℕ) (entries : List Record) where
  unbegun-if : (event : ℕ) (moment : Option ℕ) (e : Option Record) → comes_by until moment ≡ false → first_made_if g until event moment e ≡ Makes nothing_own
  unbegun-if event None e late = refl
  unbegun-if event (Some moment) None late = refl
  unbegun-if event (Some moment) (Some e) late = ap (λ (b : Bool). if b then first_made g event e else Makes nothing_own) late

  first-late : (founding : Option ℕ) → comes_by until (option_and_then (event_moment entries) founding) ≡ false → first_of g until entries founding ≡ Makes nothing_own
  first-late None late = refl
  first-late (Some event) late = unbegun-if event (event_moment entries event) (event_at entries event) late

-- and the same where it comes up to both
first-if : (g m n event moment : ℕ) (e : Option Record) → nat_le moment m ≡ true → nat_le moment n ≡ true → first_made_if g m event (Some moment) e ≡ first_made_if g n event (Some moment) e
first-if g m n event moment None here there = refl
first-if g m n event moment (Some e) here there = ap (λ (b : Bool). if b then first_made g event e else Makes nothing_own) (here ∙ sym there)

module _ (g m n : ℕ) (before more : List Record) where
  first-soon : (founding : Option ℕ) → founding_event before g ≡ founding → comes_by m (option_and_then (event_moment before) founding) ≡ true → is_begun (before ++ more) g n ≡ true
      → first_of g m before founding ≡ first_of g n (before ++ more) (founding_event (before ++ more) g)
  first-soon None is here there = absurd (let no-way : false ≡ true = here in cc)
  first-soon (Some event) is here there = by_moment (event_moment before event) refl here
    where
      by_moment : (o : Option ℕ) → event_moment before event ≡ o → comes_by m o ≡ true → first_made_if g m event o (event_at before event) ≡ first_of g n (before ++ more) (founding_event (before ++ more) g)
      by_moment None at soon = absurd (let no-way : false ≡ true = soon in cc)
      by_moment (Some moment) at soon =
          let founded = founding-stays before more g event is in
          let moved = moment-stays before more event moment at in
          let later : nat_le moment n ≡ true = sym (ap (λ (f : Option ℕ). comes_by n (option_and_then (event_moment (before ++ more)) f)) founded ∙ ap (comes_by n) moved) ∙ there in
          first-if g m n event moment (event_at before event) soon later
          ∙ (ap (λ (e : Option Record). first_made_if g n event (Some moment) e) (sym (event-stays before more event (founding-inside before g event is)))
          ∙ (ap (λ (o : Option ℕ). first_made_if g n event o (event_at (before ++ more) event)) (sym moved)
          ∙ ap (first_of g n (before ++ more)) (sym founded)))

  first-same : is_begun before g m ≡ is_begun (before ++ more) g n → first_of g m before (founding_event before g) ≡ first_of g n (before ++ more) (founding_event (before ++ more) g)
  first-same same = by_test (is_begun before g m) refl
    where
      by_test : (b : Bool) → is_begun before g m ≡ b → first_of g m before (founding_event before g) ≡ first_of g n (before ++ more) (founding_event (before ++ more) g)
      by_test true is = first-soon (founding_event before g) refl is (sym same ∙ is)
      by_test false is = first-late g m before (founding_event before g) is ∙ sym (first-late g n (before ++ more) (founding_event (before ++ more) g) (sym same ∙ is))

-- what is known of each slice at two times
each-both : (g m n : ℕ) (before more : List Record) (slices : List SliceAt) → Each (Stands before) slices → Each (Stands (before ++ more)) slices → Each (λ (s : SliceAt). is_felt before m s ≡ true) slices → Each (λ (s : SliceAt). is_felt (before ++ more) n s ≡ true) slices
    → Each (Both g m n before more) slices
each-both g m n before more [] one both here there = tt
each-both g m n before more (s ∷ slices) one both here there =
    (record { one = one.0; both = both.0; here = (and_parts (nat_le s.moment m) (not (is_idle before m s)) here.0).0; there = (and_parts (nat_le s.moment n) (not (is_idle (before ++ more) n s)) there.0).0 }, each-both g m n before more slices one.1 both.1 here.1 there.1)

each-two : {A : Type 0} (P Q R : A → Type 0) (xs : List A) → ((x : A) → P x → Q x → R x) → Each P xs → Each Q xs → Each R xs
each-two P Q R [] both p q = tt
each-two P Q R (x ∷ xs) both p q = (both x p.0 q.0, each-two P Q R xs both p.1 q.1)

module _ (index : Tables) (before more : List Record) (g m n : ℕ) (indexed : Indexes index before) (unbroken : first_broken (before ++ more) ≡ None) where
  stands-one : Each (Stands before) (slices_from 0 0 0 before)
  stands-one = stands-all before indexed.stands

  -- who had a slice keeps its group
  of-same : Each (λ (s : SliceAt). is_number g (group_of (before ++ more) s.pid) ≡ is_number g (group_of before s.pid)) (slices_from 0 0 0 before)
  of-same =
      each-two (Stands before) (λ (s : SliceAt). s.pid ≤ length index.families.groups) (λ (s : SliceAt). is_number g (group_of (before ++ more) s.pid) ≡ is_number g (group_of before s.pid)) (slices_from 0 0 0 before)
      (λ s stands made. let many = indexed.families.processes in
      ap (is_number g) (group-stays before more s.pid stands.booted (unbroken-behind [] before more unbroken) (omega (arith, made, many))))
      stands-one (made-all (length index.families.groups) before 0 0 0 indexed.families.made)

  grown : Grows (slices_of before g) (slices_of (before ++ more) g)
  grown = slices-grow before more g of-same

  chain-one : Chain before (slices_of before g)
  chain-one = chain-filter before (λ s. is_number g (group_of before s.pid)) (slices_from 0 0 0 before) (chain-all before)

  chain-two : Chain (before ++ more) (slices_of (before ++ more) g)
  chain-two = chain-filter (before ++ more) (λ s. is_number g (group_of (before ++ more) s.pid)) (slices_from 0 0 0 (before ++ more)) (chain-all (before ++ more))

  few : length (felt before g m) ≤ length (slices_of before g)
  few = subst (λ (k : ℕ). k ≤ length (slices_of before g)) (sym (length-filter (is_felt before m) (slices_of before g))) (count_by-le-length (is_felt before m) (slices_of before g))

  -- as many are the same
  felt-same : length (felt before g m) ≡ length (felt (before ++ more) g n) → felt before g m ≡ felt (before ++ more) g n
  felt-same many =
      felt-first m before (slices_of before g) chain-one
      ∙ (sym (take-append-le (length (felt before g m)) (slices_of before g) grown.more few)
      ∙ (ap (take (length (felt before g m))) (sym grown.is)
      ∙ (ap (λ (k : ℕ). take k (slices_of (before ++ more) g)) many
      ∙ sym (felt-first n (before ++ more) (slices_of (before ++ more) g) chain-two))))

  own-one : Each (Stands before) (slices_of before g)
  own-one = each-filter (Stands before) (λ s. is_number g (group_of before s.pid)) (slices_from 0 0 0 before) stands-one

  own-two : Each (Stands (before ++ more)) (slices_of (before ++ more) g)
  own-two = each-filter (Stands (before ++ more)) (λ s. is_number g (group_of (before ++ more) s.pid)) (slices_from 0 0 0 (before ++ more)) (stands-all (before ++ more) unbroken)

  both-all : felt before g m ≡ felt (before ++ more) g n → Each (Both g m n before more) (felt before g m)
  both-all same =
      each-both g m n before more (felt before g m)
      (each-filter (Stands before) (is_felt before m) (slices_of before g) own-one)
      (each-filter (Stands (before ++ more)) (is_felt before m) (slices_of before g) (each-left (Stands (before ++ more)) (slices_of before g) grown.more (subst (Each (Stands (before ++ more))) grown.is own-two)))
      (each-passes (is_felt before m) (slices_of before g))
      (subst (Each (λ (s : SliceAt). is_felt (before ++ more) n s ≡ true)) (sym same) (each-passes (is_felt (before ++ more) n) (slices_of (before ++ more) g)))

  by-slices-same : extent_of before g m ≡ extent_of (before ++ more) g n → by_slices before g m ≡ by_slices (before ++ more) g n
  by-slices-same equal =
      let same = felt-same (ap (λ (x : Extent). x.slices) equal) in
      let first = first_of g m before (founding_event before g) in
      let last = ap last_of same in
      felt-only g m before first (slices_of before g) own-one
      ∙ (all-same g m n before more (felt before g m) first (both-all same) (chain-filter before (is_felt before m) (slices_of before g) chain-one)
      (ap (λ (x : Extent). x.owed) equal ∙ sym (ap (owed_of n) last)) (ap (λ (x : Extent). x.behind) equal ∙ sym (ap (behind_of (before ++ more)) last))
      ∙ (ap (λ (x : Made). with_slices g n (before ++ more) x (felt before g m)) (first-same g m n before more (ap (λ (x : Extent). x.is_begun) equal))
      ∙ (ap (with_slices g n (before ++ more) (first_of g n (before ++ more) (founding_event (before ++ more) g))) same
      ∙ sym (felt-only g n (before ++ more) (first_of g n (before ++ more) (founding_event (before ++ more) g)) (slices_of (before ++ more) g) own-two))))

pub alone-same : AloneBySlices → EqualExtentsMakeOne
alone-same slices index before more g m n indexed unbroken equal =
    slices before g m indexed.stands ∙ (by-slices-same index before more g m n indexed unbroken equal ∙ sym (slices (before ++ more) g n unbroken))
