-- Slices of a history, and what stands behind each.
use Rattle.std.proofs.Common.{◌≡◌, ℕ, ◌+◌, ◌≤◌, nat_le, Bool, true, false, not, cond, List, [], ◌∷◌, ◌++◌, length, drop, filter, None, ◌==◌, ◌&&◌, nat_lt, refl, ap, sym, subst, ◌∙◌, arith, append_assoc, eqb-true, le-leb, length-append, leb-true, ltb-true}
use Rattle.std.proofs.lemmas.Bool.{and_from, and_parts, not-false}
use Rattle.std.proofs.Math.Seq.{drop-append-add}
use Rattle.arn_base.specs.declared.records.Record.{Record}
use Rattle.arn_base.specs.declared.records.Record.TheVariants as entry
use Rattle.history_index.specs.Indexes.{AreMade}
use Rattle.history_index.specs.Lookups.{slices_from}
use Rattle.history_index.specs.declared.slices.SliceAt.{SliceAt}
use Rattle.history_model.specs.Broken.{broken_from, first_broken}
use Rattle.history_model.specs.Names.{is_booted}
use Rattle.group_extents.specs.Extents.{delivers, is_felt, is_idle}
use Rattle.group_extents.proofs.Behind.{HasSlice, IsTidy, tidy}
use Rattle.group_extents.proofs.Goes.{booted-more, goes-on}

-- a fact holds of each
abbrev pub Each : {A : Type 0} → (A → Type 0) → List A → Type 0
Each P [] = Unit {0}
Each P (x ∷ xs) = P x × Each P xs

pub each-left : {A : Type 0} (P : A → Type 0) (xs ys : List A) → Each P (xs ++ ys) → Each P xs
each-left P [] ys h = tt
each-left P (x ∷ xs) ys h = (h.0, each-left P xs ys h.1)

pub each-filter : {A : Type 0} (P : A → Type 0) (test : A → Bool) (xs : List A) → Each P xs → Each P (filter test xs)
each-filter P test [] h = tt
each-filter P test (x ∷ xs) h = by_test (test x) (each-filter P test xs h.1)
  where
    by_test : (b : Bool) → Each P (filter test xs) → Each P (cond b (x ∷ filter test xs) (filter test xs))
    by_test true rest = (h.0, rest)
    by_test false rest = rest

-- each of those that pass a test does
pub each-passes : {A : Type 0} (test : A → Bool) (xs : List A) → Each (λ x. test x ≡ true) (filter test xs)
each-passes test [] = tt
each-passes test (x ∷ xs) = by_test (test x) refl (each-passes test xs)
  where
    by_test : (b : Bool) → test x ≡ b → Each (λ y. test y ≡ true) (filter test xs) → Each (λ y. test y ≡ true) (cond b (x ∷ filter test xs) (filter test xs))
    by_test true is rest = (is, rest)
    by_test false is rest = rest

-- tests that agree on each keep the same
pub filter-same : {A : Type 0} (p q : A → Bool) (xs : List A) → Each (λ x. p x ≡ q x) xs → filter p xs ≡ filter q xs
filter-same p q [] h = refl
filter-same p q (x ∷ xs) h =
    ap (λ (b : Bool). cond b (x ∷ filter p xs) (filter p xs)) h.0 ∙ ap (λ (rest : _). cond (q x) (x ∷ rest) rest) (filter-same p q xs h.1)

-- a slice ends before a later one begins, and another stands behind it
pub record Precedes (entries : List Record) (s later : SliceAt) : Type 0 where
  pub ends : s.moment + s.ran ≤ later.moment
  pub closed : HasSlice (drop (s.place + 1) entries)

abbrev pub Chain : List Record → List SliceAt → Type 0
Chain entries [] = Unit {0}
Chain entries (s ∷ slices) = Each (Precedes entries s) slices × Chain entries slices

pub chain-filter : (entries : List Record) (test : SliceAt → Bool) (slices : List SliceAt) → Chain entries slices → Chain entries (filter test slices)
chain-filter entries test [] h = tt
chain-filter entries test (s ∷ slices) h = by_test (test s) (chain-filter entries test slices h.1)
  where
    by_test : (b : Bool) → Chain entries (filter test slices) → Chain entries (cond b (s ∷ filter test slices) (filter test slices))
    by_test true rest = (each-filter (Precedes entries s) test slices h.0, rest)
    by_test false rest = rest

precedes-all : (entries : List Record) (s : SliceAt) (rest : List Record) (place moment event : ℕ) → s.moment + s.ran ≤ moment → (HasSlice rest → HasSlice (drop (s.place + 1) entries)) → Each (Precedes entries s) (slices_from place moment event rest)
precedes-all entries s [] place moment event le closed = tt
precedes-all entries s (entry.Slice pid ran ∷ rest) place moment event le closed =
    (record { ends = le; closed = closed tt }, precedes-all entries s rest (place + 1) (moment + ran) (event + 0) (omega (arith, le)) (λ h. closed tt))
precedes-all entries s (entry.File name bytes ∷ rest) place moment event le closed = precedes-all entries s rest (place + 1) (moment + 0) (event + 1) (omega (arith, le)) closed
precedes-all entries s (entry.Boot name give ∷ rest) place moment event le closed = precedes-all entries s rest (place + 1) (moment + 0) (event + 1) (omega (arith, le)) closed
precedes-all entries s (entry.Typed bytes ∷ rest) place moment event le closed = precedes-all entries s rest (place + 1) (moment + 0) (event + 1) (omega (arith, le)) closed
precedes-all entries s (entry.Unplug device ∷ rest) place moment event le closed = precedes-all entries s rest (place + 1) (moment + 0) (event + 1) (omega (arith, le)) closed
precedes-all entries s (entry.Signal pid signal cut handler ∷ rest) place moment event le closed = precedes-all entries s rest (place + 1) (moment + 0) (event + 1) (omega (arith, le)) closed
precedes-all entries s (entry.Call pid number result more ∷ rest) place moment event le closed = precedes-all entries s rest (place + 1) (moment + 0) (event + 1) (omega (arith, le)) closed
precedes-all entries s (entry.End pid status ∷ rest) place moment event le closed = precedes-all entries s rest (place + 1) (moment + 0) (event + 1) (omega (arith, le)) closed

-- where a slice stands among records: behind a boot, with tidy records behind it
pub record Stands (entries : List Record) (s : SliceAt) : Type 0 where
  pub inside : s.place + 1 ≤ length entries
  pub booted : is_booted entries ≡ true
  pub tidy : IsTidy (drop (s.place + 1) entries)

-- behind the next record
behind-next : (done : List Record) (e : Record) (rest : List Record) (place : ℕ) → place ≡ length done → drop (place + 1) (done ++ e ∷ rest) ≡ rest
behind-next done e rest place is = ap (λ (n : ℕ). drop (n + 1) (done ++ e ∷ rest)) is ∙ drop-append-add done (e ∷ rest) 1

one-more : (done : List Record) (e : Record) (place : ℕ) → place ≡ length done → place + 1 ≡ length (done ++ e ∷ [])
one-more done e place is = let len = length-append done (e ∷ []) in omega (arith, is, len)

inside-more : (done : List Record) (e : Record) (rest : List Record) (place : ℕ) → place ≡ length done → place + 1 ≤ length (done ++ e ∷ rest)
inside-more done e rest place is = let len = length-append done (e ∷ rest) in omega (arith, is, len)

module _ (entries : List Record) where
  chain-from : (done rest : List Record) (place moment event : ℕ) → entries ≡ done ++ rest → place ≡ length done → Chain entries (slices_from place moment event rest)
  chain-from done [] place moment event is at = tt
  chain-from done (entry.Slice pid ran ∷ rest) place moment event is at = (
    precedes-all entries (record { place = place; moment = moment; pid = pid; ran = ran; event = event }) rest (place + 1) (moment + ran) (event + 0) (omega arith)
        (λ h. subst HasSlice (sym (ap (drop (place + 1)) is ∙ behind-next done (entry.Slice pid ran) rest place at)) h),
    chain-from (done ++ entry.Slice pid ran ∷ []) rest (place + 1) (moment + ran) (event + 0) (is ∙ sym (append_assoc done (entry.Slice pid ran ∷ []) rest)) (one-more done (entry.Slice pid ran) place at),
  )
  chain-from done (entry.File name bytes ∷ rest) place moment event is at = chain-from (done ++ entry.File name bytes ∷ []) rest (place + 1) (moment + 0) (event + 1) (is ∙ sym (append_assoc done (entry.File name bytes ∷ []) rest)) (one-more done (entry.File name bytes) place at)
  chain-from done (entry.Boot name give ∷ rest) place moment event is at = chain-from (done ++ entry.Boot name give ∷ []) rest (place + 1) (moment + 0) (event + 1) (is ∙ sym (append_assoc done (entry.Boot name give ∷ []) rest)) (one-more done (entry.Boot name give) place at)
  chain-from done (entry.Typed bytes ∷ rest) place moment event is at = chain-from (done ++ entry.Typed bytes ∷ []) rest (place + 1) (moment + 0) (event + 1) (is ∙ sym (append_assoc done (entry.Typed bytes ∷ []) rest)) (one-more done (entry.Typed bytes) place at)
  chain-from done (entry.Unplug device ∷ rest) place moment event is at = chain-from (done ++ entry.Unplug device ∷ []) rest (place + 1) (moment + 0) (event + 1) (is ∙ sym (append_assoc done (entry.Unplug device ∷ []) rest)) (one-more done (entry.Unplug device) place at)
  chain-from done (entry.Signal pid signal cut handler ∷ rest) place moment event is at = chain-from (done ++ entry.Signal pid signal cut handler ∷ []) rest (place + 1) (moment + 0) (event + 1) (is ∙ sym (append_assoc done (entry.Signal pid signal cut handler ∷ []) rest)) (one-more done (entry.Signal pid signal cut handler) place at)
  chain-from done (entry.Call pid number result more ∷ rest) place moment event is at = chain-from (done ++ entry.Call pid number result more ∷ []) rest (place + 1) (moment + 0) (event + 1) (is ∙ sym (append_assoc done (entry.Call pid number result more ∷ []) rest)) (one-more done (entry.Call pid number result more) place at)
  chain-from done (entry.End pid status ∷ rest) place moment event is at = chain-from (done ++ entry.End pid status ∷ []) rest (place + 1) (moment + 0) (event + 1) (is ∙ sym (append_assoc done (entry.End pid status ∷ []) rest)) (one-more done (entry.End pid status) place at)

  pub chain-all : Chain entries (slices_from 0 0 0 entries)
  chain-all = chain-from [] entries 0 0 0 refl refl

  stands-from : (done rest : List Record) (place moment event : ℕ) → entries ≡ done ++ rest → place ≡ length done → broken_from done rest ≡ None → Each (Stands entries) (slices_from place moment event rest)
  stands-from done [] place moment event is at h = tt
  stands-from done (entry.Slice pid ran ∷ rest) place moment event is at h =
      let goes = goes-on done (entry.Slice pid ran) rest h in
      let booted : is_booted done ≡ true = not-false (is_booted done) goes.side in (
        record {
          inside = subst (λ (all : List Record). place + 1 ≤ length all) (sym is) (inside-more done (entry.Slice pid ran) rest place at);
          booted = ap is_booted is ∙ booted-more done (entry.Slice pid ran ∷ rest) booted;
          tidy = subst IsTidy (sym (ap (drop (place + 1)) is ∙ behind-next done (entry.Slice pid ran) rest place at))
              (tidy (done ++ entry.Slice pid ran ∷ []) rest (booted-more done (entry.Slice pid ran ∷ []) booted) goes.later);
        },
        stands-from (done ++ entry.Slice pid ran ∷ []) rest (place + 1) (moment + ran) (event + 0) (is ∙ sym (append_assoc done (entry.Slice pid ran ∷ []) rest)) (one-more done (entry.Slice pid ran) place at) (goes-on done (entry.Slice pid ran) rest h).later,
      )
  stands-from done (entry.File name bytes ∷ rest) place moment event is at h = stands-from (done ++ entry.File name bytes ∷ []) rest (place + 1) (moment + 0) (event + 1) (is ∙ sym (append_assoc done (entry.File name bytes ∷ []) rest)) (one-more done (entry.File name bytes) place at) (goes-on done (entry.File name bytes) rest h).later
  stands-from done (entry.Boot name give ∷ rest) place moment event is at h = stands-from (done ++ entry.Boot name give ∷ []) rest (place + 1) (moment + 0) (event + 1) (is ∙ sym (append_assoc done (entry.Boot name give ∷ []) rest)) (one-more done (entry.Boot name give) place at) (goes-on done (entry.Boot name give) rest h).later
  stands-from done (entry.Typed bytes ∷ rest) place moment event is at h = stands-from (done ++ entry.Typed bytes ∷ []) rest (place + 1) (moment + 0) (event + 1) (is ∙ sym (append_assoc done (entry.Typed bytes ∷ []) rest)) (one-more done (entry.Typed bytes) place at) (goes-on done (entry.Typed bytes) rest h).later
  stands-from done (entry.Unplug device ∷ rest) place moment event is at h = stands-from (done ++ entry.Unplug device ∷ []) rest (place + 1) (moment + 0) (event + 1) (is ∙ sym (append_assoc done (entry.Unplug device ∷ []) rest)) (one-more done (entry.Unplug device) place at) (goes-on done (entry.Unplug device) rest h).later
  stands-from done (entry.Signal pid signal cut handler ∷ rest) place moment event is at h = stands-from (done ++ entry.Signal pid signal cut handler ∷ []) rest (place + 1) (moment + 0) (event + 1) (is ∙ sym (append_assoc done (entry.Signal pid signal cut handler ∷ []) rest)) (one-more done (entry.Signal pid signal cut handler) place at) (goes-on done (entry.Signal pid signal cut handler) rest h).later
  stands-from done (entry.Call pid number result more ∷ rest) place moment event is at h = stands-from (done ++ entry.Call pid number result more ∷ []) rest (place + 1) (moment + 0) (event + 1) (is ∙ sym (append_assoc done (entry.Call pid number result more ∷ []) rest)) (one-more done (entry.Call pid number result more) place at) (goes-on done (entry.Call pid number result more) rest h).later
  stands-from done (entry.End pid status ∷ rest) place moment event is at h = stands-from (done ++ entry.End pid status ∷ []) rest (place + 1) (moment + 0) (event + 1) (is ∙ sym (append_assoc done (entry.End pid status ∷ []) rest)) (one-more done (entry.End pid status) place at) (goes-on done (entry.End pid status) rest h).later

  pub stands-all : first_broken entries ≡ None → Each (Stands entries) (slices_from 0 0 0 entries)
  stands-all h = stands-from [] entries 0 0 0 refl refl h

-- the process of each was made
pub made-all : (most : ℕ) (entries : List Record) (place moment event : ℕ) → AreMade most entries → Each (λ (s : SliceAt). s.pid ≤ most) (slices_from place moment event entries)
made-all most [] place moment event h = tt
made-all most (entry.Slice pid ran ∷ entries) place moment event h = (h.0, made-all most entries (place + 1) (moment + ran) (event + 0) h.1)
made-all most (entry.File name bytes ∷ entries) place moment event h = made-all most entries (place + 1) (moment + 0) (event + 1) h
made-all most (entry.Boot name give ∷ entries) place moment event h = made-all most entries (place + 1) (moment + 0) (event + 1) h
made-all most (entry.Typed bytes ∷ entries) place moment event h = made-all most entries (place + 1) (moment + 0) (event + 1) h
made-all most (entry.Unplug device ∷ entries) place moment event h = made-all most entries (place + 1) (moment + 0) (event + 1) h
made-all most (entry.Signal pid signal cut handler ∷ entries) place moment event h = made-all most entries (place + 1) (moment + 0) (event + 1) h
made-all most (entry.Call pid number result more ∷ entries) place moment event h = made-all most entries (place + 1) (moment + 0) (event + 1) h
made-all most (entry.End pid status ∷ entries) place moment event h = made-all most entries (place + 1) (moment + 0) (event + 1) h

-- where a slice may do something up to a moment, so may each before it
early : (s : SliceAt) (until : ℕ) (rest : Bool) → s.moment + s.ran ≤ until → not ((s.moment == until) && (nat_lt 0 s.ran && rest)) ≡ true
early s until rest le = by_test (s.moment == until) refl (nat_lt 0 s.ran) refl
  where
    by_test : (a : Bool) → (s.moment == until) ≡ a → (b : Bool) → nat_lt 0 s.ran ≡ b → not (a && (b && rest)) ≡ true
    by_test false is b runs = refl
    by_test true is false runs = refl
    by_test true is true runs = absurd (let at = eqb-true s.moment until is in let some = ltb-true 0 s.ran runs in omega (arith, le, at, some))

pub felt-before : (entries : List Record) (until : ℕ) (s later : SliceAt) → Precedes entries s later → is_felt entries until later ≡ true → is_felt entries until s ≡ true
felt-before entries until s later order h =
    let ends = order.ends in
    let parts = and_parts (nat_le later.moment until) (not (is_idle entries until later)) h in
    let le = leb-true later.moment until parts.0 in
    and_from (nat_le s.moment until) (not (is_idle entries until s)) (le-leb s.moment until (omega (arith, ends, le))) (early s until (not (delivers (drop (s.place + 1) entries))) (omega (arith, ends, le)))
