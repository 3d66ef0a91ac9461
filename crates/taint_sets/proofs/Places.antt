-- Where a number lies among runs.
use Rattle.std.proofs.Common.{◌≡◌, ◌≢◌, ℕ, zero, suc, ◌+◌, ◌-◌, ◌^◌, ◌<◌, ◌≤◌, nat_le, nat_lt, Bool, true, false, if◌then◌else◌, List, [], ◌∷◌, ◌++◌, length, slice_index_or, Some, None, refl, sym, ap, subst, ◌∙◌, arith, length-append}
use Rattle.std.proofs.lemmas.Bool.Decides.{nat_tests}
use Rattle.std.proofs.lemmas.Bool.{ltb-true, ltb-false, leb-true, leb-false, le-leb}
use Rattle.std.proofs.lemmas.List.{get_or_append_left, get_or_default, get_or_push}
use Rattle.std.specs.List.Sorted.{IsPartitionPoint, IsPartitionedBy}
use Rattle.set_store.specs.declared.item.Item.{Item}
use Rattle.taint_sets.specs.declared.run.Run.{Run}
use Rattle.taint_sets.specs.Runs.{AreInOrder, IsRunBefore, has, item_among, item_in, no_run, run_at}
use Rattle.taint_sets.specs.Sound.{IsSound}

-- a number before a run, or behind it
pub before-run : (run : Run) (number : ℕ) → number < run.first → has run number ≡ false
before-run run number h1 = grind (arith, nat_tests)

pub behind-run : (run : Run) (number : ℕ) → run.first + run.len ≤ number → has run number ≡ false
behind-run run number h1 = grind (arith, nat_tests)

-- the first run lacks it, or has it
among-next : (run : Run) (runs : List Run) (number : ℕ) → has run number ≡ false → item_among (run ∷ runs) number ≡ item_among runs number
unfolding item_among
among-next run runs number e = ap (λ (t : Bool). if t then item_in run number else item_among runs number) e

among-first : (run : Run) (runs : List Run) (number : ℕ) → has run number ≡ true → item_among (run ∷ runs) number ≡ item_in run number
unfolding item_among
among-first run runs number e = ap (λ (t : Bool). if t then item_in run number else item_among runs number) e

-- no run has it
among-none : (runs : List Run) (number : ℕ) → ((i : ℕ) → i < length runs → has (run_at runs i) number ≡ false) → item_among runs number ≡ None
unfolding item_among
among-none [] number none = refl
among-none (run ∷ runs) number none = among-next run runs number (none zero (omega arith)) ∙ among-none runs number (λ i h. none (suc i) (omega arith))

lacks : (run : Run) (number : ℕ) → has run number ≡ false → item_in run number ≡ None
lacks run number e = ap (λ (t : Bool). if t then Some (record { event = run.event; at = run.at + (number - run.first) }) else None) e

-- none but this one has it
pub among-at : (runs : List Run) (number place : ℕ) → place < length runs → ((i : ℕ) → i < length runs → i ≢ place → has (run_at runs i) number ≡ false)
    → item_among runs number ≡ item_in (run_at runs place) number
among-at [] number place inside others = absurd (omega arith)
among-at (run ∷ runs) number zero inside others = by (has run number) refl
  where
    by : (b : Bool) → has run number ≡ b → item_among (run ∷ runs) number ≡ item_in run number
    by true e = among-first run runs number e
    by false e = among-next run runs number e ∙ (among-none runs number (λ i h. others (suc i) (omega arith) (λ (same : suc i ≡ zero). omega arith)) ∙ sym (lacks run number e))
among-at (run ∷ runs) number (suc place) inside others =
    among-next run runs number (others zero (omega arith) (λ (same : zero ≡ suc place). omega arith))
    ∙ among-at runs number place (omega arith) (λ i h apart. others (suc i) (omega arith) (λ (same : suc i ≡ suc place). apart (omega arith)))

some-none : (item : Item) → Some item ≡ None → ⊥
some-none item e = cc

-- one run more
single : (run : Run) (number : ℕ) → item_among (run ∷ []) number ≡ item_in run number
single run number = by (has run number) refl
  where
    by : (b : Bool) → has run number ≡ b → item_among (run ∷ []) number ≡ item_in run number
    by true e = among-first run [] number e
    by false e = among-next run [] number e ∙ (among-none [] number (λ i h. absurd (omega arith)) ∙ sym (lacks run number e))

-- what has the first run has, or the others
first-lacks : (first : Run) (runs : List Run) (number : ℕ) → item_among (first ∷ runs) number ≡ None → has first number ≡ false
first-lacks first runs number none = by (has first number) refl
  where
    by : (b : Bool) → has first number ≡ b → b ≡ false
    by false e = refl
    by true e = absurd (some-none _ (sym (ap (λ (t : Bool). if t then Some (record { event = first.event; at = first.at + (number - first.first) }) else None) e) ∙ (sym (among-first first runs number e) ∙ none)))

pub among-push : (runs : List Run) (run : Run) (number : ℕ) → item_among runs number ≡ None → item_among (runs ++ run ∷ []) number ≡ item_in run number
among-push [] run number none = single run number
among-push (first ∷ runs) run number none =
    let e = first-lacks first runs number none in
    among-next first (runs ++ run ∷ []) number e ∙ among-push runs run number (sym (among-next first runs number e) ∙ none)

kept-first : (first : Run) (runs more : List Run) (number : ℕ) (item : Item) → item_among (first ∷ runs) number ≡ Some item → (item_among runs number ≡ Some item → item_among more number ≡ Some item)
    → item_among (first ∷ more) number ≡ Some item
kept-first first runs more number item is rest = by (has first number) refl
  where
    by : (b : Bool) → has first number ≡ b → item_among (first ∷ more) number ≡ Some item
    by true e = among-first first more number e ∙ (sym (among-first first runs number e) ∙ is)
    by false e = among-next first more number e ∙ rest (sym (among-next first runs number e) ∙ is)

pub among-kept : (runs : List Run) (run : Run) (number : ℕ) (item : Item) → item_among runs number ≡ Some item → item_among (runs ++ run ∷ []) number ≡ Some item
among-kept [] run number item is = absurd (some-none item (sym is ∙ among-none [] number (λ i h. absurd (omega arith))))
among-kept (first ∷ runs) run number item is = kept-first first runs (runs ++ run ∷ []) number item is (among-kept runs run number item)

-- the last run that begins at a number or before it is the only one that may have it
pub found-at : (runs : List Run) (number count : ℕ) → AreInOrder runs → IsRunBefore runs number count → 0 < count → count ≤ length runs → item_among runs number ≡ item_in (run_at runs (count - 1)) number
found-at runs number count order split some most = among-at runs number (count - 1) (omega arith) others
  where
    others : (i : ℕ) → i < length runs → i ≢ count - 1 → has (run_at runs i) number ≡ false
    others i below apart = by (nat_lt i count) refl
      where
        by : (b : Bool) → nat_lt i count ≡ b → has (run_at runs i) number ≡ false
        by true e =
            let less : i < count - 1 = omega (arith, ltb-true i count e, apart) in
            let ends = order.rise i (count - 1) less (omega arith) in
            let starts = split.before (count - 1) (omega arith) in
            behind-run (run_at runs i) number (omega (arith, ends, starts))
        by false e = before-run (run_at runs i) number (split.behind i (ltb-false i count e) below)

pub found-none : (runs : List Run) (number count : ℕ) → IsRunBefore runs number count → count ≡ 0 → item_among runs number ≡ None
found-none runs number count split none = among-none runs number (λ i below. before-run (run_at runs i) number (split.behind i (omega (arith, none)) below))

-- a number behind all runs
pub among-past : (runs : List Run) (next number : ℕ) → IsSound runs next → next ≤ number → item_among runs number ≡ None
among-past runs next number sound past = among-none runs number (λ i below. let ends = sound.below i below in behind-run (run_at runs i) number (omega (arith, ends, past)))

pub has-it : (run : Run) (k : ℕ) → k < run.len → item_in run (run.first + k) ≡ Some (record { event = run.event; at = run.at + k })
has-it run k below =
    let inside : has run (run.first + k) ≡ true = grind (arith, nat_tests) in
    let same : run.first + k - run.first ≡ k = omega arith in
    ap (λ (t : Bool). if t then Some (record { event = run.event; at = run.at + (run.first + k - run.first) }) else None) inside
    ∙ ap (λ (n : ℕ). Some (record { event = run.event; at = run.at + n })) same

-- runs that begin at a number or before it stand in front
pub partitioned : (runs : List Run) (number : ℕ) → AreInOrder runs → IsPartitionedBy (λ (run : Run). nat_le run.first number) runs
partitioned runs number order i j d le inside up = by (nat_lt i j) refl
  where
    at : (k : ℕ) → k < length runs → slice_index_or runs k d ≡ run_at runs k
    at k h = get_or_default runs k d no_run h

    by : (b : Bool) → nat_lt i j ≡ b → nat_le (slice_index_or runs i d).first number ≡ true
    by true e =
        let less = ltb-true i j e in
        let ends = order.rise i j less inside in
        let last = leb-true (run_at runs j).first number (subst (λ (r : Run). nat_le r.first number ≡ true) (at j inside) up) in
        subst (λ (r : Run). nat_le r.first number ≡ true) (sym (at i (omega (arith, less, inside)))) (le-leb (run_at runs i).first number (omega (arith, ends, last)))
    by false e =
        let same : i ≡ j = omega (arith, le, ltb-false i j e) in
        subst (λ k. nat_le (slice_index_or runs k d).first number ≡ true) (sym same) up

pub split-at : (runs : List Run) (number count : ℕ) → IsPartitionPoint (λ (run : Run). nat_le run.first number ≡ true) (λ (run : Run). nat_le run.first number ≡ false) runs count → IsRunBefore runs number count
split-at runs number count point = record {
  before = λ i below. leb-true (run_at runs i).first number (point.0 i no_run (omega arith) below);
  behind = λ i from there. leb-false (run_at runs i).first number (point.1 i no_run from there);
}

module _ (runs : List Run) (run : Run) where
  at-old : (i : ℕ) → i < length runs → run_at (runs ++ run ∷ []) i ≡ run_at runs i
  at-old i h = get_or_append_left runs (run ∷ []) no_run i h

  at-new : (i : ℕ) → length runs ≡ i → run_at (runs ++ run ∷ []) i ≡ run
  at-new i e = get_or_push runs run no_run i e

  -- what holds of each run
  each : (P : Run → Type 0) → ((i : ℕ) → i < length runs → P (run_at runs i)) → P run → (i : ℕ) → i < length (runs ++ run ∷ []) → P (run_at (runs ++ run ∷ []) i)
  each P old new i below = by (nat_lt i (length runs)) refl
    where
      by : (b : Bool) → nat_lt i (length runs) ≡ b → P (run_at (runs ++ run ∷ []) i)
      by true e = let h = ltb-true i (length runs) e in subst P (sym (at-old i h)) (old i h)
      by false e =
          let more = length-append runs (run ∷ []) in
          let past = ltb-false i (length runs) e in
          subst P (sym (at-new i (omega (arith, more, past, below)))) new

  -- a run behind all others
  pub sound-pushed : (next : ℕ) → IsSound runs run.first → run.first + run.len ≡ next → run.at + run.len ≤ 2 ^ 64 → IsSound (runs ++ run ∷ []) next
  sound-pushed next sound ends fits = record {
    order = record {
      rise = rise;
      fit = each (λ r. r.at + r.len ≤ 2 ^ 64) sound.order.fit fits;
    };
    below = each (λ r. r.first + r.len ≤ next) (λ i h. let below = sound.below i h in omega (arith, below, ends)) (omega (arith, ends));
    received = let above = sound.received in omega (arith, above, ends);
  }
    where
      rise : (i j : ℕ) → i < j → j < length (runs ++ run ∷ []) → (run_at (runs ++ run ∷ []) i).first + (run_at (runs ++ run ∷ []) i).len ≤ (run_at (runs ++ run ∷ []) j).first
      rise i j less below = by (nat_lt j (length runs)) refl
        where
          more : length (runs ++ run ∷ []) ≡ length runs + length (run ∷ [])
          more = length-append runs (run ∷ [])

          by : (b : Bool) → nat_lt j (length runs) ≡ b → (run_at (runs ++ run ∷ []) i).first + (run_at (runs ++ run ∷ []) i).len ≤ (run_at (runs ++ run ∷ []) j).first
          by true e =
              let h = ltb-true j (length runs) e in
              subst (λ (r : Run). (run_at (runs ++ run ∷ []) i).first + (run_at (runs ++ run ∷ []) i).len ≤ r.first) (sym (at-old j h))
              (subst (λ (r : Run). r.first + r.len ≤ (run_at runs j).first) (sym (at-old i (omega (arith, less, h)))) (sound.order.rise i j less h))
          by false e =
              let past = ltb-false j (length runs) e in
              let old : i < length runs = omega (arith, more, past, below, less) in
              subst (λ (r : Run). (run_at (runs ++ run ∷ []) i).first + (run_at (runs ++ run ∷ []) i).len ≤ r.first) (sym (at-new j (omega (arith, more, past, below))))
              (subst (λ (r : Run). r.first + r.len ≤ run.first) (sym (at-old i old)) (sound.below i old))
