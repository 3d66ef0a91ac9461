-- Received bytes that follow each other in a run.
use Rattle.std.proofs.Common.{◌≡◌, ◌≢◌, ◌↔◌, ℕ, zero, suc, slice_index_or, ◌+◌, ◌-◌, ◌<◌, ◌≤◌, nat_lt, Bool, true, false, if◌then◌else◌, List, [], ◌∷◌, length, Some, None, Contains, refl, sym, ap, subst, ◌∙◌, arith}
use Rattle.std.proofs.lemmas.Bool.Decides.{nat_tests}
use Rattle.std.proofs.lemmas.Bool.{ltb-true, ltb-false}
use Rattle.set_store.specs.declared.item.Item.{Item}
use Rattle.set_store.specs.Sets as stored
use Rattle.set_store.specs.Sets.{IsNear}
use Rattle.taint_sets.specs.declared.run.Run.{Run}
use Rattle.taint_sets.specs.Numbered.{IsRowOf, Numbered, first_received, members_of}
use Rattle.taint_sets.specs.Runs.{AreInOrder, byte_behind, has, item_among, item_in, run_at}
use Rattle.taint_sets.proofs.Places.{among-at, before-run, behind-run}
use Rattle.taint_sets.proofs.Standing.{kept-members, received-members}

has-least : (run : Run) (number : ℕ) → has run number ≡ true → run.first ≤ number
has-least run number h1 = grind (arith, nat_tests)

has-below : (run : Run) (number : ℕ) → has run number ≡ true → number < run.first + run.len
has-below run number h1 = grind (arith, nat_tests)

has-more : (run : Run) (number k : ℕ) → has run number ≡ true → k < run.len - (number - run.first) → has run (number + k) ≡ true
has-more run number k h1 h2 = grind (arith, nat_tests)

-- a run that has a number is the only one
among-run : (runs : List Run) (place number : ℕ) → AreInOrder runs → place < length runs → has (run_at runs place) number ≡ true → item_among runs number ≡ item_in (run_at runs place) number
among-run runs place number order inside is = among-at runs number place inside others
  where
    least : (run_at runs place).first ≤ number
    least = has-least (run_at runs place) number is

    below : number < (run_at runs place).first + (run_at runs place).len
    below = has-below (run_at runs place) number is

    others : (i : ℕ) → i < length runs → i ≢ place → has (run_at runs i) number ≡ false
    others i there apart = by (nat_lt i place) refl
      where
        by : (b : Bool) → nat_lt i place ≡ b → has (run_at runs i) number ≡ false
        by true e = let ends = order.rise i place (ltb-true i place e) inside in behind-run (run_at runs i) number (omega (arith, ends, least))
        by false e =
            let past = ltb-false i place e in
            let ends = order.rise place i (omega (arith, past, apart)) there in
            before-run (run_at runs i) number (omega (arith, ends, below))

in-run : (run : Run) (number : ℕ) (item : Item) → item_in run number ≡ Some item → (has run number ≡ true) × (item ≡ record { event = run.event; at = run.at + (number - run.first) })
in-run run number item e = by (has run number) refl
  where
    at : (b : Bool) → has run number ≡ b → item_in run number ≡ (if b then Some (record { event = run.event; at = run.at + (number - run.first) }) else None)
    at b t = ap (λ (c : Bool). if c then Some (record { event = run.event; at = run.at + (number - run.first) }) else None) t

    by : (b : Bool) → has run number ≡ b → (has run number ≡ true) × (item ≡ record { event = run.event; at = run.at + (number - run.first) })
    by true t = let same : Some item ≡ Some (record { event = run.event; at = run.at + (number - run.first) }) = sym e ∙ at true t in (t, cc)
    by false t = let clash : Some item ≡ None = sym e ∙ at false t in cc

-- the bytes behind one in its run
pub stretch-at : (runs : List Run) (number count k : ℕ) (item : Item) → AreInOrder runs → 0 < count → count ≤ length runs → item_in (run_at runs (count - 1)) number ≡ Some item
    → k < (run_at runs (count - 1)).len - (number - (run_at runs (count - 1)).first) → item_among runs (number + k) ≡ Some (byte_behind item k)
stretch-at runs number count k item order some most e below =
    let run = run_at runs (count - 1) in
    let is = in-run run number item e in
    let more = has-more run number k is.0 below in
    let least = has-least run number is.0 in
    let same : run.at + (number + k - run.first) ≡ run.at + (number - run.first) + k = omega arith in
    among-run runs (count - 1) (number + k) order (omega (arith, some, most)) more
    ∙ (ap (λ (c : Bool). if c then Some (record { event = run.event; at = run.at + (number + k - run.first) }) else None) more
    ∙ (ap (λ (n : ℕ). Some (record { event = run.event; at = n })) same ∙ ap (λ i. Some (byte_behind i k)) (sym is.1)))

only : (x y : Item) → Contains (x ∷ []) y → x ≡ y
only x y c = by c.0 c.1 c.2
  where
    by : (k : ℕ) → k < 1 → slice_index_or (x ∷ []) k y ≡ y → x ≡ y
    by zero h e = e
    by (suc k) h e = absurd (omega arith)

-- the bytes of a row by number
pub row-members : (old after : Numbered) (first count set : ℕ) (item : Item) → first_received ≤ first → set < first_received → ((k : ℕ) → k < count → item_among old.runs (first + k) ≡ Some (byte_behind item k))
    → ((x : Item) → Contains (stored.members_of after.kept set) x ↔ IsNear item count x) → IsRowOf old first count (members_of after set)
row-members old after first count set item large small among near x = (to, from)
  where
    byte : (k : ℕ) → k < count → members_of old (first + k) ≡ byte_behind item k ∷ []
    byte k h = (received-members old (first + k) (byte_behind item k) (omega arith) (among k h)).1

    to : Contains (members_of after set) x → (k : ℕ) × (k < count) × Contains (members_of old (first + k)) x
    to c =
        let is = (near x).0 (subst (λ l. Contains l x) (kept-members after set small) c) in
        let least = is.least in
        let below = is.below in
        let k = x.at - item.at in
        let less : x.at - item.at < count = omega arith in
        let at : item.at + (x.at - item.at) ≡ x.at = omega arith in
        let event = sym is.event in
        let same : byte_behind item (x.at - item.at) ≡ x = λ i. record { event = event i; at = at i } in
        (x.at - item.at, less, subst (λ l. Contains l x) (sym (byte (x.at - item.at) less)) (subst (Contains (byte_behind item (x.at - item.at) ∷ [])) same (0, omega arith, refl)))

    from : (k : ℕ) × (k < count) × Contains (members_of old (first + k)) x → Contains (members_of after set) x
    from found =
        let k = found.0 in
        let below = found.1 in
        let same = only (byte_behind item k) x (subst (λ l. Contains l x) (byte k below) found.2) in
        let at = ap (λ (i : Item). i.at) same in
        subst (λ l. Contains l x) (sym (kept-members after set small))
        ((near x).1 (record { event = sym (ap (λ (i : Item). i.event) same); least = omega (arith, at); below = omega (arith, at, below) }))
