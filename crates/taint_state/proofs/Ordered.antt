-- Events by rising numbers: what a search finds, and what one event more makes of them.
use Rattle.std.proofs.Common.{◌≡◌, ◌≢◌, ℕ, zero, suc, ◌+◌, ◌-◌, ◌<◌, ◌≤◌, ◌==◌, cond, List, [], ◌∷◌, length, slice_index_or, slice_set, Some, None, Result, Ok, Err, IfOk, IfErr, refl, sym, subst, ap, ◌∙◌, ne_eqb, arith}
use Rattle.std.specs.List.{insert}
use Rattle.std.specs.List.Sorted.{IsBinarySearchResult, IsNonDecreasingBy, IsSearchInRange}
use Rattle.std.specs.Ordering.{nat_cmp, ordering_index}
use Rattle.std.proofs.lemmas.Bool.{eq-eqb}
use Rattle.std.proofs.lemmas.Bool.Decides.{nat_tests}
use Rattle.std.proofs.lemmas.Cmp.{ranked}
use Rattle.std.proofs.lemmas.Grind.{common_steps}
use Rattle.std.proofs.lemmas.List.Edits.{get_or-insert_above, get_or-insert_at, get_or-insert_below, length-insert}
use Rattle.std.proofs.lemmas.List.Sorted.{IsNonDecreasingBy-from_default}
use Rattle.taint_state.specs.declared.heard.HeardEvent.{HeardEvent}
use Rattle.taint_state.specs.Events.{Hears}
use Rattle.taint_state.specs.Heard.{AreInOrder, IsGapFor, IsPlaceOf, event_at, heard_in, kept_heard}
use Rattle.taint_state.specs.Kept.{KeptHeard, heard_among}

abbrev pub none_heard : HeardEvent
none_heard = record { event = 0; moved = None }

-- no event before a place has the number
abbrev IsUnheardBefore : List HeardEvent → ℕ → ℕ → Type 0
IsUnheardBefore events event place = (i : ℕ) → i < place → event_at events i ≢ event

unheard-rest : (first : HeardEvent) (events : List HeardEvent) (event place : ℕ) → IsUnheardBefore (first ∷ events) event (suc place) → IsUnheardBefore events event place
unheard-rest first events event place unheard i below = unheard (suc i) (omega arith)

-- the first of another number isn't found
passed : (first : HeardEvent) (more : List KeptHeard) (event : ℕ) → first.event ≢ event → heard_among (kept_heard first ∷ more) event ≡ heard_among more event
passed first more event ne = ap (λ b. cond b (Some (kept_heard first)) (heard_among more event)) (ne_eqb first.event event ne)

-- that of the number is
met : (first : HeardEvent) (more : List KeptHeard) (event : ℕ) → first.event ≡ event → heard_among (kept_heard first ∷ more) event ≡ Some (kept_heard first)
met first more event same = ap (λ b. cond b (Some (kept_heard first)) (heard_among more event)) (eq-eqb first.event event same)

-- a number that no event has isn't found
unheard : (events : List HeardEvent) (event : ℕ) → IsUnheardBefore events event (length events) → heard_among (heard_in events) event ≡ None
unheard [] event none = refl
unheard (first ∷ events) event none =
    passed first (heard_in events) event (none 0 (omega arith)) ∙ unheard events event (unheard-rest first events event (length events) none)

-- the first of the number is found
heard-at : (events : List HeardEvent) (event place : ℕ) → IsPlaceOf events event place → IsUnheardBefore events event place
    → heard_among (heard_in events) event ≡ Some (kept_heard (slice_index_or events place none_heard))
heard-at [] event place is none = absurd (let there = is.there in omega arith)
heard-at (first ∷ events) event zero is none = met first (heard_in events) event is.is
heard-at (first ∷ events) event (suc place) is none =
    passed first (heard_in events) event (none 0 (omega arith))
    ∙ heard-at events event place (record { there = (let there = is.there in omega arith); is = is.is }) (unheard-rest first events event place none)

-- events among which one is heard
abbrev HearsAmong : HeardEvent → List HeardEvent → List HeardEvent → Type 0
HearsAmong heard old new = (q : ℕ) → heard_among (heard_in new) q ≡ cond (heard.event == q) (Some (kept_heard heard)) (heard_among (heard_in old) q)

hears-from : (heard : HeardEvent) (old new : List HeardEvent) → HearsAmong heard old new → Hears (kept_heard heard) (heard_in old) (heard_in new)
hears-from heard old new among = record {
  found = among heard.event ∙ ap (λ b. cond b (Some (kept_heard heard)) (heard_among (heard_in old) heard.event)) (eq-eqb heard.event heard.event refl);
  others = λ q ne. among q ∙ ap (λ b. cond b (Some (kept_heard heard)) (heard_among (heard_in old) q)) (ne_eqb heard.event q (λ same. ne (sym same)));
}

-- one put in the place of the first of its number
set-among : (events : List HeardEvent) (heard : HeardEvent) (place : ℕ) → IsPlaceOf events heard.event place → IsUnheardBefore events heard.event place → HearsAmong heard events (slice_set events place heard)
set-among [] heard place is none q = absurd (let there = is.there in omega arith)
set-among (first ∷ events) heard zero is none q =
    let same : first.event ≡ heard.event = is.is in
    grind (arith, nat_tests, same)
set-among (first ∷ events) heard (suc place) is none q =
    let apart : first.event ≢ heard.event = none 0 (omega arith) in
    let rest = set-among events heard place (record { there = (let there = is.there in omega arith); is = is.is }) (unheard-rest first events heard.event place none) q in
    grind (arith, nat_tests, apart, rest)

-- one put before all of its number
insert-among : (events : List HeardEvent) (heard : HeardEvent) (place : ℕ) → IsUnheardBefore events heard.event place → HearsAmong heard events (insert events place heard)
insert-among events heard zero none q = refl
insert-among [] heard (suc place) none q = refl
insert-among (first ∷ events) heard (suc place) none q =
    let apart : first.event ≢ heard.event = none 0 (omega arith) in
    let rest = insert-among events heard place (unheard-rest first events heard.event place none) q in
    grind (arith, nat_tests, apart, rest)

-- where a search among rising numbers ends
pub record Ends (events : List HeardEvent) (event : ℕ) (r : Result ℕ ℕ) : Type 0 where
  pub found : IfOk r (IsPlaceOf events event)
  pub missing : IfErr r (IsGapFor events event)

module _ (events : List HeardEvent) (rise : AreInOrder events) (event : ℕ) where
  never-falls : IsNonDecreasingBy (λ (heard : HeardEvent). ordering_index (nat_cmp heard.event event)) events
  never-falls = IsNonDecreasingBy-from_default (λ (heard : HeardEvent). ordering_index (nat_cmp heard.event event)) events none_heard (λ i j le there.
      let rises : event_at events i ≤ event_at events j = grind (arith, rise i j, λ (same : i ≡ j). ap (event_at events) same) in
      grind (arith, nat_tests))

  pub searched : (r : Result ℕ ℕ) → IsSearchInRange r (length events) → IsBinarySearchResult (λ (heard : HeardEvent). nat_cmp heard.event event) events r → Ends events event r
  searched (Ok place) bound equal = record { found = record { there = bound; is = ranked _ event _ (sym (equal none_heard)) }; missing = tt }
  searched (Err place) bound parted = record {
    found = tt;
    missing = record {
      there = bound;
      before = λ i below. ranked _ event _ (sym ((parted never-falls).0 i none_heard (omega arith) below));
      behind = λ i from there. ranked _ event _ (sym ((parted never-falls).1 i none_heard from there));
    };
  }

-- the event of a number is at its place
module _ (events : List HeardEvent) (rise : AreInOrder events) (event place : ℕ) (is : IsPlaceOf events event place) where
  first-there : IsUnheardBefore events event place
  first-there i below same = omega (arith, rise i place below is.there, is.is)

  pub found-there : heard_among (heard_in events) event ≡ Some (kept_heard (slice_index_or events place none_heard))
  found-there = heard-at events event place is first-there

-- another in its place
module _ (events : List HeardEvent) (rise : AreInOrder events) (heard : HeardEvent) (place : ℕ) (is : IsPlaceOf events heard.event place) where
  pub set-hears : Hears (kept_heard heard) (heard_in events) (heard_in (slice_set events place heard))
  set-hears = hears-from heard events (slice_set events place heard) (set-among events heard place is (first-there events rise heard.event place is))

  pub set-in-order : AreInOrder (slice_set events place heard)
  set-in-order i j below there = grind (arith, common_steps, rise i j, rise i place, rise place j, is.there, is.is)

-- and where there is none
module _ (events : List HeardEvent) (event place : ℕ) (gap : IsGapFor events event place) where
  pub found-nowhere : heard_among (heard_in events) event ≡ None
  found-nowhere = unheard events event (λ i below same. grind (arith, gap.before i, gap.behind i))

module _ (events : List HeardEvent) (heard : HeardEvent) (place : ℕ) (gap : IsGapFor events heard.event place) where
  pub insert-hears : Hears (kept_heard heard) (heard_in events) (heard_in (insert events place heard))
  insert-hears = hears-from heard events (insert events place heard) (insert-among events heard place (λ i below same. omega (arith, gap.before i below)))

  pub insert-in-order : AreInOrder events → AreInOrder (insert events place heard)
  insert-in-order rise i j below there =
      let new = insert events place heard in
      let number = λ (h : HeardEvent). h.event in
      let longer = length-insert events place heard gap.there in
      let before : (i : ℕ) → i < place → event_at new i ≡ event_at events i = λ i low. ap number (get_or-insert_below events place heard none_heard i low gap.there) in
      let here : (i : ℕ) → i ≡ place → event_at new i ≡ heard.event = λ i same. rw same (ap number (get_or-insert_at events place heard none_heard gap.there)) in
      let behind : (i : ℕ) → place < i → event_at new i ≡ event_at events (i - 1) = λ i high.
      subst (λ k. event_at new k ≡ event_at events (i - 1)) {x = i - 1 + 1} (omega arith) (ap number (get_or-insert_above events place heard none_heard (i - 1) (omega arith) gap.there)) in
      grind (arith, before i, here i, behind i, before j, here j, behind j, rise i j, rise i (j - 1), rise (i - 1) (j - 1), gap.before i, gap.behind (j - 1))
