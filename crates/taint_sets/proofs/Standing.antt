-- What numbers stand for.
use Rattle.std.proofs.Common.{◌≡◌, ◌↔◌, ℕ, zero, suc, ◌+◌, ◌^◌, ◌<◌, ◌≤◌, nat_lt, Bool, true, false, if◌then◌else◌, List, [], ◌∷◌, ◌++◌, length, slice_get, slice_index_or, Option, Some, None, is_some, option_map, unwrap_or, Result, Ok, Err, IfOk, refl, sym, ap, subst, ◌∙◌, arith}
use Rattle.std.proofs.lemmas.Bool.{lt-ltb, le-ltb, ltb-true, ltb-false}
use Rattle.std.proofs.lemmas.Option.{get_or_from_slice_get, slice_get-get_or, slice_get_within}
use Rattle.set_store.specs.declared.item.Item.{Item}
use Rattle.arn_base.specs.declared.errors.NoMemory.{NoMemory}
use Rattle.set_store.specs.Sets as stored
use Rattle.set_store.specs.Sets.{IsUnionOf}
use Rattle.taint_sets.specs.declared.run.Run.{Run}
use Rattle.taint_sets.specs.Runs.{item_among}
use Rattle.taint_sets.specs.Numbered.{AreReceivedFrom, IsItem, IsSet, Numbered, StandAsBefore, alone, first_received, members_of, set_at}
use Rattle.taint_sets.specs.Sound.{IsSound}
use Rattle.taint_sets.proofs.Places.{among-kept, among-past, among-push, has-it}

some-of : {X : Type 0} (o : Option X) → is_some o ≡ true → (x : X) × (o ≡ Some x)
some-of None e = absurd (cc)
some-of (Some x) e = (x, refl)

-- a number that stands for these
pub set-from : (sets : Numbered) (number : ℕ) (members : List Item) → set_at sets number ≡ Some members → IsSet sets number × (members_of sets number ≡ members)
unfolding IsSet members_of
set-from sets number members e = (ap (λ (o : Option (List Item)). is_some o) e, ap (λ (o : Option (List Item)). unwrap_or o []) e)

pub from-set : (sets : Numbered) (number : ℕ) → IsSet sets number → (members : List Item) × (set_at sets number ≡ Some members)
unfolding IsSet
from-set sets number is = some-of (set_at sets number) is

pub from-none : (sets : Numbered) (number : ℕ) → set_at sets number ≡ None → members_of sets number ≡ []
unfolding members_of
from-none sets number e = ap (λ (o : Option (List Item)). unwrap_or o []) e

pub kept-at : (sets : Numbered) (number : ℕ) → number < first_received → set_at sets number ≡ slice_get sets.kept number
kept-at sets number h = ap (λ (t : Bool). if t then slice_get sets.kept number else option_map alone (item_among sets.runs number)) (lt-ltb number first_received h)

pub received-at : (sets : Numbered) (number : ℕ) → first_received ≤ number → set_at sets number ≡ option_map alone (item_among sets.runs number)
received-at sets number h = ap (λ (t : Bool). if t then slice_get sets.kept number else option_map alone (item_among sets.runs number)) (le-ltb number first_received h)

-- a set that is kept
pub kept-set : (sets : Numbered) (number : ℕ) → number < first_received → stored.IsSet sets.kept number → IsSet sets number × (members_of sets number ≡ stored.members_of sets.kept number)
kept-set sets number small there = set-from sets number (slice_index_or sets.kept number []) (kept-at sets number small ∙ slice_get-get_or sets.kept number [] there)

-- and the other way round
pub set-kept : (sets : Numbered) (number : ℕ) → number < first_received → IsSet sets number → stored.IsSet sets.kept number
set-kept sets number small is =
    let at = from-set sets number is in
    slice_get_within sets.kept number at.0 (sym (kept-at sets number small) ∙ at.1)

pub kept-members : (sets : Numbered) (number : ℕ) → number < first_received → members_of sets number ≡ stored.members_of sets.kept number
kept-members sets number small = by (slice_get sets.kept number) refl
  where
    past : (xs : List (List Item)) (k : ℕ) → slice_get xs k ≡ None → slice_index_or xs k [] ≡ []
    past [] k e = refl
    past (x ∷ xs) zero e = absurd (cc)
    past (x ∷ xs) (suc k) e = past xs k e

    by : (o : Option (List Item)) → slice_get sets.kept number ≡ o → members_of sets number ≡ stored.members_of sets.kept number
    by (Some members) e =
        (set-from sets number members (kept-at sets number small ∙ e)).1 ∙ sym (get_or_from_slice_get sets.kept number members [] e)
    by None e = from-none sets number (kept-at sets number small ∙ e) ∙ sym (past sets.kept number e)

-- the number of a set in 32 bits
pub narrowed-set : (r : Result ℕ NoMemory) (sets : Numbered) (set : ℕ) → stored.IsSet sets.kept set → IfOk r (λ number. (number ≡ set) × (number < first_received)) → IfOk r (IsSet sets)
narrowed-set (Ok number) sets set there is = (kept-set sets number is.1 (subst (stored.IsSet sets.kept) (sym is.0) there)).0
narrowed-set (Err e) sets set there is = is

pub narrowed-union : (r : Result ℕ NoMemory) (sets : Numbered) (set : ℕ) (first second : List Item) → stored.IsSet sets.kept set → IsUnionOf (stored.members_of sets.kept set) first second
    → IfOk r (λ number. (number ≡ set) × (number < first_received)) → IfOk r (λ number. IsUnionOf (members_of sets number) first second)
narrowed-union (Ok number) sets set first second there union is =
    let same = (kept-set sets number is.1 (subst (stored.IsSet sets.kept) (sym is.0) there)).1 ∙ ap (stored.members_of sets.kept) is.0 in
    subst (λ l. IsUnionOf l first second) (sym same) union
narrowed-union (Err e) sets set first second there union is = is

-- a received byte
pub received-members : (sets : Numbered) (number : ℕ) (item : Item) → first_received ≤ number → item_among sets.runs number ≡ Some item → IsSet sets number × (members_of sets number ≡ item ∷ [])
received-members sets number item large is = set-from sets number (item ∷ []) (received-at sets number large ∙ ap (option_map alone) is)

pub received-none : (sets : Numbered) (number : ℕ) → first_received ≤ number → item_among sets.runs number ≡ None → members_of sets number ≡ []
received-none sets number large is = from-none sets number (received-at sets number large ∙ ap (option_map alone) is)

pub received-item : (sets : Numbered) (number : ℕ) → first_received ≤ number → IsSet sets number → (item : Item) × (item_among sets.runs number ≡ Some item)
received-item sets number large is = by (item_among sets.runs number) refl
  where
    none : set_at sets number ≡ None → ⊥
    none e = let at = from-set sets number is in differ at.0 (sym at.1 ∙ e)
      where
        differ : (members : List Item) → Some members ≡ None → ⊥
        differ members e = cc

    by : (o : Option Item) → item_among sets.runs number ≡ o → (item : Item) × (item_among sets.runs number ≡ Some item)
    by (Some item) e = (item, e)
    by None e = absurd (none (received-at sets number large ∙ ap (option_map alone) e))

-- sets stand where each number stands for the same
stands : (old new : Numbered) → ((number : ℕ) (members : List Item) → set_at old number ≡ Some members → set_at new number ≡ Some members) → StandAsBefore old new
stands old new keeps = record {
  there = λ number is. let at = from-set old number is in (set-from new number at.0 (keeps number at.0 at.1)).0;
  same = λ number is. let at = from-set old number is in (set-from new number at.0 (keeps number at.0 at.1)).1 ∙ sym (set-from old number at.0 at.1).1;
}

pub stand-trans : (old mid new : Numbered) → StandAsBefore old mid → StandAsBefore mid new → StandAsBefore old new
stand-trans old mid new a b = record { there = λ set h. b.there set (a.there set h); same = λ set h. b.same set (a.there set h) ∙ a.same set h }

-- more sets are kept
pub kept-grown : (old new : List (List Item)) (runs : List Run) → stored.StandAsBefore old new → StandAsBefore (record { kept = old; runs = runs }) (record { kept = new; runs = runs })
kept-grown old new runs stand = stands before after keeps
  where
    before : Numbered
    before = record { kept = old; runs = runs }

    after : Numbered
    after = record { kept = new; runs = runs }

    grown : (number : ℕ) (members : List Item) → slice_get old number ≡ Some members → slice_get new number ≡ Some members
    grown number members e =
        let inside = slice_get_within old number members e in
        slice_get-get_or new number [] (stand.there number inside) ∙ ap (λ (l : List Item). Some l) (stand.same number inside ∙ get_or_from_slice_get old number members [] e)

    keeps : (number : ℕ) (members : List Item) → set_at before number ≡ Some members → set_at after number ≡ Some members
    keeps number members e = by (nat_lt number first_received) refl
      where
        by : (b : Bool) → nat_lt number first_received ≡ b → set_at after number ≡ Some members
        by true t = let small = ltb-true number first_received t in kept-at after number small ∙ grown number members (sym (kept-at before number small) ∙ e)
        by false t = let large = ltb-false number first_received t in received-at after number large ∙ (sym (received-at before number large) ∙ e)

-- more bytes are received
pub runs-grown : (kept : List (List Item)) (runs : List Run) (run : Run) → StandAsBefore (record { kept = kept; runs = runs }) (record { kept = kept; runs = runs ++ run ∷ [] })
runs-grown kept runs run = stands before after keeps
  where
    before : Numbered
    before = record { kept = kept; runs = runs }

    after : Numbered
    after = record { kept = kept; runs = runs ++ run ∷ [] }

    grown : (number : ℕ) (members : List Item) (o : Option Item) → item_among runs number ≡ o → option_map alone o ≡ Some members → option_map alone (item_among (runs ++ run ∷ []) number) ≡ Some members
    grown number members None e h = absurd (cc)
    grown number members (Some item) e h = ap (option_map alone) (among-kept runs run number item e) ∙ h

    keeps : (number : ℕ) (members : List Item) → set_at before number ≡ Some members → set_at after number ≡ Some members
    keeps number members e = by (nat_lt number first_received) refl
      where
        by : (b : Bool) → nat_lt number first_received ≡ b → set_at after number ≡ Some members
        by true t = let small = ltb-true number first_received t in kept-at after number small ∙ (sym (kept-at before number small) ∙ e)
        by false t =
            let large = ltb-false number first_received t in
            received-at after number large ∙ grown number members (item_among runs number) refl (sym (received-at before number large) ∙ e)

-- the bytes of a run that is behind all others
pub run-received : (kept : List (List Item)) (runs : List Run) (run : Run) → IsSound runs run.first → run.first + run.len ≤ 2 ^ 32 → AreReceivedFrom (record { kept = kept; runs = runs ++ run ∷ [] }) run.event run.at run.len run.first
run-received kept runs run sound fits = record { received = sound.received; fits = fits; items = items }
  where
    items : (k : ℕ) → k < run.len → IsItem (record { kept = kept; runs = runs ++ run ∷ [] }) run.event (run.at + k) (run.first + k)
    items k below =
        let above = sound.received in
        let large : first_received ≤ run.first + k = omega (arith, above) in
        let among = among-push runs run (run.first + k) (among-past runs run.first (run.first + k) sound (omega arith)) ∙ has-it run k below in
        let is = received-members (record { kept = kept; runs = runs ++ run ∷ [] }) (run.first + k) (record { event = run.event; at = run.at + k }) large among in
        record { there = is.0; members = is.1 }

-- the empty set alone
abbrev pub first_sets : Numbered
first_sets = record { kept = [] ∷ []; runs = [] }

zero-at : set_at first_sets 0 ≡ Some []
zero-at = refl

nothing-received : (number : ℕ) → (item : Item) × (item_among [] number ≡ Some item) → ⊥
unfolding item_among
nothing-received number found = differ found.0 found.1
  where
    differ : (item : Item) → None ≡ Some item → ⊥
    differ item e = cc

pub alone-at : (number : ℕ) → IsSet first_sets number ↔ (number ≡ 0)
alone-at number = (only, λ e. subst (IsSet first_sets) (sym e) (set-from first_sets 0 [] zero-at).0)
  where
    one : number < length first_sets.kept → number ≡ 0
    one h = omega arith

    only : IsSet first_sets number → number ≡ 0
    only is = by (nat_lt number first_received) refl
      where
        by : (b : Bool) → nat_lt number first_received ≡ b → number ≡ 0
        by true t = one (set-kept first_sets number (ltb-true number first_received t) is)
        by false t = absurd (nothing-received number (received-item first_sets number (ltb-false number first_received t) is))

pub alone-empty : members_of first_sets 0 ≡ []
alone-empty = (set-from first_sets 0 [] zero-at).1
