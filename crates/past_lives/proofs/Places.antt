-- Where the record of an event stands.
use Rattle.std.proofs.lemmas.Bool.Decides.{nat_tests}
use Rattle.std.proofs.Common.{◌≡◌, ℕ, zero, suc, ◌+◌, ◌-◌, ◌≤◌, cond, Bool, List, [], ◌∷◌, Some, None, slice_get, arith}
use Rattle.std.proofs.lemmas.Option.{same_Some}
use Rattle.arn_base.specs.declared.records.Record.{Record}
use Rattle.acts_model.specs.Records.{is_event}
use Rattle.history_index.specs.Lookups.{if_kept, places_from}
use Rattle.history_model.specs.Events.{events}

abbrev no_places : List ℕ
no_places = []

nothing : (n x : ℕ) → slice_get no_places n ≡ Some x → ⊥
nothing zero x e = cc
nothing (suc n) x e = cc

-- an event that has a place stands there
pub stands-there : (entries : List Record) (base n p : ℕ) → slice_get (places_from base entries) n ≡ Some p → (base ≤ p) × (slice_get entries (p - base) ≡ slice_get (events entries) n)
stands-there [] base n p is = absurd (nothing n p is)
stands-there (e ∷ entries) base n p is = by_test (is_event e) n is (λ j. stands-there entries (base + 1) j p)
  where
    further : (j : ℕ) → base + 1 ≤ p → slice_get entries (p - (base + 1)) ≡ slice_get (events entries) j → slice_get (e ∷ entries) (p - base) ≡ slice_get (events entries) j
    further j h1 h2 = grind (arith, nat_tests)

    by_test : (b : Bool) (n : ℕ) → slice_get (if_kept b base (places_from (base + 1) entries)) n ≡ Some p
        → ((j : ℕ) → slice_get (places_from (base + 1) entries) j ≡ Some p → (base + 1 ≤ p) × (slice_get entries (p - (base + 1)) ≡ slice_get (events entries) j))
        → (base ≤ p) × (slice_get (e ∷ entries) (p - base) ≡ slice_get (cond b (e ∷ events entries) (events entries)) n)
    by_test b n h1 h2 = grind (arith, nat_tests, same_Some, further)

-- and one that has none isn't there
pub nowhere : (entries : List Record) (base n : ℕ) → slice_get (places_from base entries) n ≡ None → slice_get (events entries) n ≡ None
nowhere [] base n is = empty n
  where
    empty : (n : ℕ) → slice_get (events []) n ≡ None
    empty n = grind (arith, nat_tests)
nowhere (e ∷ entries) base n is = by_test (is_event e) n is (λ j. nowhere entries (base + 1) j)
  where
    by_test : (b : Bool) (n : ℕ) → slice_get (if_kept b base (places_from (base + 1) entries)) n ≡ None → ((j : ℕ) → slice_get (places_from (base + 1) entries) j ≡ None → slice_get (events entries) j ≡ None)
        → slice_get (cond b (e ∷ events entries) (events entries)) n ≡ None
    by_test b n h1 h2 = grind (arith, nat_tests)
