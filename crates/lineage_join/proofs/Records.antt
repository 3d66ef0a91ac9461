-- Where the record of an event stands.
use Rattle.std.proofs.Common.{◌≡◌, ℕ, zero, suc, ◌+◌, ◌-◌, ◌≤◌, Bool, true, false, cond, List, [], ◌∷◌, Option, Some, slice_get, ap, sym, ◌∙◌, arith}
use Rattle.std.proofs.lemmas.Option.{none-some, same_Some}
use Rattle.arn_base.specs.declared.records.Record.{Record}
use Rattle.acts_model.specs.Records.{is_event}
use Rattle.history_index.specs.Lookups.{places_from, event_place}
use Rattle.history_model.specs.Events.{events, event_at}

-- the record at a place, which is numbered from one on
abbrev at_place : ℕ → List Record → ℕ → Option Record
at_place first entries place = slice_get entries (place - first)

found-from : (first : ℕ) (entries : List Record) (n place : ℕ) → slice_get (places_from first entries) n ≡ Some place → (first ≤ place) × (at_place first entries place ≡ slice_get (events entries) n)
found-from first [] n place h = absurd (none-some place h)
found-from first (e ∷ entries) n place h = by_test (is_event e) (λ m. found-from (first + 1) entries m place) n h
  where
    further : (m : ℕ) → (first + 1 ≤ place) × (at_place (first + 1) entries place ≡ slice_get (events entries) m) → (first ≤ place) × (at_place first (e ∷ entries) place ≡ slice_get (events entries) m)
    further m k = let low = k.0 in let next : place - first ≡ suc (place - (first + 1)) = omega arith in (omega arith, ap (slice_get (e ∷ entries)) next ∙ k.1)

    by_test : (b : Bool) → ((m : ℕ) → slice_get (places_from (first + 1) entries) m ≡ Some place → (first + 1 ≤ place) × (at_place (first + 1) entries place ≡ slice_get (events entries) m)) → (m : ℕ) → slice_get (cond b (first ∷ places_from (first + 1) entries) (places_from (first + 1) entries)) m ≡ Some place → (first ≤ place) × (at_place first (e ∷ entries) place ≡ slice_get (cond b (e ∷ events entries) (events entries)) m)
    by_test true later zero k = let same : first ≡ place = same_Some first place k in let none : place - first ≡ zero = omega arith in (omega arith, ap (slice_get (e ∷ entries)) none)
    by_test true later (suc m) k = further m (later m k)
    by_test false later m k = further m (later m k)

pub found : (entries : List Record) (n place : ℕ) → event_place entries n ≡ Some place → slice_get entries place ≡ event_at entries n
found entries n place h = let same : place - 0 ≡ place = omega arith in ap (slice_get entries) (sym same) ∙ (found-from 0 entries n place h).1
