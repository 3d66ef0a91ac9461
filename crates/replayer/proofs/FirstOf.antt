-- How a group begins, found from records on.
use Rattle.std.proofs.lemmas.Bool.Decides.{nat_tests}
use Rattle.std.proofs.Common.{◌≡◌, ℕ, suc, ◌+◌, nat_le, Bool, true, false, if◌then◌else◌, cond, List, [], ◌∷◌, Option, Some, None, option_map, slice_get, refl, ap, sym, ◌∙◌, add-zero, arith}
use Rattle.std.specs.List.{position_from}
use Rattle.std.proofs.lemmas.Iterator.Adapters.{position_from-zero}
use Rattle.arn_base.specs.declared.records.Record.{Record}
use Rattle.arn_base.specs.declared.records.Record.TheVariants as entry
use Rattle.history_index.specs.Lookups.{events_in, founding_event, founds, moments_from}
use Rattle.history_model.specs.Alone.{Made, Makes, nothing_own}
use Rattle.history_model.specs.Events.{events}
use Rattle.history_model.specs.Moments.{ran_in}
use Rattle.replayer.specs.BySlices.{first_made, first_made_if, first_of}

-- what the event makes that begins the group, of those behind so many events and instructions
abbrev pub found_from : ℕ → ℕ → ℕ → ℕ → List Record → Made
found_from g until event moment [] = Makes nothing_own
found_from g until event moment (e ∷ entries) =
    if founds g e then (if nat_le moment until then first_made g event e else Makes nothing_own) else found_from g until (event + events_in e) (moment + ran_in e) entries

-- it is at this place of these
abbrev found_at : ℕ → ℕ → ℕ → Option ℕ → List ℕ → List Record → Made
found_at g until event None moments es = Makes nothing_own
found_at g until event (Some k) moments es = first_made_if g until (event + k) (slice_get moments k) (slice_get es k)

suc-if : (c : Bool) (i : ℕ) (o : Option ℕ) → cond c (Some (suc i)) (option_map suc o) ≡ option_map suc (cond c (Some i) o)
suc-if true i o = refl
suc-if false i o = refl

position-suc : (t : Record → Bool) (i : ℕ) (xs : List Record) → position_from t (suc i) xs ≡ option_map suc (position_from t i xs)
position-suc t i [] = refl
position-suc t i (x ∷ xs) = grind (arith, nat_tests, position-suc t (i + 1) xs, suc-if (t x) i (position_from t (i + 1) xs))

module _ (g until : ℕ) where
  later : (event : ℕ) (o : Option ℕ) (m : ℕ) (ms : List ℕ) (e : Record) (es : List Record) → found_at g until (event + 1) o ms es ≡ found_at g until event (option_map suc o) (m ∷ ms) (e ∷ es)
  later event None m ms e es = refl
  later event (Some k) m ms e es =
      let same : event + 1 + k ≡ event + suc k = omega arith in ap (λ (n : ℕ). first_made_if g until n (slice_get ms k) (slice_get es k)) same

  -- an event, where the rest is found
  step : (c : Bool) (event moment : ℕ) (e : Record) (ms : List ℕ) (es : List Record) (rest : Made) → rest ≡ found_at g until (event + 1) (position_from (founds g) 0 es) ms es
      → (if c then (if nat_le moment until then first_made g event e else Makes nothing_own) else rest) ≡ found_at g until event (cond c (Some 0) (position_from (founds g) 1 es)) (moment ∷ ms) (e ∷ es)
  step c event moment e ms es rest h1 = grind (arith, nat_tests, add-zero, later, position-suc)

  plain : (begins event moment : ℕ) (e : Record) (entries : List Record) → found_from g until (event + 1) (moment + 0) entries ≡ found_at g until (event + 1) (position_from (founds g) 0 (events entries)) (moments_from begins (moment + 0) entries) (events entries)
      → (if founds g e then (if nat_le moment until then first_made g event e else Makes nothing_own) else found_from g until (event + 1) (moment + 0) entries) ≡ found_at g until event (cond (founds g e) (Some 0) (position_from (founds g) 1 (events entries))) (moment ∷ moments_from begins (moment + 0) entries) (e ∷ events entries)
  plain begins event moment e entries is = step (founds g e) event moment e (moments_from begins (moment + 0) entries) (events entries) (found_from g until (event + 1) (moment + 0) entries) is

  link : (begins event moment : ℕ) (entries : List Record) → found_from g until event moment entries ≡ found_at g until event (position_from (founds g) 0 (events entries)) (moments_from begins moment entries) (events entries)
  link begins event moment [] = refl
  link begins event moment (entry.Slice pid ran ∷ entries) = grind (arith, nat_tests, add-zero event, link moment event (moment + ran) entries)
  link begins event moment (entry.Signal pid signal cut handler ∷ entries) = grind (arith, nat_tests, add-zero moment, link begins (event + 1) moment entries, later event (position_from (founds g) 0 (events entries)) begins (moments_from begins moment entries) (entry.Signal pid signal cut handler) (events entries), position-suc (founds g) 0 (events entries))
  link begins event moment (e ∷ entries) = plain begins event moment e entries (link begins (event + 1) (moment + 0) entries)

  pub found-first : (entries : List Record) → found_from g until 0 0 entries ≡ first_of g until entries (founding_event entries g)
  found-first entries = link 0 0 0 entries ∙ (by (position_from (founds g) 0 (events entries)) ∙ ap (first_of g until entries) (sym (position_from-zero (founds g) (events entries))))
    where
      by : (o : Option ℕ) → found_at g until 0 o (moments_from 0 0 entries) (events entries) ≡ first_of g until entries o
      by o = grind (arith, nat_tests)
