-- What reaches a byte is the same however far one looks, if far enough.
use Rattle.std.proofs.Common.{◌≡◌, ◌⊎◌, inl, inr, ℕ, zero, suc, ◌<◌, ◌≤◌, Bool, true, false, List, [], ◌∷◌, ◌++◌, flat_map, Option, Some, None, refl, ap, ap₂, sym, ◌∙◌, arith, cond, All}
use Rattle.std.proofs.lemmas.List.Elements.{All-head, All-tail}
use Rattle.std.proofs.lemmas.Option.{slice_get_past}
use Rattle.arn_base.specs.declared.records.Record.{Record}
use Rattle.arn_base.specs.declared.records.Src.{Src}
use Rattle.acts_model.specs.Records.{event_len}
use Rattle.history_model.specs.Broken.{first_broken}
use Rattle.history_model.specs.Events.{events, event_at, how_many}
use Rattle.lineage_model.specs.Flow.{At, Byte}
use Rattle.lineage_model.specs.Joined.{Reaching, is_source, origin_of, from_origin, from_received, from_item_at, from_item, source_byte, from_event, reached}
use Rattle.lineage_model.specs.Tracking.{EventByte}
use Rattle.lineage_join.specs.Fits.{Precedes, Fits, AllFit}
use Rattle.lineage_join.specs.Laws.{reaches}
use Rattle.lineage_join.proofs.Earlier.{AreEarlier, earlier}

pub flat_map-fit : {A : Type 0} (P : A → Type 0) (f g : A → List EventByte) → ((x : A) → P x → f x ≡ g x) → (xs : List A) → All P xs → flat_map f xs ≡ flat_map g xs
flat_map-fit P f g same [] h = refl
flat_map-fit P f g same (x ∷ xs) h = ap₂ ◌++◌ (same x (All-head P x xs h)) (flat_map-fit P f g same xs (All-tail P x xs h))

le_or_lt : (n e : ℕ) → (n ≤ e) ⊎ (e < n)
le_or_lt zero e = inl (omega arith)
le_or_lt (suc n) zero = inr (omega arith)
le_or_lt (suc n) (suc e) = elim (le_or_lt n e) [ inl h ↦ inl (omega arith) | inr h ↦ inr (omega arith) ]

module _ (entries : List Record) (stands : first_broken entries ≡ None) where
  -- two ways of reaching agree below a number
  abbrev pub Agree : ℕ → Reaching → Reaching → Type 0
  Agree n a b = (e : ℕ) (at : At) → e < n → a e at ≡ b e at

  origin-agrees : (n m : ℕ) (e : Record) (k : ℕ) (a b : Reaching) → Agree n a b → AreEarlier m e → m ≤ n → (o : Option Src) → origin_of e k ≡ o → from_origin a o ≡ from_origin b o
  origin-agrees n m e k a b same early low None is = refl
  origin-agrees n m e k a b same early low (Some src) is = let below = early k src is in same src.event (Byte src.at) (omega arith)

  received-agrees : (n m k : ℕ) (a b : Reaching) → Agree n a b → m ≤ n → (o : Option Record) → event_at entries m ≡ o → from_received a m k o ≡ from_received b m k o
  received-agrees n m k a b same low None is = refl
  received-agrees n m k a b same low (Some e) is = by_test (is_source e)
    where
      by_test : (t : Bool) → cond t (record { event = m; at = Byte k } ∷ []) (from_origin a (origin_of e k)) ≡ cond t (record { event = m; at = Byte k } ∷ []) (from_origin b (origin_of e k))
      by_test true = refl
      by_test false = origin-agrees n m e k a b same (earlier entries stands m e is) low (origin_of e k) refl

  item-agrees : (n m : ℕ) (at : At) (a b : Reaching) → Agree n a b → Precedes m at n → from_item_at (event_at entries) a m at ≡ from_item_at (event_at entries) b m at
  item-agrees n m (Byte k) a b same low = received-agrees n m k a b same low (event_at entries m) refl
  item-agrees n m e a b same low = same m e low

  event-agrees : (n : ℕ) (at : At) (a b : Reaching) → Agree n a b → (items : List EventByte) → All (Fits entries n) items → (o : Option Record) → from_event (event_at entries) a n at items o ≡ from_event (event_at entries) b n at items o
  event-agrees n at a b same items fit None = refl
  event-agrees n at a b same items fit (Some e) = by_test (is_source e)
    where
      by_test : (t : Bool) → cond t (source_byte n (event_len e) at) (flat_map (from_item (event_at entries) a) items) ≡ cond t (source_byte n (event_len e) at) (flat_map (from_item (event_at entries) b) items)
      by_test true = refl
      by_test false = flat_map-fit (Fits entries n) (from_item (event_at entries) a) (from_item (event_at entries) b) (λ i h. item-agrees n i.event i.at a b same h.precedes) items fit

  module _ (items : ℕ → At → List EventByte) (fit : AllFit entries items) where
    abbrev by : ℕ → Reaching
    by n = reached (event_at entries) items n

    stable : (bound n m : ℕ) → bound ≤ n → bound ≤ m → Agree bound (by n) (by m)
    stable zero n m p q = λ e at l. absurd (omega arith)
    stable (suc bound) zero m p q = absurd (omega arith)
    stable (suc bound) (suc n) zero p q = absurd (omega arith)
    stable (suc bound) (suc n) (suc m) p q = λ e at l.
        event-agrees e at (by n) (by m) (λ d b k. stable bound n m (omega arith) (omega arith) d b (omega arith)) (items e at) (fit e at) (event_at entries e)

    past : (event : ℕ) (at : At) (earlier : Reaching) → how_many entries ≤ event → from_event (event_at entries) earlier event at (items event at) (event_at entries event) ≡ []
    past event at earlier h = ap (from_event (event_at entries) earlier event at (items event at)) (slice_get_past (events entries) event h)

    none : (n : ℕ) (event : ℕ) (at : At) → how_many entries ≤ event → by n event at ≡ []
    none zero event at h = refl
    none (suc n) event at h = past event at (by n) h

    unfolds : (n event : ℕ) (at : At) → how_many entries ≡ n → from_event (event_at entries) (by n) event at (items event at) (event_at entries event) ≡ by n event at
    unfolds n event at is = by_case n is
      where
        by_case : (n : ℕ) → how_many entries ≡ n → from_event (event_at entries) (by n) event at (items event at) (event_at entries event) ≡ by n event at
        by_case zero is = past event at (by zero) (omega arith)
        by_case (suc n) is = elim (le_or_lt (suc n) event) [
          | inl h ↦ past event at (by (suc n)) (omega arith) ∙ sym (none (suc n) event at (omega arith))
          | inr h ↦ event-agrees event at (by (suc n)) (by n) (λ d b k. stable event (suc n) n (omega arith) (omega arith) d b k) (items event at) (fit event at) (event_at entries event)
        ]

-- what reaches a byte of an event is what its items stand for
pub goes : (entries : List Record) (items : ℕ → At → List EventByte) → first_broken entries ≡ None → AllFit entries items → (event : ℕ) (at : At)
    → reaches entries items event at ≡ from_event (event_at entries) (reaches entries items) event at (items event at) (event_at entries event)
goes entries items stands fit event at = sym (unfolds entries stands items fit (how_many entries) event at refl)
