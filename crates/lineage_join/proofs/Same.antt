-- The same answers reach the same, however far one looks.
use Rattle.std.proofs.Common.{◌≡◌, ℕ, zero, suc, Bool, true, false, cond, List, [], ◌∷◌, flat_map, Option, Some, None, IsTrue, refl, ap, ◌∙◌, All}
use Rattle.arn_base.specs.declared.records.Record.{Record}
use Rattle.arn_base.specs.declared.records.Src.{Src}
use Rattle.acts_model.specs.Records.{event_len}
use Rattle.history_model.specs.Events.{event_at, how_many}
use Rattle.lineage_model.specs.Flow.{At, Byte}
use Rattle.lineage_model.specs.Joined.{Reaching, is_source, origin_of, from_origin, from_received, from_item_at, from_item, source_byte, from_event, reached}
use Rattle.lineage_model.specs.Tracking.{EventByte}
use Rattle.lineage_join.specs.Alike.{LeadsAt, LeadsOn, AreSame, ReachSame}
use Rattle.lineage_join.proofs.Unfolds.{flat_map-fit}

module _ (entries : List Record) (follows : ℕ → At → Bool) where
  -- two ways of reaching agree on what is followed
  abbrev AreOne : Reaching → Reaching → Type 0
  AreOne a b = (event : ℕ) (at : At) → IsTrue (follows event at) → a event at ≡ b event at

  module _ (a b : Reaching) (one : AreOne a b) where
    origin-same : (o : Option Src) → ((src : Src) → o ≡ Some src → IsTrue (follows src.event (Byte src.at))) → from_origin a o ≡ from_origin b o
    origin-same None h = refl
    origin-same (Some src) h = one src.event (Byte src.at) (h src refl)

    received-same : (event k : ℕ) (o : Option Record) → ((e : Record) (src : Src) → o ≡ Some e → is_source e ≡ false → origin_of e k ≡ Some src → IsTrue (follows src.event (Byte src.at)))
        → from_received a event k o ≡ from_received b event k o
    received-same event k None h = refl
    received-same event k (Some e) h = by_test (is_source e) (λ plain. origin-same (origin_of e k) (λ src is. h e src refl plain is))
      where
        by_test : (t : Bool) → (t ≡ false → from_origin a (origin_of e k) ≡ from_origin b (origin_of e k))
            → cond t (record { event = event; at = Byte k } ∷ []) (from_origin a (origin_of e k)) ≡ cond t (record { event = event; at = Byte k } ∷ []) (from_origin b (origin_of e k))
        by_test true f = refl
        by_test false f = f refl

    item-same : (event : ℕ) (at : At) → LeadsAt (event_at entries) follows event at → from_item_at (event_at entries) a event at ≡ from_item_at (event_at entries) b event at
    item-same event (Byte k) h = received-same event k (event_at entries event) h
    item-same event e h = one event e h

    event-same : (event : ℕ) (at : At) (xs ys : List EventByte) → xs ≡ ys → All (LeadsOn (event_at entries) follows) xs → (o : Option Record) → from_event (event_at entries) a event at xs o ≡ from_event (event_at entries) b event at ys o
    event-same event at xs ys same leads None = refl
    event-same event at xs ys same leads (Some e) = by_test (is_source e)
      where
        by_test : (t : Bool) → cond t (source_byte event (event_len e) at) (flat_map (from_item (event_at entries) a) xs) ≡ cond t (source_byte event (event_len e) at) (flat_map (from_item (event_at entries) b) ys)
        by_test true = refl
        by_test false =
            flat_map-fit (LeadsOn (event_at entries) follows) (from_item (event_at entries) a) (from_item (event_at entries) b) (λ i h. item-same i.event i.at h) xs leads ∙ ap (flat_map (from_item (event_at entries) b)) same

  module _ (items others : ℕ → At → List EventByte) (are : AreSame entries follows items others) where
    reached-same : (n : ℕ) → AreOne (reached (event_at entries) items n) (reached (event_at entries) others n)
    reached-same zero event at h = refl
    reached-same (suc n) event at h =
        event-same (reached (event_at entries) items n) (reached (event_at entries) others n) (reached-same n) event at (items event at) (others event at) (are.same event at h) (are.leads event at h) (event_at entries event)

pub same : ReachSame
same entries follows items others h event at f = reached-same entries follows items others h (how_many entries) event at f
