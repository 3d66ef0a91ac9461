-- The pairs that are asked for of bytes that a process holds.
use Rattle.std.proofs.Common.{◌≡◌, ℕ, ◌+◌, ◌<◌, List, ◌++◌, All, map, flat_map, Contains, refl, sym, ap, subst, ◌∙◌}
use Rattle.std.specs.List.{range_with_len}
use Rattle.std.proofs.lemmas.List.Elements.{All-contains}
use Rattle.arn_base.specs.declared.records.Pair.{Pair}
use Rattle.arn_base.specs.declared.records.Record.{Record}
use Rattle.set_store.specs.declared.item.Item.{Item}
use Rattle.history_model.specs.Events.{event_at}
use Rattle.lineage_join.specs.Asked.{AreAsked, IsAsked, NumbersStand, asked_byte, asked_sources, from_number}
use Rattle.lineage_join.specs.Fits.{IsThere}
use Rattle.lineage_join.specs.Laws.{PairsAreOne}
use Rattle.lineage_join.specs.Rising.{IsRising, source_of}
use Rattle.lineage_join.specs.declared.demand.Demand.{Demand}
use Rattle.lineage_model.specs.Joined.{Reaching, from_item}
use Rattle.lineage_model.specs.Pairs.{pairs_from}
use Rattle.lineage_model.specs.Tracking.{EventByte}
use Rattle.taint_state.specs.Shown.{AreItems, item_of}
use Rattle.query_model.specs.declared.held.Held.{Held}
use Rattle.followed_groups.specs.Following.{Following}
use Rattle.followed_pairs.specs.States.{held_demands, item_demand, told_at}
use Rattle.followed_pairs.proofs.Lists.{flat-more, from-flat, in-flat, in-range, mapped, range-below, unmapped}

-- Byte k, of so many, takes the items told k, which are those of the bytes items k. What these lead to is sources k.
module _ (entries : List Record) (reach : Reaching) (stand : NumbersStand) (told : ℕ → List Item) (items sources : ℕ → List EventByte) (len : ℕ)
    (are : (k : ℕ) → k < len → AreItems (told k) (items k))
    (there : (k : ℕ) → k < len → All (λ item. IsThere (event_at entries item.event) item.at) (items k))
    (lead : (k : ℕ) → k < len → flat_map (from_item (event_at entries) reach) (items k) ≡ sources k) where
  abbrev Byte-demands : ℕ → List Demand
  Byte-demands k = map (item_demand k) (told k)

  abbrev All-demands : List Demand
  All-demands = flat_map Byte-demands (range_with_len 0 len)

  stands-for : (k : ℕ) → k < len → (b : EventByte) → Contains (items k) b → from_number (event_at entries) reach (item_of b) ≡ from_item (event_at entries) reach b
  stands-for k low b c = stand entries reach b (All-contains (λ item. IsThere (event_at entries item.event) item.at) (items k) b (there k low) c)

  asked-of : (pair : Pair) → IsAsked (event_at entries) reach All-demands pair → (pair.byte < len) × Contains (sources pair.byte) (source_of pair)
  asked-of pair a =
      let which = from-flat Byte-demands (range_with_len 0 len) a.0 a.1 in
      let k = which.0 in
      let low : k < len = range-below len k which.1 in
      let item = unmapped (item_demand k) (told k) a.0 which.2 in
      let byte : k ≡ pair.byte = ap asked_byte item.2 ∙ a.2 in
      let from : Contains (from_number (event_at entries) reach item.0) (source_of pair) = subst (λ (d : Demand). Contains (asked_sources (event_at entries) reach d) (source_of pair)) (sym item.2) a.3 in
      let named = unmapped item_of (items k) item.0 ((are k low item.0).0 item.1) in
      let b = named.0 in
      let has : Contains (from_item (event_at entries) reach b) (source_of pair) =
      subst (λ (xs : List EventByte). Contains xs (source_of pair)) (stands-for k low b named.1) (subst (λ (i : Item). Contains (from_number (event_at entries) reach i) (source_of pair)) (sym named.2) from) in
      let flat = in-flat (from_item (event_at entries) reach) (items k) b (source_of pair) named.1 has in
      subst (λ (n : ℕ). (n < len) × Contains (sources n) (source_of pair)) byte (low, subst (λ (xs : List EventByte). Contains xs (source_of pair)) (lead k low) flat)

  of-asked : (pair : Pair) → (pair.byte < len) × Contains (sources pair.byte) (source_of pair) → IsAsked (event_at entries) reach All-demands pair
  of-asked pair h =
      let k = pair.byte in
      let led = from-flat (from_item (event_at entries) reach) (items k) (source_of pair) (subst (λ (xs : List EventByte). Contains xs (source_of pair)) (sym (lead k h.0)) h.1) in
      let b = led.0 in
      let item : Contains (told k) (item_of b) = (are k h.0 (item_of b)).1 (mapped item_of (items k) b led.1) in (
        item_demand k (item_of b),
        in-flat Byte-demands (range_with_len 0 len) k (item_demand k (item_of b)) (in-range len k h.0) (mapped (item_demand k) (told k) (item_of b) item),
        refl,
        subst (λ (xs : List EventByte). Contains xs (source_of pair)) (sym (stands-for k h.0 b led.1)) led.2,
      )

  pub pairs-are : PairsAreOne → (pairs : List Pair) → IsRising pairs → AreAsked (event_at entries) reach All-demands pairs → pairs ≡ pairs_from sources 0 len
  pairs-are one pairs rising asked = one sources len pairs rising (λ pair. (λ c. asked-of pair ((asked pair).0 c), λ h. (asked pair).1 (of-asked pair h)))

-- one byte more takes its items
pub demands-more : (f : Following) (held : Held) (n : ℕ) (old new : List Demand) (items : List Item) → new ≡ old ++ map (item_demand n) items → old ≡ held_demands f held n → items ≡ told_at f held n → new ≡ held_demands f held (n + 1)
demands-more f held n old new items is before told =
    is ∙ (ap (λ (list : List Demand). list ++ map (item_demand n) items) before
    ∙ (ap (λ (list : List Item). held_demands f held n ++ map (item_demand n) list) told ∙ sym (flat-more (λ k. map (item_demand k) (told_at f held k)) n)))
