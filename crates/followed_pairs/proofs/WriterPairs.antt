-- What is asked of bytes that were written, by the events that wrote them.
use Rattle.std.proofs.Common.{◌≡◌, ℕ, zero, suc, ◌+◌, ◌<◌, List, [], ◌∷◌, length, Contains, get_or, Option, Some, option_map, slice_get, refl, sym, ap, subst, ◌∙◌, arith}
use Rattle.arn_base.specs.declared.records.Pair.{Pair}
use Rattle.arn_base.specs.declared.records.Record.{Record}
use Rattle.lineage_join.specs.Asked.{AreAsked, IsAsked, asked_byte, asked_sources}
use Rattle.lineage_join.specs.Laws.{PairsAreOne}
use Rattle.lineage_join.specs.Rising.{IsRising, source_of}
use Rattle.lineage_join.specs.declared.demand.Demand.{Demand}
use Rattle.lineage_model.specs.Joined.{Reaching, from_origin}
use Rattle.lineage_model.specs.Pairs.{pairs_from}
use Rattle.lineage_model.specs.Tracking.{EventByte}
use Rattle.parts_model.specs.declared.tagged.TaggedByte.{TaggedByte}
use Rattle.query_model.specs.Names.{writer_of}
use Rattle.followed_pairs.specs.Names.{writer_demand, writer_demands}

-- which demands there are: that of byte k, from byte n on
pub record IsDemand (n : ℕ) (bytes : List TaggedByte) (one : Demand) : Type 0 where
  pub k : ℕ
  pub byte : TaggedByte
  pub at : slice_get bytes k ≡ Some byte
  pub is : one ≡ writer_demand (n + k) byte

demand-from : (n : ℕ) (bytes : List TaggedByte) (one : Demand) → Contains (writer_demands n bytes) one → IsDemand n bytes one
demand-from n [] one c = absurd (let low : c.0 < 0 = c.1 in omega (arith, low))
demand-from n (b ∷ bytes) one c = by_place (demand-from (n + 1) bytes one) c.0 c.1 c.2
  where
    rest : IsDemand (n + 1) bytes one → IsDemand n (b ∷ bytes) one
    rest d = record { k = suc d.k; byte = d.byte; at = d.at; is = d.is ∙ ap (λ (m : ℕ). writer_demand m d.byte) (omega arith) }

    by_place : (Contains (writer_demands (n + 1) bytes) one → IsDemand (n + 1) bytes one) → (k : ℕ) → k < length (writer_demands n (b ∷ bytes)) → get_or (writer_demands n (b ∷ bytes)) k one ≡ one → IsDemand n (b ∷ bytes) one
    by_place behind zero low is = record { k = 0; byte = b; at = refl; is = sym is ∙ ap (λ (m : ℕ). writer_demand m b) (omega arith) }
    by_place behind (suc k) low is = rest (behind (k, omega (arith, low), is))

demand-of : (n : ℕ) (bytes : List TaggedByte) (k : ℕ) (b : TaggedByte) → slice_get bytes k ≡ Some b → Contains (writer_demands n bytes) (writer_demand (n + k) b)
demand-of n [] k b at = absurd (cc)
demand-of n (x ∷ bytes) zero b at =
    let same : x ≡ b = cc in
    (0, omega arith, ap (writer_demand n) same ∙ ap (λ (m : ℕ). writer_demand m b) (omega arith))
demand-of n (x ∷ bytes) (suc k) b at =
    let c = demand-of (n + 1) bytes k b at in
    let same : writer_demand (n + 1 + k) b ≡ writer_demand (n + suc k) b = ap (λ (m : ℕ). writer_demand m b) (omega arith) in
    subst (λ (d : Demand). Contains (writer_demands n (x ∷ bytes)) d) same (suc c.0, omega (arith, c.1), c.2)

byte-at : (bytes : List TaggedByte) (k : ℕ) → k < length bytes → (b : TaggedByte) × (slice_get bytes k ≡ Some b)
byte-at [] k low = absurd (omega (arith, low))
byte-at (b ∷ bytes) zero low = (b, refl)
byte-at (b ∷ bytes) (suc k) low = byte-at bytes k (omega (arith, low))

low-at : (bytes : List TaggedByte) (k : ℕ) (b : TaggedByte) → slice_get bytes k ≡ Some b → k < length bytes
low-at [] k b at = absurd (cc)
low-at (x ∷ bytes) zero b at = omega arith
low-at (x ∷ bytes) (suc k) b at = omega (arith, low-at bytes k b at)

-- byte k has the sources of the event byte that wrote it
module _ (event_at : ℕ → Option Record) (reach : Reaching) (bytes : List TaggedByte) (sources : ℕ → List EventByte) (same : (k : ℕ) → from_origin reach (writer_of bytes k) ≡ sources k) where
  source-at : (k : ℕ) (b : TaggedByte) → slice_get bytes k ≡ Some b → asked_sources event_at reach (writer_demand (0 + k) b) ≡ sources k
  source-at k b at = sym (ap (λ (o : Option TaggedByte). from_origin reach (option_map (λ b. b.origin) o)) at) ∙ same k

  asked-of : (pair : Pair) → IsAsked event_at reach (writer_demands 0 bytes) pair → (pair.byte < length bytes) × Contains (sources pair.byte) (source_of pair)
  asked-of pair a =
      let d = demand-from 0 bytes a.0 a.1 in
      let byte : d.k ≡ pair.byte = omega (arith, ap asked_byte (sym d.is) ∙ a.2) in
      let has : Contains (asked_sources event_at reach (writer_demand (0 + d.k) d.byte)) (source_of pair) = subst (λ (one : Demand). Contains (asked_sources event_at reach one) (source_of pair)) d.is a.3 in
      subst (λ (n : ℕ). (n < length bytes) × Contains (sources n) (source_of pair)) byte
      (low-at bytes d.k d.byte d.at, subst (λ (xs : List EventByte). Contains xs (source_of pair)) (source-at d.k d.byte d.at) has)

  of-asked : (pair : Pair) → (pair.byte < length bytes) × Contains (sources pair.byte) (source_of pair) → IsAsked event_at reach (writer_demands 0 bytes) pair
  of-asked pair h =
      let got = byte-at bytes pair.byte h.0 in
      (writer_demand (0 + pair.byte) got.0, demand-of 0 bytes pair.byte got.0 got.1, omega arith, subst (λ (xs : List EventByte). Contains xs (source_of pair)) (sym (source-at pair.byte got.0 got.1)) h.1)

  pub pairs-are : PairsAreOne → (pairs : List Pair) → IsRising pairs → AreAsked event_at reach (writer_demands 0 bytes) pairs → pairs ≡ pairs_from sources 0 (length bytes)
  pairs-are one pairs rising asked = one sources (length bytes) pairs rising (λ pair. (λ c. asked-of pair ((asked pair).0 c), λ h. (asked pair).1 (of-asked pair h)))
