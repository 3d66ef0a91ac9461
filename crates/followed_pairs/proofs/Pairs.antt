-- The pairs that are asked for of bytes of an event.
use Rattle.std.proofs.Common.{◌≡◌, ℕ, ◌+◌, ◌<◌, List, [], ◌∷◌, ◌++◌, IfOk, Ok, Err, Result, Contains, Option, refl, sym, ap, subst, ◌∙◌, arith, zero-add}
use Rattle.std.proofs.lemmas.List.FromFn.{length-map-range_with_len, get_or-map-range_with_len, map-range_with_len_more}
use Rattle.arn_base.specs.declared.records.Pair.{Pair}
use Rattle.arn_base.specs.declared.records.Record.{Record}
use Rattle.lineage_join.specs.Asked.{AreAsked, IsAsked, asked_byte, asked_sources}
use Rattle.lineage_join.specs.Laws.{PairsAreOne}
use Rattle.lineage_join.specs.Rising.{IsRising, source_of}
use Rattle.lineage_join.specs.declared.demand.Demand.{Demand}
use Rattle.lineage_join.specs.declared.demand.Demand.TheVariants as demand
use Rattle.lineage_join.specs.declared.demand.Place.TheVariants as place
use Rattle.lineage_model.specs.Flow.{Byte}
use Rattle.lineage_model.specs.Joined.{Reaching}
use Rattle.lineage_model.specs.Pairs.{pairs_from}
use Rattle.lineage_model.specs.Tracking.{EventByte}
use Rattle.followed_pairs.specs.Demands.{byte_demand, byte_demands}

-- which demands there are
demand-from : (event from len : ℕ) (one : Demand) → Contains (byte_demands event from len) one → (k : ℕ) × (k < len) × (one ≡ byte_demand event from k)
demand-from event from len one c =
    let below : c.0 < len = subst (λ (n : ℕ). c.0 < n) (length-map-range_with_len (byte_demand event from) 0 len) c.1 in
    (c.0, below, sym c.2 ∙ get_or-map-range_with_len (byte_demand event from) 0 len c.0 c.0 one below (zero-add c.0))

demand-of : (event from len k : ℕ) → k < len → Contains (byte_demands event from len) (byte_demand event from k)
demand-of event from len k below =
    (k, subst (λ (n : ℕ). k < n) (sym (length-map-range_with_len (byte_demand event from) 0 len)) below, get_or-map-range_with_len (byte_demand event from) 0 len k k (byte_demand event from k) below (zero-add k))

module _ (event_at : ℕ → Option Record) (reach : Reaching) (event from len : ℕ) (sources : ℕ → List EventByte) (same : (k : ℕ) → k < len → reach event (Byte (from + k)) ≡ sources k) where
  pub asked-of : (pair : Pair) → IsAsked event_at reach (byte_demands event from len) pair → (pair.byte < len) × Contains (sources pair.byte) (source_of pair)
  asked-of pair a =
      let which = demand-from event from len a.0 a.1 in
      let k = which.0 in
      let byte : k ≡ pair.byte = ap asked_byte (sym which.2) ∙ a.2 in
      let has : Contains (reach event (Byte (from + k))) (source_of pair) = subst (λ (d : Demand). Contains (asked_sources event_at reach d) (source_of pair)) which.2 a.3 in
      (subst (λ (n : ℕ). n < len) byte which.1, subst (λ (n : ℕ). Contains (sources n) (source_of pair)) byte (subst (λ (xs : List EventByte). Contains xs (source_of pair)) (same k which.1) has))

  pub of-asked : (pair : Pair) → (pair.byte < len) × Contains (sources pair.byte) (source_of pair) → IsAsked event_at reach (byte_demands event from len) pair
  of-asked pair h =
      (byte_demand event from pair.byte, demand-of event from len pair.byte h.0, refl, subst (λ (xs : List EventByte). Contains xs (source_of pair)) (sym (same pair.byte h.0)) h.1)

  pub pairs-are : PairsAreOne → (pairs : List Pair) → IsRising pairs → AreAsked event_at reach (byte_demands event from len) pairs → pairs ≡ pairs_from sources 0 len
  pairs-are one pairs rising asked = one sources len pairs rising (λ pair. (λ c. asked-of pair ((asked pair).0 c), λ h. (asked pair).1 (of-asked pair h)))

pub demand-more : (event from n x y : ℕ) (old : List Demand) → old ≡ byte_demands event from n → x ≡ from → y ≡ n → old ++ demand.Event event (place.Byte (x + y)) n ∷ [] ≡ byte_demands event from (n + 1)
demand-more event from n x y old h e f =
    let sum : x + y ≡ from + n = omega arith in
    ap (λ (l : List Demand). l ++ demand.Event event (place.Byte (x + y)) n ∷ []) h
    ∙ ap (λ (k : ℕ). byte_demands event from n ++ demand.Event event (place.Byte k) n ∷ []) sum
    ∙ sym (map-range_with_len_more (byte_demand event from) 0 n n (zero-add n))

pub ok-map : {T E : Type 0} {P Q : T → Type 0} (r : Result T E) → ((x : T) → P x → Q x) → IfOk r P → IfOk r Q
ok-map (Ok x) f h = f x h
ok-map (Err e) f h = tt

pub ok-both : {T E : Type 0} {P Q R : T → Type 0} (r : Result T E) → ((x : T) → P x → Q x → R x) → IfOk r P → IfOk r Q → IfOk r R
ok-both (Ok x) f h k = f x h k
ok-both (Err e) f h k = tt
