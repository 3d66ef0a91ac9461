-- Which bytes of writes to the outside a byte reaches.
use Rattle.std.proofs.lemmas.Grind.{common_steps}
use Rattle.std.proofs.Common.{◌≡◌, ℕ, ◌<◌, ◌==◌, ◌&&◌, Bool, true, false, if◌then◌else◌, List, [], filter, Option, Some, None, refl, ap, sym, subst, arith}
use Rattle.std.proofs.lemmas.Bool.Decides.{nat_tests}
use Rattle.std.specs.List.{Contains, list_any, range_with_len}
use Rattle.std.proofs.lemmas.Bool.{false≢true, and_from, and_parts, eqb-true}
use Rattle.arn_base.specs.declared.records.Record.{Record}
use Rattle.acts_model.specs.Records.{event_len}
use Rattle.history_model.specs.Events.{events, event_at, how_many}
use Rattle.lineage_model.specs.Flow.{At, Byte}
use Rattle.lineage_model.specs.Joined.{Reaching}
use Rattle.lineage_model.specs.Tracking.{EventByte}
use Rattle.query_model.specs.Sinks.{bytes_reached, is_among, is_byte, is_place, is_sink, sinks_at}
use Rattle.query_laws.specs.Forth.{IsReached, SinksAreReached}
use Rattle.query_laws.proofs.Asked.{itself}
use Rattle.query_laws.proofs.Links.{below-len}
use Rattle.query_laws.proofs.Lists.{any-in, in-any, in-kept, in-range, kept-in, none-in, range-in}
use Rattle.query_laws.proofs.Mapped.{flat-in, in-flat, in-map, map-in}

-- the test tells a byte
place-is : (k : ℕ) (at : At) → is_place k at ≡ true → at ≡ Byte k
place-is k at h1 = grind (arith, nat_tests, eqb-true, false≢true)

byte-is : (event k : ℕ) (byte : EventByte) → is_byte event k byte ≡ true → byte ≡ record { event = event; at = Byte k }
byte-is event k byte h1 = grind (arith, common_steps, nat_tests, and_parts, eqb-true, place-is)

is-byte : (event k : ℕ) → is_byte event k (record { event = event; at = Byte k }) ≡ true
is-byte event k = and_from (event == event) (k == k) (itself event) (itself k)

abbrev number-in : At → ℕ
number-in (Byte k) = k
number-in at = 0

module _ (reaching : Reaching) (event k n len : ℕ) where
  abbrev has-it : ℕ → Bool
  has-it at = list_any (is_byte event k) (reaching n (Byte at))

  abbrev byte-of : ℕ → EventByte
  byte-of at = record { event = n; at = Byte at }

  -- the bytes of one event
  record IsOf (byte : EventByte) : Type 0 where
    at : ℕ
    inside : at < len
    reached : Contains (reaching n (Byte at)) (record { event = event; at = Byte k })
    same : byte-of at ≡ byte

  reached-of : (byte : EventByte) → Contains (bytes_reached reaching event k n len) byte → IsOf byte
  reached-of byte has =
      let found = in-map byte-of (filter has-it (range_with_len 0 len)) byte has in
      let kept = in-kept has-it (range_with_len 0 len) found.0 found.1 in
      let one = in-any (is_byte event k) (reaching n (Byte found.0)) kept.1 in
      record {
        at = found.0;
        inside = omega (arith, (range-in 0 len found.0 kept.0).1);
        reached = subst (λ (b : EventByte). Contains (reaching n (Byte found.0)) b) (byte-is event k one.0 one.2) one.1;
        same = found.2;
      }

  of-reached : (at : ℕ) → at < len → Contains (reaching n (Byte at)) (record { event = event; at = Byte k }) → Contains (bytes_reached reaching event k n len) (byte-of at)
  of-reached at low has =
      map-in byte-of (filter has-it (range_with_len 0 len)) at
      (kept-in has-it (range_with_len 0 len) at (in-range 0 len at (omega arith) (omega (arith, low)))
      (any-in (is_byte event k) (reaching n (Byte at)) (record { event = event; at = Byte k }) has (is-byte event k)))

module _ (entries : List Record) (groups : List ℕ) (reaching : Reaching) (event k : ℕ) where
  same-byte : (n at : ℕ) → (m : ℕ) → (o : IsReached entries groups reaching event k m at) → m ≡ n → IsReached entries groups reaching event k n at
  same-byte n at m o same = subst (λ (x : ℕ). IsReached entries groups reaching event k x at) same o

  by-test : (n m at : ℕ) (e : Record) (b : Bool) → event_at entries m ≡ Some e → (is_sink e && is_among entries groups m) ≡ b
      → Contains (if b then bytes_reached reaching event k m (event_len e) else []) (record { event = n; at = Byte at }) → IsReached entries groups reaching event k n at
  by-test n m at e true there is has =
      let parts = and_parts (is_sink e) (is_among entries groups m) is in
      let one = reached-of reaching event k m (event_len e) (record { event = n; at = Byte at }) has in
      let place : one.at ≡ at = ap (λ (b : EventByte). number-in b.at) one.same in
      same-byte n at m (record {
        entry = e;
        there = there;
        sink = parts.0;
        among = parts.1;
        inside = subst (λ (x : ℕ). x < event_len e) place one.inside;
        reached = subst (λ (x : ℕ). Contains (reaching m (Byte x)) (record { event = event; at = Byte k })) place one.reached;
      }) (ap (λ (b : EventByte). b.event) one.same)
  by-test n m at e false there is has = absurd (none-in (record { event = n; at = Byte at }) has)

  by-event : (n m at : ℕ) (o : Option Record) → event_at entries m ≡ o → Contains (sinks_at entries groups reaching event k m o) (record { event = n; at = Byte at }) → IsReached entries groups reaching event k n at
  by-event n m at None there has = absurd (none-in (record { event = n; at = Byte at }) has)
  by-event n m at (Some e) there has = by-test n m at e (is_sink e && is_among entries groups m) there refl has

  sinks-of : (n at : ℕ) (r : IsReached entries groups reaching event k n at) → Contains (sinks_at entries groups reaching event k n (event_at entries n)) (record { event = n; at = Byte at })
  sinks-of n at r =
      subst (λ (o : Option Record). Contains (sinks_at entries groups reaching event k n o) (record { event = n; at = Byte at })) (sym r.there)
      (subst (λ (b : Bool). Contains (if b then bytes_reached reaching event k n (event_len r.entry) else []) (record { event = n; at = Byte at }))
      (sym (and_from (is_sink r.entry) (is_among entries groups n) r.sink r.among)) (of-reached reaching event k n (event_len r.entry) at r.inside r.reached))

pub sinks-reached : SinksAreReached
sinks-reached entries groups reaching event k n at = (
  λ has. (
      let found = in-flat (λ m. sinks_at entries groups reaching event k m (event_at entries m)) (range_with_len 0 (how_many entries)) (record { event = n; at = Byte at }) has in
      by-event entries groups reaching event k n found.0 at (event_at entries found.0) refl found.2),
  λ r. (
      flat-in (λ m. sinks_at entries groups reaching event k m (event_at entries m)) (range_with_len 0 (how_many entries)) n (record { event = n; at = Byte at })
      (in-range 0 (how_many entries) n (omega arith) (omega (arith, below-len (events entries) n r.entry r.there))) (sinks-of entries groups reaching event k n at r)),
)
