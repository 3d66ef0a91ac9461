-- The bytes of writes to the outside that are reached are all pairs that answer.
use Rattle.std.proofs.Common.{◌≡◌, ◌↔◌, ℕ, ◌+◌, ◌<◌, true, List, Contains, Option, Some, None, refl, sym, subst}
use Rattle.std.proofs.lemmas.Bool.{and_from, and_parts}
use Rattle.std.proofs.lemmas.Option.{slice_get_within}
use Rattle.arn_base.specs.declared.records.Pair.{Pair}
use Rattle.arn_base.specs.declared.records.Record.{Record}
use Rattle.rv64_model.specs.Carries.{operands}
use Rattle.rv64_model.specs.declared.linkage.Linkage.{Linkage}
use Rattle.acts_model.specs.Records.{event_len}
use Rattle.history_model.specs.Events.{events, event_at, how_many}
use Rattle.history_model.specs.Moments.{total}
use Rattle.lineage_join.specs.Fits.{IsThere}
use Rattle.lineage_join.specs.Laws.{PairsAreOne, reaches}
use Rattle.lineage_join.specs.Rising.{IsRising}
use Rattle.lineage_model.specs.Flow.{At, Byte}
use Rattle.lineage_model.specs.Joined.{Reaching}
use Rattle.lineage_model.specs.Tracking.{EventByte}
use Rattle.query_laws.specs.Forth.{AreAmong, IsReached, SinksAreReached}
use Rattle.query_model.specs.Sinks.{is_among, is_sink, pairs_among, reaching_among, sinks_reached}
use Rattle.followed_groups.specs.Following.{Following, HasFollowed, HasOnly, IsOf, items_followed}
use Rattle.followed_pairs.specs.Items.{ItemsAreOfGroups}
use Rattle.followed_pairs.specs.Sinks.{IsOutBefore, IsOutPair, IsPairAt, goes_out}
use Rattle.followed_pairs.specs.declared.asked.Asked.{Asked}

pub followed-among : (entries : List Record) (linkage : Linkage) (until : ℕ) (f : Following) (groups : List ℕ) → ItemsAreOfGroups → IsOf entries linkage until f → HasFollowed f groups → HasOnly f groups → AreAmong linkage entries groups until (items_followed f)
followed-among entries linkage until f groups items of has only =
    subst (λ (es : List Record). AreAmong linkage es groups until (items_followed f)) of.entries_are
    (subst (λ (l : Linkage). AreAmong l f.entries groups until (items_followed f)) of.linkage_is
    (subst (λ (u : ℕ). AreAmong f.linkage f.entries groups u (items_followed f)) of.until_is ((items f).among groups has only)))

-- all pairs
module _ (entries : List Record) (groups : List ℕ) (asked : Asked) (linkage : Linkage) (items : ℕ → At → List EventByte) (told : SinksAreReached)
    (same : (event : ℕ) (at : At) → IsThere (event_at entries event) at → reaches entries items event at ≡ reaching_among (operands linkage) entries groups (total entries) event at) where
  abbrev reach : Reaching
  reach = reaches entries items

  abbrev among : Reaching
  among = reaching_among (operands linkage) entries groups (total entries)

  abbrev sources : ℕ → List EventByte
  sources k = sinks_reached entries groups among asked.event (asked.from + k)

  there-at : (n k : ℕ) (e : Record) → event_at entries n ≡ Some e → k < event_len e → reach n (Byte k) ≡ among n (Byte k)
  there-at n k e at low = same n (Byte k) (subst (λ (o : Option Record). IsThere o (Byte k)) (sym at) low)

  out-reached : (n : ℕ) (pair : Pair) (o : Option Record) → event_at entries n ≡ o → goes_out entries groups n o ≡ true → IsPairAt reach asked n o pair → IsReached entries groups among asked.event (asked.from + pair.byte) n pair.at
  out-reached n pair None at out is = absurd is
  out-reached n pair (Some e) at out is =
      let parts = and_parts (is_sink e) (is_among entries groups n) out in
      record {
        entry = e;
        there = at;
        sink = parts.0;
        among = parts.1;
        inside = is.inside;
        reached = subst (λ (xs : List EventByte). Contains xs (record { event = asked.event; at = Byte (asked.from + pair.byte) })) (there-at n pair.at e at is.inside) is.reached;
      }

  pair-event : (n : ℕ) (pair : Pair) (o : Option Record) → IsPairAt reach asked n o pair → (pair.event ≡ n) × (pair.byte < asked.len)
  pair-event n pair None is = absurd is
  pair-event n pair (Some e) is = (is.event, is.within)

  reached-out : (pair : Pair) → pair.byte < asked.len → IsReached entries groups among asked.event (asked.from + pair.byte) pair.event pair.at → IsOutPair reach entries groups asked pair.event pair
  reached-out pair low r =
      record {
        out = subst (λ (o : Option Record). goes_out entries groups pair.event o ≡ true) (sym r.there) (and_from (is_sink r.entry) (is_among entries groups pair.event) r.sink r.among);
        is = subst (λ (o : Option Record). IsPairAt reach asked pair.event o pair) (sym r.there) (record {
          event = refl;
          inside = r.inside;
          within = low;
          reached = subst (λ (xs : List EventByte). Contains xs (record { event = asked.event; at = Byte (asked.from + pair.byte) })) (sym (there-at pair.event pair.at r.entry r.there r.inside)) r.reached;
        });
      }

  pub all-pairs : PairsAreOne → (pairs : List Pair) → ((pair : Pair) → Contains pairs pair ↔ IsOutBefore reach entries groups asked (how_many entries) pair) → IsRising pairs
      → pairs ≡ pairs_among (operands linkage) entries groups asked.event asked.from asked.len
  all-pairs one pairs are rising =
      one sources asked.len pairs rising (λ pair. (
        λ c. (
            let out = (are pair).0 c in
            let ends = pair-event out.0 pair (event_at entries out.0) out.2.is in (
              ends.1,
              (told entries groups among asked.event (asked.from + pair.byte) pair.event pair.at).1
                  (subst (λ (n : ℕ). IsReached entries groups among asked.event (asked.from + pair.byte) n pair.at) (sym ends.0) (out-reached out.0 pair (event_at entries out.0) refl out.2.out out.2.is)),
            )),
        λ h. (
            let r = (told entries groups among asked.event (asked.from + pair.byte) pair.event pair.at).0 h.1 in
            (are pair).1 (pair.event, slice_get_within (events entries) pair.event r.entry r.there, reached-out pair h.0 r)),
      ))
