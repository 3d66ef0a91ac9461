-- More items reach more, and the pairs of a query forward are told by what reaches the bytes of writes.
use Rattle.std.proofs.Common.{◌≡◌, ◌↔◌, ℕ, zero, suc, ◌+◌, ◌<◌, Bool, true, false, if◌then◌else◌, List, [], ◌∷◌, flat_map, Option, Some, None, arith, All, Contains}
use Rattle.std.proofs.lemmas.Bool.Decides.{nat_tests}
use Rattle.std.proofs.lemmas.Bool.{false≢true, true≢false}
use Rattle.std.proofs.lemmas.Option.{same_Some}
use Rattle.arn_base.specs.declared.records.Extra.{Extra}
use Rattle.arn_base.specs.declared.records.Pair.{Pair}
use Rattle.arn_base.specs.declared.records.Record.{Record}
use Rattle.arn_base.specs.declared.records.Record.TheVariants as entry
use Rattle.arn_base.specs.declared.records.Src.{Src}
use Rattle.rv64_model.specs.Carries.{Table}
use Rattle.acts_model.specs.Records.{event_len}
use Rattle.history_model.specs.Broken.{first_broken}
use Rattle.history_model.specs.Events.{event_at, how_many}
use Rattle.history_model.specs.Moments.{total}
use Rattle.lineage_join.specs.Laws.{PairsAreTold}
use Rattle.lineage_model.specs.Flow.{At, Byte}
use Rattle.lineage_model.specs.Joined.{Reaching, is_source, origin_of, from_origin, from_received, from_item_at, from_item, source_byte, from_event, reached}
use Rattle.lineage_model.specs.Tracking.{EventByte}
use Rattle.query_model.specs.Forth.{forth_groups}
use Rattle.query_model.specs.Sinks.{forth_pairs, is_among, is_outward, is_sink, items_among, reaching_among, sinks_reached}
use Rattle.query_model.specs.Sources.{items_at, reaching}
use Rattle.window_laws.specs.Blocks.{HasWholeBlocks}
use Rattle.query_laws.specs.ForthOfRuns.{ForthLosesNothing, IsSinkPair}
use Rattle.query_laws.specs.Received.{ItemsAreReceived}
use Rattle.query_laws.proofs.Links.{is-number}
use Rattle.query_laws.proofs.Lists.{any-in, none-in}
use Rattle.query_laws.proofs.Loses.{Comes, comes}
use Rattle.query_laws.proofs.Mapped.{flat-in, in-flat}
use Rattle.query_laws.proofs.Sinks.{sinks-reached}

-- what fewer items reach, more reach too
module _ (at_number : ℕ → Option Record) (few many : ℕ → At → List EventByte) (more : (n : ℕ) (at : At) (x : EventByte) → Contains (few n at) x → Contains (many n at) x) where
  abbrev Within : Reaching → Reaching → Type 0
  Within p q = (n : ℕ) (at : At) (b : EventByte) → Contains (p n at) b → Contains (q n at) b

  module _ (p q : Reaching) (within : Within p q) (b : EventByte) where
    origin-within : (o : Option Src) → Contains (from_origin p o) b → Contains (from_origin q o) b
    origin-within None has = has
    origin-within (Some src) has = within src.event (Byte src.at) b has

    received-within : (n k : ℕ) (o : Option Record) → Contains (from_received p n k o) b → Contains (from_received q n k o) b
    received-within n k None has = has
    received-within n k (Some e) has = by-test (is_source e) has
      where
        by-test : (t : Bool) → Contains (if t then record { event = n; at = Byte k } ∷ [] else from_origin p (origin_of e k)) b → Contains (if t then record { event = n; at = Byte k } ∷ [] else from_origin q (origin_of e k)) b
        by-test true h = h
        by-test false h = origin-within (origin_of e k) h

    item-within : (n : ℕ) (at : At) → Contains (from_item_at at_number p n at) b → Contains (from_item_at at_number q n at) b
    item-within n (Byte k) has = received-within n k (at_number n) has
    item-within n e has = within n e b has

    event-within : (n : ℕ) (at : At) (o : Option Record) → Contains (from_event at_number p n at (few n at) o) b → Contains (from_event at_number q n at (many n at) o) b
    event-within n at None has = has
    event-within n at (Some e) has = by-test (is_source e) has
      where
        by-test : (t : Bool) → Contains (if t then source_byte n (event_len e) at else flat_map (from_item at_number p) (few n at)) b → Contains (if t then source_byte n (event_len e) at else flat_map (from_item at_number q) (many n at)) b
        by-test true h = h
        by-test false h =
            let found = in-flat (from_item at_number p) (few n at) b h in
            flat-in (from_item at_number q) (many n at) found.0 b (more n at found.0 found.1) (item-within found.0.event found.0.at found.2)

  pub reached-within : (m : ℕ) → Within (reached at_number few m) (reached at_number many m)
  reached-within zero n at b has = has
  reached-within (suc m) n at b has = event-within (reached at_number few m) (reached at_number many m) (reached-within m) b n at (at_number n) has

-- items of some groups are items
cut-within : (b : Bool) (xs : List EventByte) (x : EventByte) → Contains (if b then xs else []) x → Contains xs x
cut-within true xs x has = has
cut-within false xs x has = absurd (none-in x has)

-- what went out isn't from outside
outward-plain : (pid number result : ℕ) (more : Extra) → is_outward number more ≡ true → is_source (entry.Call pid number result more) ≡ false
outward-plain pid number result more h1 = grind (arith, nat_tests, false≢true)

sink-plain : (e : Record) → is_sink e ≡ true → is_source e ≡ false
sink-plain e h1 = grind (arith, nat_tests, false≢true, outward-plain)

module _ (table : Table) (entries : List Record) (event from len : ℕ) (stands : first_broken entries ≡ None) (law : ItemsAreReceived) (blocks : All HasWholeBlocks entries) where
  abbrev groups : List ℕ
  groups = forth_groups entries event from len

  abbrev among : Reaching
  among = reaching_among table entries groups (total entries)

  abbrev whole : Reaching
  whole = reaching table entries (total entries)

  among-whole : (n : ℕ) (at : At) (b : EventByte) → Contains (among n at) b → Contains (whole n at) b
  among-whole =
      reached-within (event_at entries) (items_among table entries groups (total entries)) (items_at table entries (total entries))
      (λ n at x has. cut-within (is_among entries groups n) (items_at table entries (total entries) n at) x has) (how_many entries)

  -- a write that is reached is of one of the groups
  sink-among : (k n : ℕ) (low : k < len) (at : At) (e : Record) → event_at entries n ≡ Some e → is_sink e ≡ true → Comes entries event from len k low stands table (total entries) law blocks (how_many entries) n at → is_among entries groups n ≡ true
  sink-among k n low at e h1 h2 h3 = grind (arith, nat_tests, any-in, groups, is-number, same_Some, sink-plain, true≢false)

  pub loses-nothing : PairsAreTold → (pair : Pair) → Contains (forth_pairs table entries event from len) pair ↔ IsSinkPair entries whole event from len pair
  loses-nothing told pair =
      let all = told (λ k. sinks_reached entries groups among event (from + k)) len in
      let one = sinks-reached entries groups among event (from + pair.byte) pair.event pair.at in (
        λ c. (
            let h = (all.members pair).0 c in
            let r = one.0 h.1 in
            record { entry = r.entry; there = r.there; sink = r.sink; inside = r.inside; asked = h.0; reached = among-whole pair.event (Byte pair.at) (record { event = event; at = Byte (from + pair.byte) }) r.reached }),
        λ s. (
            let c = comes entries event from len pair.byte s.asked stands table (total entries) law blocks pair.event (Byte pair.at) s.reached in
            (all.members pair).1 (
              s.asked,
              one.1 (record {
                entry = s.entry;
                there = s.there;
                sink = s.sink;
                among = sink-among pair.byte pair.event s.asked (Byte pair.at) s.entry s.there s.sink c;
                inside = s.inside;
                reached = c.has;
              }),
            )),
      )

pub lost-none : ItemsAreReceived → PairsAreTold → ForthLosesNothing
lost-none law told table entries event from len stands blocks pair = loses-nothing table entries event from len stands law blocks told pair
