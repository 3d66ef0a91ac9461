-- By following only the groups to which bytes can have come nothing is lost that they reach.
use Rattle.std.proofs.Common.{◌≡◌, ◌⊎◌, inl, inr, ℕ, zero, suc, ◌+◌, ◌<◌, ◌≤◌, Bool, true, false, if◌then◌else◌, List, [], ◌∷◌, flat_map, Option, Some, None, option_and_then, refl, ap, sym, subst, ◌∙◌, arith, All, Contains}
use Rattle.std.proofs.lemmas.Bool.Decides.{nat_tests}
use Rattle.std.proofs.lemmas.Bool.{and_from, lt-ltb, true≢false}
use Rattle.std.proofs.lemmas.List.Elements.{All-contains}
use Rattle.std.proofs.lemmas.Option.{none-some, option_and_then_some, same_Some}
use Rattle.arn_base.specs.declared.records.Give.{Give}
use Rattle.arn_base.specs.declared.records.Origin.{Origin}
use Rattle.arn_base.specs.declared.records.Record.{Record}
use Rattle.arn_base.specs.declared.records.Src.{Src}
use Rattle.rv64_model.specs.Carries.{Table}
use Rattle.acts_model.specs.Records.{event_len, give_of}
use Rattle.history_model.specs.Broken.{first_broken}
use Rattle.history_model.specs.Events.{event_at, how_many}
use Rattle.history_model.specs.Exchanges.{Beginning, ByBytes, ByFork, Edge, Forward, founded, received}
use Rattle.history_model.specs.Groups.{event_group, is_number}
use Rattle.lineage_model.specs.Flow.{At, Byte}
use Rattle.lineage_model.specs.Joined.{Reaching, is_source, origin_at, origin_of, from_origin, from_received, from_item_at, from_item, source_byte, from_event, reached}
use Rattle.lineage_model.specs.Tracking.{EventByte}
use Rattle.query_model.specs.Forth.{first_groups, forth_groups, has_copy, is_copy}
use Rattle.query_model.specs.Sinks.{is_among, items_among}
use Rattle.query_model.specs.Sources.{items_at, items_in, reaching, tracked_at}
use Rattle.window_laws.specs.Blocks.{HasWholeBlocks}
use Rattle.query_laws.specs.Forth.{HadFirst, Read, Took}
use Rattle.query_laws.specs.Received.{HasTaken, IsItem, IsReceivedBy, ItemsAreReceived}
use Rattle.query_laws.proofs.AskedForth.{forth-connected}
use Rattle.query_laws.proofs.Asked.{itself}
use Rattle.query_laws.proofs.First.{first-known, first-told}
use Rattle.query_laws.proofs.Links.{is-number, is-there}
use Rattle.query_laws.proofs.Lists.{any-in, head-or-tail, none-in}
use Rattle.query_laws.proofs.Mapped.{flat-in, in-flat}
use Rattle.query_laws.proofs.Origins.{IsPiece, origin-piece}

abbrev number-in : At → ℕ
number-in (Byte k) = k
number-in at = 0

-- what a byte of an event of the outside is
abbrev byte-of : ℕ → At → EventByte
byte-of event at = record { event = event; at = at }

source-is : (event n len : ℕ) (at : At) (place : At) → Contains (source_byte n len at) (byte-of event place) → (n ≡ event) × (at ≡ place)
source-is event n len at place h1 = grind (arith, nat_tests, byte-of, head-or-tail, none-in)

module _ (entries : List Record) (event from len k : ℕ) (low : k < len) (stands : first_broken entries ≡ None) where
  abbrev groups : List ℕ
  groups = forth_groups entries event from len

  -- the source byte that is asked
  abbrev asked : EventByte
  asked = record { event = event; at = Byte (from + k) }

  -- a byte is the one that is asked, and comes from outside
  pub record IsAsked (n : ℕ) (at : At) : Type 0 where
    pub entry : Record
    pub there : event_at entries event ≡ Some entry
    pub source : is_source entry ≡ true
    pub same : n ≡ event
    pub place : at ≡ Byte (from + k)

  began : (n : ℕ) (at : At) → IsAsked n at → (g : ℕ) → HadFirst entries event from len g → Contains groups g
  began n at is g had =
      let lists = forth-connected entries (first_groups entries event from len) stands (first-known entries event from len (event_at entries event)) in
      (lists.members g).1 (Beginning g ((first-told entries event from len is.entry stands is.there is.source g).1 had))

  going : (h g : ℕ) → Contains groups h → Edge entries h g → Contains groups g
  going h g has edge =
      let lists = forth-connected entries (first_groups entries event from len) stands (first-known entries event from len (event_at entries event)) in
      (lists.members g).1 (Forward g h ((lists.members h).0 has) edge)

  -- who makes the event had them first
  own-began : (n : ℕ) (at : At) → IsAsked n at → (g : ℕ) → event_group entries n ≡ Some g → Contains groups g
  own-began n at is g group = began n at is g (Read (omega (arith, low)) (ap (event_group entries) (sym is.same) ∙ group))

  -- and who receives a copy
  copy-is : (src : Src) (piece : Origin) → IsAsked src.event (Byte src.at) → piece.event ≡ src.event → piece.at ≤ src.at → src.at < piece.at + piece.len → is_copy event from len piece ≡ true
  copy-is src piece h1 h2 h3 h4 = grind (arith, nat_tests, and_from, itself, lt-ltb, number-in)

  module _ (table : Table) (moment : ℕ) (law : ItemsAreReceived) (blocks : All HasWholeBlocks entries) where
    abbrev items : ℕ → At → List EventByte
    items = items_at table entries moment

    abbrev cut : ℕ → At → List EventByte
    cut = items_among table entries groups moment

    -- it comes by these groups alone, to one of them
    pub record Comes (m n : ℕ) (at : At) : Type 0 where
      pub has : Contains (reached (event_at entries) cut m n at) asked
      pub group : (g : ℕ) → event_group entries n ≡ Some g → Contains groups g
      pub outside : event_group entries n ≡ None → IsAsked n at

    abbrev AllCome : ℕ → Type 0
    AllCome m = (n : ℕ) (at : At) → Contains (reached (event_at entries) items m n at) asked → Comes m n at

    module _ (m : ℕ) (come : AllCome m) where
      abbrev whole : Reaching
      whole = reached (event_at entries) items m

      abbrev some : Reaching
      some = reached (event_at entries) cut m

      -- what comes to a byte that a group received came to the group
      record ComesBy (g : ℕ) (bytes : List EventByte) : Type 0 where
        has : Contains bytes asked
        group : Contains groups g

      origin-comes : (g n : ℕ) (e : Record) (j : ℕ) → event_at entries n ≡ Some e → event_group entries n ≡ Some g → received e ≡ give_of e → (src : Src) → origin_of e j ≡ Some src
          → Comes m src.event (Byte src.at) → Contains groups g
      origin-comes g n e j at of takes src is c =
          option_and_then_some (λ (give : Give). origin_at give.origins j) (give_of e) src is (λ give gives found.
          let has-give : option_and_then received (event_at entries n) ≡ Some give = ap (option_and_then received) at ∙ (takes ∙ gives) in
          by-group give (origin-piece give.origins j src found) has-give (event_group entries src.event) refl)
        where
          by-group : (give : Give) (p : IsPiece give.origins src) → option_and_then received (event_at entries n) ≡ Some give → (o : Option ℕ) → event_group entries src.event ≡ o → Contains groups g
          by-group give p gives (Some h) group = going h g (c.group h group) (ByBytes n give p.piece of gives p.has (ap (event_group entries) p.event ∙ group))
          by-group give p gives None group =
              let is-asked = c.outside group in
              began src.event (Byte src.at) is-asked g
              (Took n (is-there entries n g of) (record {
                group = of;
                copy = ap (has_copy event from len) gives ∙ any-in (is_copy event from len) give.origins p.piece p.has (copy-is src p.piece is-asked p.event p.low p.inside);
              }))

      origin-by : (g n : ℕ) (e : Record) (j : ℕ) → event_at entries n ≡ Some e → event_group entries n ≡ Some g → received e ≡ give_of e → (o : Option Src) → origin_of e j ≡ o → Contains (from_origin whole o) asked → ComesBy g (from_origin some o)
      origin-by g n e j at of takes None is has = absurd (none-in asked has)
      origin-by g n e j at of takes (Some src) is has =
          let c = come src.event (Byte src.at) has in
          record { has = c.has; group = origin-comes g n e j at of takes src is c }

      -- a received byte that came from outside
      own-source : (g n j : ℕ) (e : Record) → event_at entries n ≡ Some e → event_group entries n ≡ Some g → is_source e ≡ true → Contains (record { event = n; at = Byte j } ∷ []) asked → Contains groups g
      own-source g n j e at of source has = elim (head-or-tail (record { event = n; at = Byte j }) asked [] has) [
        | inl is ↦ (
            let same : n ≡ event = ap (λ (b : EventByte). b.event) is in
            own-began n (Byte j) (record { entry = e; there = ap (event_at entries) (sym same) ∙ at; source = source; same = same; place = ap (λ (b : EventByte). b.at) is }) g of)
        | inr none ↦ absurd (none-in asked none)
      ]

      taken-by : (g n j : ℕ) (e : Record) → event_at entries n ≡ Some e → event_group entries n ≡ Some g → (is_source e ≡ true) ⊎ (received e ≡ give_of e) → (b : Bool) → is_source e ≡ b
          → Contains (if b then record { event = n; at = Byte j } ∷ [] else from_origin whole (origin_of e j)) asked → ComesBy g (if b then record { event = n; at = Byte j } ∷ [] else from_origin some (origin_of e j))
      taken-by g n j e at of takes true is has = record { has = has; group = own-source g n j e at of is has }
      taken-by g n j e at of (inl source) false is has = absurd (true≢false (sym source ∙ is))
      taken-by g n j e at of (inr takes) false is has = origin-by g n e j at of takes (origin_of e j) refl has

      received-by : (g n j : ℕ) (o : Option Record) → event_at entries n ≡ o → event_group entries n ≡ Some g → HasTaken j o → Contains (from_received whole n j o) asked → ComesBy g (from_received some n j o)
      received-by g n j None at of takes has = absurd takes
      received-by g n j (Some e) at of takes has = taken-by g n j e at of takes.received (is_source e) refl has

      fork-by : (g n : ℕ) (at : At) → ((at ≡ Byte (from + k)) → ⊥) → option_and_then founded (event_at entries n) ≡ Some g → Contains (whole n at) asked → ComesBy g (some n at)
      fork-by g n at apart founds has =
          let c = come n at has in
          record { has = c.has; group = by-group c (event_group entries n) refl }
        where
          by-group : Comes m n at → (o : Option ℕ) → event_group entries n ≡ o → Contains groups g
          by-group c (Some h) group = going h g (c.group h group) (ByFork n group founds)
          by-group c None group = absurd (apart (c.outside group).place)

      item-by : (g n : ℕ) (at : At) → IsReceivedBy entries g n at → Contains (from_item_at (event_at entries) whole n at) asked → ComesBy g (from_item_at (event_at entries) some n at)
      item-by g n (Byte j) is has = received-by g n j (event_at entries n) refl is.0 is.1 has
      item-by g n x is has = fork-by g n x (λ e. cc) is has

      -- and to the event whose byte has it
      among-is : (n g : ℕ) → event_group entries n ≡ Some g → Contains groups g → is_among entries groups n ≡ true
      among-is n g of has = any-in (λ h. is_number h (event_group entries n)) groups g has (is-number g (event_group entries n) of)

      group-comes : (n : ℕ) (at : At) (o : Option ℕ) → event_group entries n ≡ o → Contains (flat_map (from_item (event_at entries) whole) (items_in table entries moment n at o)) asked
          → (g : ℕ) × (o ≡ Some g) × ComesBy g (flat_map (from_item (event_at entries) some) (items_in table entries moment n at o))
      group-comes n at None of has = absurd (none-in asked has)
      group-comes n at (Some g) of has =
          let xs = (tracked_at table entries moment g).points n at in
          let found = in-flat (from_item (event_at entries) whole) xs asked has in
          let is = All-contains (IsItem entries g n) xs found.0 (law table entries g moment stands blocks n at) found.1 in
          let by = item-by g found.0.event found.0.at is.received found.2 in
          (g, refl, record { has = flat-in (from_item (event_at entries) some) xs found.0 asked found.1 by.has; group = by.group })

      event-comes : (n : ℕ) (at : At) (e : Record) (b : Bool) → event_at entries n ≡ Some e → is_source e ≡ b
          → Contains (if b then source_byte n (event_len e) at else flat_map (from_item (event_at entries) whole) (items n at)) asked
          → Contains (if b then source_byte n (event_len e) at else flat_map (from_item (event_at entries) some) (cut n at)) asked
          × ((g : ℕ) → event_group entries n ≡ Some g → Contains groups g) × (event_group entries n ≡ None → IsAsked n at)
      event-comes n at e true there source has =
          let same = source-is event n (event_len e) at (Byte (from + k)) has in
          let is-asked : IsAsked n at = record { entry = e; there = ap (event_at entries) (sym same.0) ∙ there; source = source; same = same.0; place = same.1 } in
          (has, λ g of. own-began n at is-asked g of, λ none. is-asked)
      event-comes n at e false there source has =
          let c = group-comes n at (event_group entries n) refl has in (
            subst (λ (b : Bool). Contains (flat_map (from_item (event_at entries) some) (if b then items n at else [])) asked) (sym (among-is n c.0 c.1 c.2.group)) c.2.has,
            λ g of. subst (λ (h : ℕ). Contains groups h) (same_Some c.0 g (sym c.1 ∙ of)) c.2.group,
            λ none. absurd (none-some c.0 (sym none ∙ c.1)),
          )

      next-comes : AllCome (suc m)
      next-comes n at has = by-record (event_at entries n) refl has
        where
          by-record : (o : Option Record) → event_at entries n ≡ o → Contains (from_event (event_at entries) whole n at (items n at) o) asked → Comes (suc m) n at
          by-record None there c = absurd (none-in asked c)
          by-record (Some e) there c =
              let r = event-comes n at e (is_source e) there refl c in
              record { has = subst (λ (o : Option Record). Contains (from_event (event_at entries) some n at (cut n at) o) asked) (sym there) r.0; group = r.1; outside = r.2 }

    all-come : (m : ℕ) → AllCome m
    all-come zero = λ n at has. absurd (none-in asked has)
    all-come (suc m) = next-comes m (all-come m)

    pub comes : (n : ℕ) (at : At) → Contains (reaching table entries moment n at) asked → Comes (how_many entries) n at
    comes = all-come (how_many entries)
