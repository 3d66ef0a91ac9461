-- Items of connected groups lead to events of connected groups.
use Rattle.std.proofs.lemmas.Bool.Decides.{nat_tests}
use Rattle.std.proofs.lemmas.Grind.{common_steps}
use Rattle.std.proofs.Common.{◌≡◌, ◌⊎◌, ℕ, zero, suc, ◌++◌, Bool, true, if◌then◌else◌, List, [], ◌∷◌, flat_map, Option, Some, None, IfSome, option_and_then, refl, ap, ap₂, ◌∙◌, All, Contains, arith}
use Rattle.std.proofs.lemmas.List.Elements.{All-head, All-tail}
use Rattle.std.proofs.lemmas.Option.{option_and_then_some}
use Rattle.arn_base.specs.declared.records.Give.{Give}
use Rattle.arn_base.specs.declared.records.Record.{Record}
use Rattle.arn_base.specs.declared.records.Src.{Src}
use Rattle.rv64_model.specs.Carries.{Table}
use Rattle.acts_model.specs.Records.{give_of}
use Rattle.history_index.specs.Lookups.{groups_in}
use Rattle.history_model.specs.Broken.{first_broken}
use Rattle.history_model.specs.Events.{event_at}
use Rattle.history_model.specs.Exchanges.{Backward, Edge, ByBytes, ByFork, founded, received}
use Rattle.history_model.specs.Groups.{event_group}
use Rattle.lineage_model.specs.Flow.{At, Byte}
use Rattle.lineage_model.specs.Joined.{Reaching, is_source, origin_at, origin_of, from_origin, from_received, from_item_at, from_item, from_event, reached}
use Rattle.lineage_model.specs.Tracking.{EventByte}
use Rattle.query_model.specs.Linked.{groups_back}
use Rattle.query_model.specs.Sources.{items_in, items_at, tracked_at}
use Rattle.query_laws.specs.Received.{HasTaken, IsReceivedBy, IsItem, IsConnected}
use Rattle.query_laws.proofs.Asked.{connected}
use Rattle.query_laws.proofs.Origins.{origin-piece}

pub flat_map-all : {A : Type 0} (P : A → Type 0) (f g : A → List EventByte) → ((x : A) → P x → f x ≡ g x) → (xs : List A) → All P xs → flat_map f xs ≡ flat_map g xs
flat_map-all P f g same [] h = refl
flat_map-all P f g same (x ∷ xs) h = ap₂ ◌++◌ (same x (All-head P x xs h)) (flat_map-all P f g same xs (All-tail P x xs h))

if-some : {A : Type 0} (P : A → Type 0) (o : Option A) → ((x : A) → o ≡ Some x → P x) → IfSome o P
if-some P None h = tt
if-some P (Some x) h = h x refl

module _ (entries : List Record) (from : List ℕ) (stands : first_broken entries ≡ None) (groups : All (Contains (groups_in entries)) from) where
  -- a group that is linked to a connected one is connected
  linked-asked : (h g : ℕ) → Contains (groups_back entries from) g → Edge entries h g → Contains (groups_back entries from) h
  linked-asked h g has edge =
      let c = connected entries from stands groups in
      (c.members h).1 (Backward h g ((c.members g).0 has) edge)

-- The bytes that are looked at: all that stored origins name are, and the items of what is.
module _ (entries : List Record) (from : List ℕ) (stands : first_broken entries ≡ None) (groups : All (Contains (groups_in entries)) from) (There : ℕ → At → Type 0)
    (origin-there : (event k : ℕ) (e : Record) → event_at entries event ≡ Some e → (src : Src) → origin_of e k ≡ Some src → There src.event (Byte src.at)) where
  abbrev Asks : ℕ → At → Type 0
  Asks event at = IsConnected entries from event × There event at

  abbrev AreSame : Reaching → Reaching → Type 0
  AreSame p q = (event : ℕ) (at : At) → Asks event at → p event at ≡ q event at

  abbrev IsItemThere : ℕ → ℕ → EventByte → Type 0
  IsItemThere g event item = IsItem entries g event item × There item.event item.at

  module _ (p q : Reaching) (same : AreSame p q) (g : ℕ) (asked : Contains (groups_back entries from) g) where
    origin-asked : (event k : ℕ) (e : Record) → event_at entries event ≡ Some e → event_group entries event ≡ Some g → received e ≡ give_of e → (src : Src) → origin_of e k ≡ Some src → IsConnected entries from src.event
    origin-asked event k e at of takes src is =
        if-some (Contains (groups_back entries from)) (event_group entries src.event) (λ h group.
        option_and_then_some (λ (give : Give). origin_at give.origins k) (give_of e) src is (λ give gives found.
        let o = origin-piece give.origins k src found in
        linked-asked entries from stands groups h g asked (ByBytes event give o.piece of (ap (option_and_then received) at ∙ (takes ∙ gives)) o.has (ap (event_group entries) o.event ∙ group))))

    origin-same : (event k : ℕ) (e : Record) → event_at entries event ≡ Some e → event_group entries event ≡ Some g → received e ≡ give_of e → (o : Option Src) → origin_of e k ≡ o → from_origin p o ≡ from_origin q o
    origin-same event k e at of takes None is = refl
    origin-same event k e at of takes (Some src) is = same src.event (Byte src.at) (origin-asked event k e at of takes src is, origin-there event k e at src is)

    taken-same : (event k : ℕ) (e : Record) → event_at entries event ≡ Some e → event_group entries event ≡ Some g → (is_source e ≡ true) ⊎ (received e ≡ give_of e) → (b : Bool) → is_source e ≡ b
        → (if b then record { event = event; at = Byte k } ∷ [] else from_origin p (origin_of e k)) ≡ (if b then record { event = event; at = Byte k } ∷ [] else from_origin q (origin_of e k))
    taken-same event k e h1 h2 h3 b h4 = grind (arith, common_steps, nat_tests, origin-same)

    received-same : (event k : ℕ) (o : Option Record) → event_at entries event ≡ o → event_group entries event ≡ Some g → HasTaken k o → from_received p event k o ≡ from_received q event k o
    received-same event k None at of takes = refl
    received-same event k (Some e) at of takes = taken-same event k e at of takes.received (is_source e) refl

    fork-asked : (event : ℕ) → option_and_then founded (event_at entries event) ≡ Some g → IsConnected entries from event
    fork-asked event is = if-some (Contains (groups_back entries from)) (event_group entries event) (λ h group. linked-asked entries from stands groups h g asked (ByFork event group is))

    pub item-same : (event : ℕ) (at : At) → IsReceivedBy entries g event at → There event at → from_item_at (event_at entries) p event at ≡ from_item_at (event_at entries) q event at
    item-same event (Byte k) is there = received-same event k (event_at entries event) refl is.0 is.1
    item-same event e is there = same event e (fork-asked event is, there)

    items-same : (event : ℕ) (items : List EventByte) → All (IsItemThere g event) items → flat_map (from_item (event_at entries) p) items ≡ flat_map (from_item (event_at entries) q) items
    items-same event items all =
        flat_map-all (IsItemThere g event) (from_item (event_at entries) p) (from_item (event_at entries) q) (λ i is. item-same i.event i.at is.0.received is.1) items all

  module _ (table : Table) (moment : ℕ) (law : (g event : ℕ) (at : At) → There event at → All (IsItemThere g event) ((tracked_at table entries moment g).points event at)) where
    own-same : (p q : Reaching) → AreSame p q → (event : ℕ) (at : At) (o : Option ℕ) → IfSome o (Contains (groups_back entries from)) → There event at
        → flat_map (from_item (event_at entries) p) (items_in table entries moment event at o) ≡ flat_map (from_item (event_at entries) q) (items_in table entries moment event at o)
    own-same p q same event at None asked there = refl
    own-same p q same event at (Some g) asked there =
        items-same p q same g asked event ((tracked_at table entries moment g).points event at) (law g event at there)

    event-same : (p q : Reaching) → AreSame p q → (event : ℕ) (at : At) → Asks event at → (o : Option Record)
        → from_event (event_at entries) p event at (items_at table entries moment event at) o ≡ from_event (event_at entries) q event at (items_at table entries moment event at) o
    event-same p q h1 event at h2 o = grind (arith, common_steps, nat_tests, own-same)

    module _ (items : ℕ → At → List EventByte) (agree : (event : ℕ) (at : At) → Asks event at → items event at ≡ items_at table entries moment event at) where
      pub reached-same : (n event : ℕ) (at : At) → Asks event at → reached (event_at entries) items n event at ≡ reached (event_at entries) (items_at table entries moment) n event at
      reached-same zero event at asks = refl
      reached-same (suc n) event at asks =
          ap (λ (xs : List EventByte). from_event (event_at entries) (reached (event_at entries) items n) event at xs (event_at entries event)) (agree event at asks)
          ∙ event-same (reached (event_at entries) items n) (reached (event_at entries) (items_at table entries moment) n) (reached-same n) event at asks (event_at entries event)
