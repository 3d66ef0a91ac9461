-- What groups that were followed tell of bytes that a process holds.
use Rattle.std.proofs.Common.{◌≡◌, ℕ, ◌+◌, ◌<◌, ◌^◌, ◌&&◌, ◌||◌, nat_le, nat_lt, Bool, true, false, List, is_some, refl, sym, subst, arith, ltb-true, leb-true}
use Rattle.std.proofs.lemmas.Bool.{and_parts}
use Rattle.arn_base.specs.declared.records.Pair.{Pair}
use Rattle.arn_base.specs.declared.records.Record.{Record}
use Rattle.rv64_model.specs.Carries.{operands}
use Rattle.history_model.specs.Events.{event_at}
use Rattle.history_model.specs.Moments.{segment_at}
use Rattle.lineage_join.specs.Asked.{AreAsked, NumbersStand}
use Rattle.lineage_join.specs.Laws.{PairsAreOne, reaches}
use Rattle.lineage_join.specs.Rising.{IsRising}
use Rattle.lineage_join.specs.declared.demand.Demand.{Demand}
use Rattle.lineage_model.specs.Pairs.{pairs_from}
use Rattle.parts_model.specs.declared.limits.TheConstants.{MOST_ASKED}
use Rattle.past_lives.specs.Members.{is_member, is_present, lies_between}
use Rattle.query_model.specs.States.{HasByte, held_items, part_len}
use Rattle.query_model.specs.declared.held.Held.{Held}
use Rattle.query_model.specs.declared.held.Part.{Part}
use Rattle.query_model.specs.declared.held.Part.TheVariants as part
use Rattle.followed_groups.specs.Following.{Following, IsFollowing, IsOf, items_followed}
use Rattle.followed_pairs.specs.Leads.{held_leads}
use Rattle.followed_pairs.specs.States.{AreItemsThere, IsOwnFollowed, IsPlaced, has_part, held_demands, is_held, told_at}
use Rattle.followed_pairs.proofs.HeldPairs.{pairs-are}
use Rattle.followed_pairs.proofs.Members.{byte-told}

-- what is there is a part with these bytes, at addresses of 64 bits
present-below : (holds : Bool) (at len : ℕ) → is_present holds at len ≡ true → at + len < 2 ^ 64
present-below holds at len is = by-tests (lies_between 0x10000 0x50000 at len) holds refl is
  where
    by-tests : (a b : Bool) → lies_between 0x10000 0x50000 at len ≡ a → (a || (b && lies_between 0x80000000 0x80010000 at len)) ≡ true → at + len < 2 ^ 64
    by-tests true b p h = let most = leb-true (at + len) 0x50000 (and_parts (nat_le 0x10000 at) (nat_le (at + len) 0x50000) p).1 in omega (arith, most)
    by-tests false true p h = let most = leb-true (at + len) 0x80010000 (and_parts (nat_le 0x80000000 at) (nat_le (at + len) 0x80010000) h).1 in omega (arith, most)
    by-tests false false p h = absurd (cc)

module _ (entries : List Record) (moment pid : ℕ) where
  part-placed : (p : Part) → has_part entries moment pid p ≡ true → IsPlaced p
  part-placed (part.Register r) is = tt
  part-placed (part.Memory at len) is =
      let holds = is_some (segment_at entries moment pid) in
      let rest = and_parts (is_member entries moment pid) (nat_le len MOST_ASKED && is_present holds at len) is in
      present-below holds at len (and_parts (nat_le len MOST_ASKED) (is_present holds at len) rest.1).1

  part-byte : (p : Part) → has_part entries moment pid p ≡ true → (k : ℕ) → k < part_len p → HasByte p k
  part-byte (part.Register r) is k low = (ltb-true r 32 (and_parts (is_member entries moment pid) (nat_lt r 32) is).1, low)
  part-byte (part.Memory at len) is k low = low

pub held-placed : (entries : List Record) (held : Held) → is_held entries held ≡ true → IsPlaced held.part
held-placed entries held is = part-placed entries held.moment held.pid held.part is

pub held-byte : (entries : List Record) (held : Held) → is_held entries held ≡ true → (k : ℕ) → k < part_len held.part → HasByte held.part k
held-byte entries held is = part-byte entries held.moment held.pid held.part is

-- of what was followed
module _ (one : PairsAreOne) (stand : NumbersStand) (f : Following) (followed : IsFollowing f) (held : Held) (until : held.moment ≡ f.until) (is : is_held f.entries held ≡ true) (own : IsOwnFollowed f held.pid) (items : AreItemsThere f held) where
  byte-of : (k : ℕ) → k < part_len held.part → HasByte held.part k
  byte-of k low = held-byte f.entries held is k low

  own-told : (demands : List Demand) → demands ≡ held_demands f held (part_len held.part) → (pairs : List Pair) → AreAsked (event_at f.entries) (reaches f.entries (items_followed f)) demands pairs → IsRising pairs
      → pairs ≡ pairs_from (held_leads f.entries f held) 0 (part_len held.part)
  own-told demands are pairs all rising =
      pairs-are f.entries (reaches f.entries (items_followed f)) stand (told_at f held) (held_items (operands f.linkage) f.entries held) (held_leads f.entries f held) (part_len held.part)
      (λ k low. byte-told f followed held until k (byte-of k low) own)
      (λ k low. items k (byte-of k low))
      (λ k low. refl)
      one pairs rising (subst (λ (list : List Demand). AreAsked (event_at f.entries) (reaches f.entries (items_followed f)) list pairs) are all)

-- of these records, up to the moment
pub held-told : (entries : List Record) (f : Following) (held : Held) → IsOf entries f.linkage held.moment f → PairsAreOne → NumbersStand → IsFollowing f → is_held entries held ≡ true → IsOwnFollowed f held.pid → AreItemsThere f held
    → (demands : List Demand) → demands ≡ held_demands f held (part_len held.part) → (pairs : List Pair) → AreAsked (event_at entries) (reaches entries (items_followed f)) demands pairs → IsRising pairs
    → pairs ≡ pairs_from (held_leads entries f held) 0 (part_len held.part)
held-told entries f held of one stand followed is own items demands are pairs all rising =
    subst (λ (es : List Record). pairs ≡ pairs_from (held_leads es f held) 0 (part_len held.part)) of.entries_are
    (own-told one stand f followed held (sym of.until_is) (subst (λ (es : List Record). is_held es held ≡ true) (sym of.entries_are) is) own items
    demands are pairs (subst (λ (es : List Record). AreAsked (event_at es) (reaches es (items_followed f)) demands pairs) (sym of.entries_are) all) rising)
