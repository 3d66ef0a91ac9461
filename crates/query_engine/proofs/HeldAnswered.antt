-- What answers of bytes that a process holds.
use Rattle.std.proofs.Common.{◌≡◌, ℕ, ◌<◌, nat_lt, true, List, [], ◌∷◌, All, Contains, Option, Some, None, IfSome, IsSome, option_to_list, refl, sym, ap, subst, ◌∙◌, arith, zero, suc, ltb-true}
use Rattle.std.proofs.lemmas.Bool.{and_parts}
use Rattle.arn_base.specs.declared.records.Pair.{Pair}
use Rattle.arn_base.specs.declared.records.Record.{Record}
use Rattle.rv64_model.specs.Carries.{operands}
use Rattle.rv64_model.specs.declared.linkage.Linkage.{Linkage}
use Rattle.exchange_graph.specs.Reach.{Lists}
use Rattle.history_index.specs.Lookups.{groups_in}
use Rattle.history_model.specs.Broken.{first_broken}
use Rattle.history_model.specs.Exchanges.{Back, Starting}
use Rattle.history_model.specs.Groups.{group_of}
use Rattle.lineage_model.specs.Pairs.{pairs_from}
use Rattle.past_lives.specs.Members.{is_member}
use Rattle.query_model.specs.Linked.{groups_back}
use Rattle.query_model.specs.Sources.{items_at}
use Rattle.query_model.specs.States.{HasByte, held_pairs, held_sources, part_len, process_groups}
use Rattle.query_model.specs.declared.held.Held.{Held}
use Rattle.query_model.specs.declared.held.Part.{Part}
use Rattle.query_model.specs.declared.held.Part.TheVariants as part
use Rattle.window_laws.specs.Blocks.{HasWholeBlocks}
use Rattle.query_laws.specs.Laws.{GroupsAreConnected, GroupsAreOne}
use Rattle.followed_groups.specs.Following.{Following, HasFollowed, IsOf, tracker_of}
use Rattle.followed_pairs.specs.Items.{ItemsAreOfGroups}
use Rattle.followed_pairs.specs.Leads.{held_leads}
use Rattle.followed_pairs.specs.States.{AreItemsThere, IsOwnFollowed, has_part, is_held}
use Rattle.query_engine.specs.Laws.{LawsOfStates}
use Rattle.query_engine.proofs.Known.{group-known}
use Rattle.query_engine.proofs.Same.{pairs-same}

-- the process's group is one of the groups, and is asked
pub process-known : (entries : List Record) (pid : ℕ) → first_broken entries ≡ None → (o : Option ℕ) → group_of entries pid ≡ o → All (Contains (groups_in entries)) (option_to_list o)
process-known entries pid unbroken None is k d l = absurd (omega arith)
process-known entries pid unbroken (Some g) is zero d l = group-known entries pid g unbroken is
process-known entries pid unbroken (Some g) is (suc k) d l = absurd (omega arith)

process-asked : (entries : List Record) (pid : ℕ) → GroupsAreConnected → first_broken entries ≡ None → (o : Option ℕ) → group_of entries pid ≡ o → IfSome o (Contains (groups_back entries (option_to_list o)))
process-asked entries pid connected unbroken None is = tt
process-asked entries pid connected unbroken (Some g) is =
    let lists = connected entries (g ∷ []) unbroken (process-known entries pid unbroken (Some g) is) in
    (lists.members g).1 (Starting g (0, omega arith, refl))

pub groups-are : (entries : List Record) (pid : ℕ) → GroupsAreOne → first_broken entries ≡ None → (o : Option ℕ) → group_of entries pid ≡ o → (groups : List ℕ) → Lists groups (Back entries (option_to_list o))
    → groups ≡ process_groups entries pid
groups-are entries pid one unbroken o is groups lists =
    one entries (option_to_list o) groups unbroken (process-known entries pid unbroken o is) lists ∙ ap (λ (p : Option ℕ). groups_back entries (option_to_list p)) (sym is)

-- so it was followed, where all that are asked were
own-followed : (f : Following) (pid : ℕ) → HasFollowed f (process_groups f.entries pid) → (o : Option ℕ) → IfSome o (Contains (process_groups f.entries pid)) → IfSome o (λ g. IsSome (tracker_of f g))
own-followed f pid has None asked = tt
own-followed f pid has (Some g) asked = has g asked

-- it has each byte that is asked for
module _ (entries : List Record) (moment pid : ℕ) where
  part-byte : (p : Part) → has_part entries moment pid p ≡ true → (k : ℕ) → k < part_len p → HasByte p k
  part-byte (part.Register r) is k low = (ltb-true r 32 (and_parts (is_member entries moment pid) (nat_lt r 32) is).1, low)
  part-byte (part.Memory at len) is k low = low

-- of what was followed
module _ (f : Following) (items : ItemsAreOfGroups) (unbroken : first_broken f.entries ≡ None) (whole : All HasWholeBlocks f.entries) (held : Held) (has : HasFollowed f (process_groups f.entries held.pid)) where
  own-group : GroupsAreConnected → IsOwnFollowed f held.pid
  own-group connected = own-followed f held.pid has (group_of f.entries held.pid) (process-asked f.entries held.pid connected unbroken (group_of f.entries held.pid) refl)

  leads-same : LawsOfStates → held.moment ≡ f.until → (k : ℕ) → HasByte held.part k → held_leads f.entries f held k ≡ held_sources (operands f.linkage) f.entries held k
  leads-same states until k byte =
      states.reaching f.linkage f.entries held _ unbroken whole
      (λ event at asked there. (items f).all (process_groups f.entries held.pid) has event at asked there ∙ ap (λ (n : ℕ). items_at (operands f.linkage) f.entries n event at) (sym until)) k byte

  own-answered : LawsOfStates → held.moment ≡ f.until → is_held f.entries held ≡ true → (pairs : List Pair) → pairs ≡ pairs_from (held_leads f.entries f held) 0 (part_len held.part) → pairs ≡ held_pairs (operands f.linkage) f.entries held
  own-answered states until is pairs told =
      told ∙ pairs-same (held_leads f.entries f held) (held_sources (operands f.linkage) f.entries held) (part_len held.part) (λ k low. leads-same states until k (part-byte f.entries held.moment held.pid held.part is k low))

-- of these records, with this table, up to this moment
module _ (entries : List Record) (linkage : Linkage) (f : Following) (held : Held) (of : IsOf entries linkage held.moment f) (unbroken : first_broken entries ≡ None) (whole : All HasWholeBlocks entries) (has : HasFollowed f (process_groups entries held.pid)) where
  of-unbroken : first_broken f.entries ≡ None
  of-unbroken = ap first_broken of.entries_are ∙ unbroken

  of-whole : All HasWholeBlocks f.entries
  of-whole = subst (λ (es : List Record). All HasWholeBlocks es) (sym of.entries_are) whole

  of-has : HasFollowed f (process_groups f.entries held.pid)
  of-has = subst (λ (es : List Record). HasFollowed f (process_groups es held.pid)) (sym of.entries_are) has

  pub own-of : IsOf entries f.linkage held.moment f
  own-of = record { entries_are = of.entries_are; linkage_is = refl; until_is = of.until_is }

  pub own : ItemsAreOfGroups → GroupsAreConnected → IsOwnFollowed f held.pid
  own items connected = own-group f items of-unbroken of-whole held of-has connected

  pub there : LawsOfStates → AreItemsThere f held
  there states k byte = states.there f.linkage f.entries held k of-unbroken of-whole byte

  pub answered : ItemsAreOfGroups → LawsOfStates → is_held entries held ≡ true → (pairs : List Pair) → pairs ≡ pairs_from (held_leads entries f held) 0 (part_len held.part) → pairs ≡ held_pairs (operands linkage) entries held
  answered items states is pairs told =
      subst (λ (es : List Record). pairs ≡ held_pairs (operands linkage) es held) of.entries_are
      (subst (λ (l : Linkage). pairs ≡ held_pairs (operands l) f.entries held) of.linkage_is
      (own-answered f items of-unbroken of-whole held of-has states (sym of.until_is) (subst (λ (es : List Record). is_held es held ≡ true) (sym of.entries_are) is) pairs
      (subst (λ (es : List Record). pairs ≡ pairs_from (held_leads es f held) 0 (part_len held.part)) (sym of.entries_are) told)))
