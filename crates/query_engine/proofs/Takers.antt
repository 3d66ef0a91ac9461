-- The groups that had bytes of an event first.
use Rattle.std.proofs.Common.{◌≡◌, ◌⊎◌, ◌↔◌, inl, inr, ℕ, ◌<◌, ◌≤◌, ◌||◌, Bool, true, false, if◌then◌else◌, List, [], filter, All, Contains, Option, Some, None, refl, ap, sym, subst, ◌∙◌, arith}
use Rattle.std.proofs.lemmas.List.Elements.{All-contains_itself, All-filter}
use Rattle.arn_base.specs.declared.records.Record.{Record}
use Rattle.exchange_graph.specs.Reach.{Lists}
use Rattle.history_index.specs.Lookups.{groups_in}
use Rattle.history_model.specs.Broken.{first_broken}
use Rattle.history_model.specs.Events.{event_at, how_many}
use Rattle.history_model.specs.Exchanges.{Beginning, Forth, Forward}
use Rattle.history_model.specs.Groups.{event_group}
use Rattle.lineage_model.specs.Joined.{is_source}
use Rattle.query_laws.specs.Forth.{FirstAreTold, ForthIsOne, HadFirst, Read, TakesAt, Took}
use Rattle.query_model.specs.Forth.{first_by, first_groups, forth_groups, has_read, has_taken}
use Rattle.followed_pairs.specs.Copies.{AreTakers, TookBefore}
use Rattle.followed_pairs.specs.declared.asked.Asked.{Asked}
use Rattle.query_engine.specs.Reached.{HaveSame}

-- members of no list
none-has : {X : Type 0} (x : X) → Contains [] x → ⊥
none-has x c = absurd (let low = c.1 in omega arith)

-- all that had them first
module _ (entries : List Record) (asked : Asked) (e : Record) (told : FirstAreTold) (stands : first_broken entries ≡ None) (at : event_at entries asked.event ≡ Some e) (source : is_source e ≡ true) where
  abbrev first : List ℕ
  first = first_groups entries asked.event asked.from asked.len

  abbrev first-told : (g : ℕ) → Contains first g ↔ HadFirst entries asked.event asked.from asked.len g
  first-told = told entries asked.event asked.from asked.len e stands at source

  took : (g : ℕ) → TookBefore entries asked (how_many entries) g → HadFirst entries asked.event asked.from asked.len g
  took g t = Took t.0 t.1 (record { group = t.2.group; copy = t.2.copy })

  before : (n g : ℕ) → n < how_many entries → TakesAt entries asked.event asked.from asked.len g n → TookBefore entries asked (how_many entries) g
  before n g low t = (n, low, record { group = t.group; copy = t.copy })

  pub with-own : (o : Option ℕ) (xs ys : List ℕ) → AreTakers entries asked (how_many entries) xs → ((g : ℕ) → Contains ys g ↔ (Contains xs g ⊎ (o ≡ Some g))) → o ≡ event_group entries asked.event → 0 < asked.len → HaveSame ys first
  with-own o xs ys are more is some g = (
    λ c. (first-told g).1 (elim ((more g).0 c) [ inl d ↦ took g ((are g).0 d) | inr e ↦ Read some (sym is ∙ e) ]),
    λ c. had ((first-told g).0 c),
  )
    where
      had : HadFirst entries asked.event asked.from asked.len g → Contains ys g
      had (Took n low t) = (more g).1 (inl ((are g).1 (before n g low t)))
      had (Read low group) = (more g).1 (inr (is ∙ group))

  pub without-own : (xs : List ℕ) → AreTakers entries asked (how_many entries) xs → asked.len ≤ 0 → HaveSame xs first
  without-own xs are none g = (
    λ c. (first-told g).1 (took g ((are g).0 c)),
    λ c. had ((first-told g).0 c),
  )
    where
      had : HadFirst entries asked.event asked.from asked.len g → Contains xs g
      had (Took n low t) = (are g).1 (before n g low t)
      had (Read low group) = absurd (omega arith)

-- bytes that didn't come from outside
pub no-source : (entries : List Record) (event from len : ℕ) (o : Option Record) → event_at entries event ≡ o → ((e : Record) → o ≡ Some e → is_source e ≡ false) → first_groups entries event from len ≡ []
no-source entries event from len None at plain = ap (first_by entries event from len) at
no-source entries event from len (Some e) at plain =
    ap (first_by entries event from len) at
    ∙ ap (λ (b : Bool). if b then filter (λ g. has_taken entries event from len g || has_read entries event len g) (groups_in entries) else []) (plain e refl)

pub same-none : (xs : List ℕ) → xs ≡ [] → HaveSame [] xs
same-none xs is g = (λ c. absurd (none-has g c), λ c. absurd (none-has g (subst (λ (ys : List ℕ). Contains ys g) is c)))

-- groups of the same numbers lead to the same groups
forth-same : (entries : List Record) (xs ys : List ℕ) → HaveSame xs ys → (g : ℕ) → Forth entries xs g → Forth entries ys g
forth-same entries xs ys same g (Beginning h has) = Beginning g ((same g).0 has)
forth-same entries xs ys same g (Forward h previous forth edge) = Forward g previous (forth-same entries xs ys same previous forth) edge

turned : (xs ys : List ℕ) → HaveSame xs ys → HaveSame ys xs
turned xs ys same n = ((same n).1, (same n).0)

module _ (entries : List Record) where
  first-known : (event from len : ℕ) (o : Option Record) → All (Contains (groups_in entries)) (first_by entries event from len o)
  first-known event from len None = λ k d l. absurd (omega arith)
  first-known event from len (Some e) = by_test (is_source e)
    where
      by_test : (b : Bool) → All (Contains (groups_in entries)) (if b then filter (λ g. has_taken entries event from len g || has_read entries event len g) (groups_in entries) else [])
      by_test true = All-filter (λ g. has_taken entries event from len g || has_read entries event len g) (Contains (groups_in entries)) (groups_in entries) (All-contains_itself (groups_in entries))
      by_test false = λ k d l. absurd (omega arith)

pub groups-are : (entries : List Record) (asked : Asked) → ForthIsOne → first_broken entries ≡ None → (xs : List ℕ) → HaveSame xs (first_groups entries asked.event asked.from asked.len) → (groups : List ℕ) → Lists groups (Forth entries xs)
    → groups ≡ forth_groups entries asked.event asked.from asked.len
groups-are entries asked one stands xs same groups lists =
    let first = first_groups entries asked.event asked.from asked.len in
    one entries first groups stands (first-known entries asked.event asked.from asked.len (event_at entries asked.event))
    (record { rises = lists.rises; members = λ n. (λ has. forth-same entries xs first same n ((lists.members n).0 has), λ forth. (lists.members n).1 (forth-same entries first xs (turned xs first same) n forth)) })
