-- The groups that are asked forward are the connected ones.
use Rattle.std.proofs.Common.{◌≡◌, inl, inr, ℕ, zero, suc, ◌==◌, ◌&&◌, Bool, true, List, length, None, refl, subst, All, Contains}
use Rattle.std.proofs.lemmas.Bool.{and_parts}
use Rattle.std.proofs.lemmas.List.Elements.{All-contains}
use Rattle.arn_base.specs.declared.records.Record.{Record}
use Rattle.exchange_graph.specs.Reach.{Lists}
use Rattle.history_index.specs.Lookups.{groups_in}
use Rattle.history_model.specs.Broken.{first_broken}
use Rattle.history_model.specs.Exchanges.{Forth, Beginning, Forward, Edge, ByBytes, ByFork}
use Rattle.query_model.specs.Forth.{groups_forth, within_links_forth}
use Rattle.query_model.specs.Linked.{is_linked}
use Rattle.query_laws.proofs.Asked.{filtered-rise, itself, same-number}
use Rattle.query_laws.proofs.Found.{event-is-of}
use Rattle.query_laws.proofs.Founding.{founded-is-of}
use Rattle.query_laws.proofs.Growing.{from-first, leads-on, settled-at-most, step-parts}
use Rattle.query_laws.proofs.Links.{edge-linked, linked-edge}
use Rattle.query_laws.proofs.Lists.{any-in, in-any, kept-in, in-kept}
use Rattle.query_laws.proofs.Rises.{listed-one}

module _ (entries : List Record) (from : List ℕ) where
  abbrev within : ℕ → ℕ → Bool
  within n = within_links_forth entries from n

  -- what is found is connected
  found-forth : (n g : ℕ) → within n g ≡ true → Forth entries from g
  found-forth zero g is =
      let found = in-any (λ h. h == g) from is in
      Beginning g (subst (λ (k : ℕ). Contains from k) (same-number found.0 g found.2) found.1)
  found-forth (suc n) g is = elim (step-parts (groups_in entries) (is_linked entries) within (λ m k. refl) n g is) [
    | inl before ↦ found-forth n g before
    | inr led ↦ (
        let found = in-any (λ h. within n h && is_linked entries h g) (groups_in entries) led in
        let parts = and_parts (within n found.0) (is_linked entries found.0 g) found.2 in
        Forward g found.0 (found-forth n found.0 parts.0) (linked-edge entries found.0 g parts.1))
  ]

  abbrev most : ℕ
  most = length (groups_in entries)

  edge-group : first_broken entries ≡ None → (h g : ℕ) → Edge entries h g → Contains (groups_in entries) g
  edge-group stands h g (ByBytes n give origin group is has origin-group) = event-is-of entries stands n g group
  edge-group stands h g (ByFork n group is) = founded-is-of entries stands n g is

  -- and what is connected is found
  forth-group : first_broken entries ≡ None → All (Contains (groups_in entries)) from → (g : ℕ) → Forth entries from g → Contains (groups_in entries) g
  forth-group stands groups g (Beginning h has) = All-contains (Contains (groups_in entries)) from g groups has
  forth-group stands groups g (Forward h previous forth edge) = edge-group stands previous g edge

  forth-found : first_broken entries ≡ None → All (Contains (groups_in entries)) from → (g : ℕ) → Forth entries from g → within most g ≡ true
  forth-found stands groups g (Beginning h has) = from-first (groups_in entries) (is_linked entries) within (λ m k. refl) most g (any-in (λ h. h == g) from g has (itself g))
  forth-found stands groups g (Forward h previous forth edge) =
      settled-at-most (groups_in entries) (is_linked entries) within (λ m k. refl) g (edge-group stands previous g edge)
      (leads-on (groups_in entries) (is_linked entries) within (λ m k. refl) most g previous (forth-group stands groups previous forth) (forth-found stands groups previous forth) (edge-linked entries previous g edge))

  pub forth-connected : first_broken entries ≡ None → All (Contains (groups_in entries)) from → Lists (groups_forth entries from) (Forth entries from)
  forth-connected stands groups = record {
    rises = filtered-rise entries (within most);
    members = λ n. (
      λ has. found-forth most n (in-kept (within most) (groups_in entries) n has).1,
      λ forth. kept-in (within most) (groups_in entries) n (forth-group stands groups n forth) (forth-found stands groups n forth),
    );
  }

  pub forth-only-one : first_broken entries ≡ None → All (Contains (groups_in entries)) from → (groups : List ℕ) → Lists groups (Forth entries from) → groups ≡ groups_forth entries from
  forth-only-one stands all groups lists = listed-one (Forth entries from) groups (groups_forth entries from) lists (forth-connected stands all)
