-- The groups that are asked are the connected ones: over as many links as there are groups no more are found.
use Rattle.std.proofs.Common.{◌≡◌, inl, inr, ℕ, zero, suc, ◌==◌, ◌&&◌, Bool, true, List, length, None, refl, subst, All, Contains, filter}
use Rattle.std.proofs.lemmas.Bool.{false≢true, and_parts}
use Rattle.std.proofs.lemmas.Bool.Decides.{eqb_tells}
use Rattle.std.proofs.lemmas.List.Elements.{All-contains}
use Rattle.arn_base.specs.declared.records.Record.{Record}
use Rattle.exchange_graph.specs.Reach.{Lists, Rises}
use Rattle.history_index.specs.Lookups.{groups_in, processes_in}
use Rattle.history_model.specs.Broken.{first_broken, greatest}
use Rattle.history_model.specs.Exchanges.{Back, Starting, Backward, Edge, ByBytes, ByFork}
use Rattle.history_model.specs.Groups.{group_of, is_number}
use Rattle.query_model.specs.Linked.{is_linked, within_links, groups_back}
use Rattle.query_laws.proofs.Found.{event-is-of}
use Rattle.query_laws.proofs.Growing.{from-first, leads-on, settled-at-most, step-parts}
use Rattle.query_laws.proofs.Links.{edge-linked, linked-edge}
use Rattle.query_laws.proofs.Lists.{any-in, in-any, kept-in, in-kept}
use Rattle.query_laws.proofs.Rises.{filter-rises, range-rises, listed-one}

pub same-number : (g h : ℕ) → (g == h) ≡ true → g ≡ h
same-number g h is = elim (eqb_tells g h) [ inl same ↦ same.1 | inr apart ↦ absurd (false≢true (rw apart.0 at is)) ]

pub itself : (g : ℕ) → (g == g) ≡ true
itself g = elim (eqb_tells g g) [ inl same ↦ same.0 | inr apart ↦ absurd (apart.1 refl) ]

pub filtered-rise : (entries : List Record) (test : ℕ → Bool) → Rises (filter test (groups_in entries))
filtered-rise entries test = filter-rises test (groups_in entries) (filter-rises (λ pid. is_number pid (group_of entries pid)) (processes_in entries) (range-rises 1 (greatest entries)))

module _ (entries : List Record) (from : List ℕ) where
  abbrev within : ℕ → ℕ → Bool
  within n = within_links entries from n

  abbrev link : ℕ → ℕ → Bool
  link g h = is_linked entries h g

  -- what is found is connected
  found-back : (n h : ℕ) → within n h ≡ true → Back entries from h
  found-back zero h is =
      let found = in-any (λ g. g == h) from is in
      Starting h (subst (λ (k : ℕ). Contains from k) (same-number found.0 h found.2) found.1)
  found-back (suc n) h is = elim (step-parts (groups_in entries) link within (λ m k. refl) n h is) [
    | inl before ↦ found-back n h before
    | inr led ↦ (
        let found = in-any (λ g. within n g && link g h) (groups_in entries) led in
        let parts = and_parts (within n found.0) (link found.0 h) found.2 in
        Backward h found.0 (found-back n found.0 parts.0) (linked-edge entries h found.0 parts.1))
  ]

  abbrev most : ℕ
  most = length (groups_in entries)

  edge-group : first_broken entries ≡ None → (h g : ℕ) → Edge entries h g → Contains (groups_in entries) h
  edge-group stands h g (ByBytes n give origin group is has origin-group) = event-is-of entries stands origin.event h origin-group
  edge-group stands h g (ByFork n group is) = event-is-of entries stands n h group

  -- and what is connected is found
  back-group : first_broken entries ≡ None → All (Contains (groups_in entries)) from → (h : ℕ) → Back entries from h → Contains (groups_in entries) h
  back-group stands groups h (Starting g has) = All-contains (Contains (groups_in entries)) from h groups has
  back-group stands groups h (Backward g next back edge) = edge-group stands h next edge

  back-found : first_broken entries ≡ None → All (Contains (groups_in entries)) from → (h : ℕ) → Back entries from h → within most h ≡ true
  back-found stands groups h (Starting g has) = from-first (groups_in entries) link within (λ m k. refl) most h (any-in (λ g. g == h) from h has (itself h))
  back-found stands groups h (Backward g next back edge) =
      settled-at-most (groups_in entries) link within (λ m k. refl) h (edge-group stands h next edge)
      (leads-on (groups_in entries) link within (λ m k. refl) most h next (back-group stands groups next back) (back-found stands groups next back) (edge-linked entries h next edge))

  pub connected : first_broken entries ≡ None → All (Contains (groups_in entries)) from → Lists (groups_back entries from) (Back entries from)
  connected stands groups = record {
    rises = filtered-rise entries (within most);
    members = λ n. (
      λ has. found-back most n (in-kept (within most) (groups_in entries) n has).1,
      λ back. kept-in (within most) (groups_in entries) n (back-group stands groups n back) (back-found stands groups n back),
    );
  }

  pub only-one : first_broken entries ≡ None → All (Contains (groups_in entries)) from → (groups : List ℕ) → Lists groups (Back entries from) → groups ≡ groups_back entries from
  only-one stands all groups lists = listed-one (Back entries from) groups (groups_back entries from) lists (connected stands all)
