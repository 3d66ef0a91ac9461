-- The links of a history are its edges.
use Rattle.std.proofs.Common.{◌≡◌, inl, inr, ℕ, zero, suc, ◌+◌, ◌<◌, ◌==◌, if◌then◌else◌, length, take, get_or, List, [], ◌∷◌, ◌++◌, Option, Some, None, option_and_then, slice_get, refl, ap, ap₂, sym, subst, ◌∙◌, arith, add-zero}
use Rattle.std.specs.Prelude.{Contains}
use Rattle.std.proofs.lemmas.Bool.Decides.{eqb_tells}
use Rattle.std.proofs.lemmas.List.{take_more}
use Rattle.std.proofs.lemmas.List.Elements.{Contains-append_left, Contains-append_right, Contains-append_cases, Contains-push}
use Rattle.std.proofs.lemmas.Option.{none-some, same_Some, option_and_then_some}
use Rattle.arn_base.specs.declared.records.Give.{Give}
use Rattle.arn_base.specs.declared.records.Origin.{Origin}
use Rattle.arn_base.specs.declared.records.Record.{Record}
use Rattle.history_model.specs.Events.{events, event_at}
use Rattle.history_model.specs.Exchanges.{Edge, ByBytes, ByFork, Back, Starting, Backward, Forth, Beginning, Forward, received, founded}
use Rattle.history_model.specs.Groups.{event_group}
use Rattle.exchange_graph.specs.declared.links.Link.{Link}
use Rattle.exchange_graph.specs.Links.{link_between, byte_links, give_links, event_links, links_from, links_of, ends_of, begins_of}
use Rattle.exchange_graph.specs.Graphs.{Connections, AreLaid, Tells}
use Rattle.exchange_graph.specs.Reach.{Reach, Given, Followed, Lists}
use Rattle.exchange_graph.specs.Rows.{row_of, row_with}
use Rattle.exchange_graph.proofs.Marks.{none-in, head-or-tail}

abbrev pub link : ℕ → ℕ → Link
link h g = record { from = h; to = g }

first-in : {X : Type 0} (x : X) (xs : List X) → Contains (x ∷ xs) x
first-in x xs = Contains-append_left (x ∷ []) xs x (Contains-push [] x)

later-in : {X : Type 0} (y x : X) (xs : List X) → Contains xs x → Contains (y ∷ xs) x
later-in y x xs h = Contains-append_right (y ∷ []) xs x h

only-in : {X : Type 0} (y x : X) → Contains (y ∷ []) x → y ≡ x
only-in y x h = elim (head-or-tail y x [] h) [ inl is ↦ is | inr none ↦ absurd (none-in x none) ]

between-in : (from to : Option ℕ) (h g : ℕ) → from ≡ Some h → to ≡ Some g → Contains (link_between from to) (link h g)
between-in from to h g a b = rw (a, b) (first-in (link h g) [])

between-out : (from to : Option ℕ) (h g : ℕ) → Contains (link_between from to) (link h g) → (from ≡ Some h) × (to ≡ Some g)
between-out None to h g has = absurd (none-in (link h g) has)
between-out (Some from) None h g has = absurd (none-in (link h g) has)
between-out (Some from) (Some to) h g has =
    let is = only-in (link from to) (link h g) has in
    (ap (λ (l : Link). Some l.from) is, ap (λ (l : Link). Some l.to) is)

module _ (told : ℕ → Option ℕ) (to : Option ℕ) (h g : ℕ) where
  bytes-in : (origins : List Origin) (origin : Origin) → Contains origins origin → told origin.event ≡ Some h → to ≡ Some g → Contains (byte_links told to origins) (link h g)
  bytes-in [] origin has a b = absurd (none-in origin has)
  bytes-in (o ∷ origins) origin has a b =
      elim (head-or-tail o origin origins has) [
        | inl is ↦ Contains-append_left (link_between (told o.event) to) (byte_links told to origins) (link h g) (between-in (told o.event) to h g (ap (λ (x : Origin). told x.event) is ∙ a) b)
        | inr later ↦ Contains-append_right (link_between (told o.event) to) (byte_links told to origins) (link h g) (bytes-in origins origin later a b)
      ]

  bytes-out : (origins : List Origin) → Contains (byte_links told to origins) (link h g) → (origin : Origin) × Contains origins origin × (told origin.event ≡ Some h) × (to ≡ Some g)
  bytes-out [] has = absurd (none-in (link h g) has)
  bytes-out (o ∷ origins) has =
      elim (Contains-append_cases (link_between (told o.event) to) (byte_links told to origins) (link h g) has) [
        | inl here ↦ (let is = between-out (told o.event) to h g here in (o, first-in o origins, is.0, is.1))
        | inr later ↦ (let rest = bytes-out origins later in (rest.0, later-in o rest.0 origins rest.1, rest.2, rest.3))
      ]

module _ (told : ℕ → Option ℕ) (l : Link) where
  event-in : (n : ℕ) (told_next : List Record) (k : ℕ) (e : Record) → slice_get told_next k ≡ Some e → Contains (event_links told (told (n + k)) e) l → Contains (links_from told n told_next) l
  event-in n [] k e is has = absurd (none-some e is)
  event-in n (x ∷ xs) zero e is has =
      Contains-append_left (event_links told (told n) x) (links_from told (n + 1) xs) l (let none : n + 0 ≡ n = omega arith in rw (same_Some x e is) (rw none at has))
  event-in n (x ∷ xs) (suc k) e is has =
      let next : n + suc k ≡ n + 1 + k = omega arith in
      Contains-append_right (event_links told (told n) x) (links_from told (n + 1) xs) l (event-in (n + 1) xs k e is (rw next at has))

  event-out : (n : ℕ) (told_next : List Record) → Contains (links_from told n told_next) l → (k : ℕ) × (e : Record) × (slice_get told_next k ≡ Some e) × Contains (event_links told (told (n + k)) e) l
  event-out n [] has = absurd (none-in l has)
  event-out n (x ∷ xs) has =
      elim (Contains-append_cases (event_links told (told n) x) (links_from told (n + 1) xs) l has) [
        | inl here ↦ (0, x, refl, rw add-zero here)
        | inr later ↦ (let rest = event-out (n + 1) xs later in let next : n + suc rest.0 ≡ n + 1 + rest.0 = omega arith in (suc rest.0, rest.1, rest.2, rw next rest.3))
      ]

module _ (entries : List Record) (h g : ℕ) where
  gave-out : (n : ℕ) (e : Record) (give : Option Give) → event_at entries n ≡ Some e → received e ≡ give → Contains (give_links (event_group entries) (event_group entries n) give) (link h g) → Edge entries h g
  gave-out n e None at is has = absurd (none-in (link h g) has)
  gave-out n e (Some give) at is has =
      let found = bytes-out (event_group entries) (event_group entries n) h g give.origins has in
      ByBytes n give found.0 found.3 (ap (option_and_then received) at ∙ is) found.1 found.2

  event-edge : (n : ℕ) (e : Record) → event_at entries n ≡ Some e → Contains (event_links (event_group entries) (event_group entries n) e) (link h g) → Edge entries h g
  event-edge n e at has =
      elim (Contains-append_cases (give_links (event_group entries) (event_group entries n) (received e)) (link_between (event_group entries n) (founded e)) (link h g) has) [
        | inl gave ↦ gave-out n e (received e) at refl gave
        | inr forked ↦ (let is = between-out (event_group entries n) (founded e) h g forked in ByFork n is.0 (ap (option_and_then founded) at ∙ is.1))
      ]

  pub linked-edge : Contains (links_of entries) (link h g) → Edge entries h g
  linked-edge has =
      let found = event-out (event_group entries) (link h g) 0 (events entries) has in
      let same : 0 + found.0 ≡ found.0 = omega arith in
      event-edge found.0 found.1 found.2 (rw same at found.3)

  at-event : (n : ℕ) (e : Record) → event_at entries n ≡ Some e → Contains (event_links (event_group entries) (event_group entries n) e) (link h g) → Contains (links_of entries) (link h g)
  at-event n e at has =
      let same : 0 + n ≡ n = omega arith in
      event-in (event_group entries) (link h g) 0 (events entries) n e at (rw same has)

  gave-in : (n : ℕ) (give : Give) (origin : Origin) (e : Record) → event_at entries n ≡ Some e → received e ≡ Some give → event_group entries n ≡ Some g → Contains give.origins origin → event_group entries origin.event ≡ Some h → Contains (links_of entries) (link h g)
  gave-in n give origin e at is group has from =
      at-event n e at (Contains-append_left (give_links (event_group entries) (event_group entries n) (received e)) (link_between (event_group entries n) (founded e)) (link h g) (rw is (bytes-in (event_group entries) (event_group entries n) h g give.origins origin has from group)))

  forked-in : (n : ℕ) (e : Record) → event_at entries n ≡ Some e → event_group entries n ≡ Some h → founded e ≡ Some g → Contains (links_of entries) (link h g)
  forked-in n e at group is =
      at-event n e at (Contains-append_right (give_links (event_group entries) (event_group entries n) (received e)) (link_between (event_group entries n) (founded e)) (link h g) (between-in (event_group entries n) (founded e) h g group is))

  pub edge-linked : Edge entries h g → Contains (links_of entries) (link h g)
  edge-linked (ByBytes n give origin group is has from) =
      option_and_then_some received (event_at entries n) give is (λ e at gives. gave-in n give origin e at gives group has from)
  edge-linked (ByFork n group is) =
      option_and_then_some founded (event_at entries n) g is (λ e at founds. forked-in n e at group founds)

-- where links lead and begin
pub ends-in : (links : List Link) (h g : ℕ) → Contains links (link h g) → Contains (ends_of links h) g
ends-in [] h g has = absurd (none-in (link h g) has)
ends-in (l ∷ links) h g has =
    elim (eqb_tells l.from h) [
      | inl here ↦ rw here.0 (elim (head-or-tail l (link h g) links has) [
        | inl is ↦ subst (λ (k : ℕ). Contains (l.to ∷ ends_of links h) k) (ap (λ (x : Link). x.to) is) (first-in l.to (ends_of links h))
        | inr later ↦ later-in l.to g (ends_of links h) (ends-in links h g later)
      ])
      | inr apart ↦ rw apart.0 (elim (head-or-tail l (link h g) links has) [
        | inl is ↦ absurd (apart.1 (ap (λ (x : Link). x.from) is))
        | inr later ↦ ends-in links h g later
      ])
    ]

pub ends-out : (links : List Link) (h g : ℕ) → Contains (ends_of links h) g → Contains links (link h g)
ends-out [] h g has = absurd (none-in g has)
ends-out (l ∷ links) h g has =
    elim (eqb_tells l.from h) [
      | inl here ↦ elim (head-or-tail l.to g (ends_of links h) (rw here.0 at has)) [
        | inl is ↦ subst (λ (x : Link). Contains (l ∷ links) x) (ap₂ link here.1 is) (first-in l links)
        | inr later ↦ later-in l (link h g) links (ends-out links h g later)
      ]
      | inr apart ↦ later-in l (link h g) links (ends-out links h g (rw apart.0 at has))
    ]

pub begins-in : (links : List Link) (h g : ℕ) → Contains links (link h g) → Contains (begins_of links g) h
begins-in [] h g has = absurd (none-in (link h g) has)
begins-in (l ∷ links) h g has =
    elim (eqb_tells l.to g) [
      | inl here ↦ rw here.0 (elim (head-or-tail l (link h g) links has) [
        | inl is ↦ subst (λ (k : ℕ). Contains (l.from ∷ begins_of links g) k) (ap (λ (x : Link). x.from) is) (first-in l.from (begins_of links g))
        | inr later ↦ later-in l.from h (begins_of links g) (begins-in links h g later)
      ])
      | inr apart ↦ rw apart.0 (elim (head-or-tail l (link h g) links has) [
        | inl is ↦ absurd (apart.1 (ap (λ (x : Link). x.to) is))
        | inr later ↦ begins-in links h g later
      ])
    ]

pub begins-out : (links : List Link) (h g : ℕ) → Contains (begins_of links g) h → Contains links (link h g)
begins-out [] h g has = absurd (none-in h has)
begins-out (l ∷ links) h g has =
    elim (eqb_tells l.to g) [
      | inl here ↦ elim (head-or-tail l.from h (begins_of links g) (rw here.0 at has)) [
        | inl is ↦ subst (λ (x : Link). Contains (l ∷ links) x) (ap₂ link is here.1) (first-in l links)
        | inr later ↦ later-in l (link h g) links (begins-out links h g later)
      ]
      | inr apart ↦ later-in l (link h g) links (begins-out links h g (rw apart.0 at has))
    ]

-- links are laid one after the other
ends-push : (links : List Link) (l : Link) (n : ℕ) → ends_of (links ++ l ∷ []) n ≡ (if l.from == n then ends_of links n ++ l.to ∷ [] else ends_of links n)
ends-push [] l n = refl
ends-push (x ∷ links) l n =
    elim (eqb_tells x.from n) [
      | inl a ↦ elim (eqb_tells l.from n) [
        | inl b ↦ rw (a.0, b.0) (ap (λ (ns : List ℕ). x.to ∷ ns) (rw b.0 at (ends-push links l n)))
        | inr b ↦ rw (a.0, b.0) (ap (λ (ns : List ℕ). x.to ∷ ns) (rw b.0 at (ends-push links l n)))
      ]
      | inr a ↦ rw a.0 (ends-push links l n)
    ]

begins-push : (links : List Link) (l : Link) (n : ℕ) → begins_of (links ++ l ∷ []) n ≡ (if l.to == n then begins_of links n ++ l.from ∷ [] else begins_of links n)
begins-push [] l n = refl
begins-push (x ∷ links) l n =
    elim (eqb_tells x.to n) [
      | inl a ↦ elim (eqb_tells l.to n) [
        | inl b ↦ rw (a.0, b.0) (ap (λ (ns : List ℕ). x.from ∷ ns) (rw b.0 at (begins-push links l n)))
        | inr b ↦ rw (a.0, b.0) (ap (λ (ns : List ℕ). x.from ∷ ns) (rw b.0 at (begins-push links l n)))
      ]
      | inr a ↦ rw a.0 (begins-push links l n)
    ]

pub laid-more : (links : List Link) (i : ℕ) (l : Link) (sources sinks new_sources new_sinks : List (List ℕ)) → i < length links → AreLaid (record { sources = sources; sinks = sinks }) (take i links) → ((n : ℕ) → row_of new_sources n ≡ row_with sources (get_or links i l).to (get_or links i l).from n) → ((n : ℕ) → row_of new_sinks n ≡ row_with sinks (get_or links i l).from (get_or links i l).to n) → AreLaid (record { sources = new_sources; sinks = new_sinks }) (take (i + 1) links)
laid-more links i l sources sinks new_sources new_sinks inside laid a b = rw (take_more links i l inside) (record {
  sources = λ n. a n ∙ rw (laid.sources n) (sym (begins-push (take i links) (get_or links i l) n));
  sinks = λ n. b n ∙ rw (laid.sinks n) (sym (ends-push (take i links) (get_or links i l) n));
})

-- what is laid of the links of a history
module _ (c : Connections) (entries : List Record) (laid : AreLaid c (links_of entries)) where
  pub told : Tells c entries
  told = record {
    sources = λ h g. (λ has. linked-edge entries h g (begins-out (links_of entries) h g (rw (laid.sources g) at has)), λ edge. rw (laid.sources g) (begins-in (links_of entries) h g (edge-linked entries h g edge)));
    sinks = λ h g. (λ has. linked-edge entries h g (ends-out (links_of entries) h g (rw (laid.sinks h) at has)), λ edge. rw (laid.sinks h) (ends-in (links_of entries) h g (edge-linked entries h g edge)));
  }

-- what is reached
module _ (c : Connections) (entries : List Record) (from : List ℕ) (t : Tells c entries) where
  back-reached : (n : ℕ) → Reach c.sources from n → Back entries from n
  back-reached n (Given n2 has) = Starting n has
  back-reached n (Followed n2 before reached has) = Backward n before (back-reached before reached) ((t.sources n before).0 has)

  reached-back : (n : ℕ) → Back entries from n → Reach c.sources from n
  reached-back n (Starting n2 has) = Given n has
  reached-back n (Backward n2 next back edge) = Followed n next (reached-back next back) ((t.sources n next).1 edge)

  forth-reached : (n : ℕ) → Reach c.sinks from n → Forth entries from n
  forth-reached n (Given n2 has) = Beginning n has
  forth-reached n (Followed n2 before reached has) = Forward n before (forth-reached before reached) ((t.sinks before n).0 has)

  reached-forth : (n : ℕ) → Forth entries from n → Reach c.sinks from n
  reached-forth n (Beginning n2 has) = Given n has
  reached-forth n (Forward n2 previous forth edge) = Followed n previous (reached-forth previous forth) ((t.sinks previous n).1 edge)

  pub lists-back : (groups : List ℕ) → Lists groups (Reach c.sources from) → Lists groups (Back entries from)
  lists-back groups l = record {
    rises = l.rises;
    members = λ n. (λ has. back-reached n ((l.members n).0 has), λ back. (l.members n).1 (reached-back n back));
  }

  pub lists-forth : (groups : List ℕ) → Lists groups (Reach c.sinks from) → Lists groups (Forth entries from)
  lists-forth groups l = record {
    rises = l.rises;
    members = λ n. (λ has. forth-reached n ((l.members n).0 has), λ forth. (l.members n).1 (reached-forth n forth));
  }
