-- An index with one more record.
use Rattle.std.proofs.Common.{◌≡◌, ◌≢◌, inl, inr, ℕ, ◌+◌, ◌<◌, ◌≤◌, ◌==◌, ◌||◌, not, Bool, true, false, if◌then◌else◌, List, [], ◌∷◌, ◌++◌, length, map, Option, None, refl, ap, sym, ◌∙◌, arith, length-append, add-zero, zero-add}
use Rattle.std.proofs.lemmas.Bool.{or_parts}
use Rattle.std.proofs.lemmas.Bool.Decides.{eqb_tells}
use Rattle.std.proofs.lemmas.List.{map-append}
use Rattle.std.proofs.lemmas.List.Folds.{list_any-append}
use Rattle.std.proofs.Math.Bool.{or-false}
use Rattle.arn_base.specs.declared.records.Record.{Record}
use Rattle.arn_base.specs.declared.records.Record.TheVariants as entry
use Rattle.acts_model.specs.Records.{is_event, event_len, process_of, life_told, lives_after, LifeChange, BeginsLife, EndsLife, NoLife}
use Rattle.history_model.specs.Broken.{Behind, Nowhere, ASlice, ADelivery, behind_record, cant_follow, greatest}
use Rattle.history_model.specs.Events.{events, how_many}
use Rattle.history_model.specs.Groups.{group_of}
use Rattle.history_model.specs.Moments.{total, lives_at}
use Rattle.history_model.specs.Names.{is_boot, is_booted}
use Rattle.history_index.specs.declared.events.EventAt.{EventAt}
use Rattle.history_index.specs.After.{with_event, event_of, ended_by, after}
use Rattle.history_index.specs.Families.{lives_in, with_process}
use Rattle.history_index.specs.Indexes.{Indexes, TellsFamilies, TellsEvents, IsMade, begin_from}
use Rattle.history_index.specs.Lookups.{moment_in, places_from, moments_from}
use Rattle.history_index.specs.Tables.{Tables}
use Rattle.history_index.proofs.Snoc.{total-snoc, behind-snoc, greatest-snoc, begin-snoc, events-snoc, places-snoc, moments-snoc, stands-snoc}
use Rattle.history_index.proofs.Lives.{lives-snoc}
use Rattle.history_index.proofs.Lookups as lookups
use Rattle.history_index.proofs.NextSlice.{next-slice}
use Rattle.history_index.proofs.NextEvent.{IsQuiet, MakesNone, MakesNext, lives-ended, push-lives, begun-other, what-makes}
use Rattle.history_index.proofs.WithEvent.{plain, with-lives, stays-told, next-told}

made-if : (b : Bool) (pid m : ℕ) → (0 < pid) × (pid ≤ m) → IsMade m (if b then ADelivery pid else Nowhere)
made-if true pid m made = made
made-if false pid m made = tt

-- the process at hand stays made
hand-next : (b : Behind) (e : Record) (n m : ℕ) → n ≤ m → is_event e ≡ true → IsMade n b → IsMade m (behind_record b e)
hand-next b (entry.Slice pid ran) n m more is made = cc
hand-next (ASlice p) (entry.Signal pid signal cut handler) n m more is made =
    elim (eqb_tells p pid) [ inl h ↦ rw h.0 (made-if (not (handler == 0)) pid m (omega (arith, made.0, h.1), omega (arith, made.1, h.1))) | inr h ↦ rw h.0 tt ]
hand-next _ _ n m more is made = tt

if-false : (b : Bool) → (if b then false else false) ≡ false
if-false true = refl
if-false false = refl

quiet-zero : (life : LifeChange) (q : ℕ) → IsQuiet life → lives_after life q false ≡ false
quiet-zero (BeginsLife p) q quiet = absurd quiet
quiet-zero (EndsLife p) q quiet = if-false (p == q)
quiet-zero NoLife q quiet = refl

module _ (t : Tables) (entries : List Record) (e : Record) (i : Indexes t entries) (is : is_event e ≡ true) (stands : cant_follow entries e ≡ false) where
  kept-event : events (entries ++ e ∷ []) ≡ events entries ++ e ∷ []
  kept-event = events-snoc entries e ∙ rw is refl

  many-events : length t.events ≡ how_many entries
  many-events = lookups.events-told t entries i

  families-none : MakesNone t.families (group_of entries) (greatest entries) e → TellsFamilies (with_event t e).families (entries ++ e ∷ [])
  families-none m =
      rw m.born (with-lives t.families (ended_by (life_told e)) (entries ++ e ∷ [])
      (stays-told t.families entries e (plain e is) i.families kept-event m.founds m.groups (greatest-snoc 0 entries e ∙ m.greatest))
      (lives-ended t.families (life_told e) 0 m.life ∙ ap (lives_after (life_told e) 0) i.families.no_zero ∙ quiet-zero (life_told e) 0 m.life)
      (λ q. lives-ended t.families (life_told e) q m.life ∙ ap (lives_after (life_told e) q) (i.families.lives q) ∙ sym (lives-snoc entries e q)))

  families-next : (g : ℕ) → MakesNext t.families (group_of entries) (greatest entries) e g → TellsFamilies (with_event t e).families (entries ++ e ∷ [])
  families-next g m =
      let f = t.families in
      let next : length f.lives ≡ greatest entries + 1 = omega (arith, i.families.as_many_lives, i.families.processes) in
      let apart : length f.lives ≢ 0 = λ h. absurd (omega arith) in
      rw (m.born, m.life) (with-lives (with_process f (length t.events) g) None (entries ++ e ∷ [])
      (next-told f (length t.events) entries e g (plain e is) i.families many-events kept-event m.founds m.groups (greatest-snoc 0 entries e ∙ m.greatest) m.founded)
      (begun-other f.lives 0 apart ∙ i.families.no_zero)
      (λ q.
      push-lives f.lives q
      ∙ ap (λ (k : ℕ). if k == q then true else lives_in f.lives q) next
      ∙ ap (λ (b : Bool). if greatest entries + 1 == q then true else b) (i.families.lives q)
      ∙ sym (lives-snoc entries e q ∙ ap (λ (l : LifeChange). lives_after l q (lives_at entries (total entries) q)) m.life)))

  families-told : TellsFamilies (with_event t e).families (entries ++ e ∷ [])
  families-told = elim (what-makes t entries i e is stands) [ inl m ↦ families-none m | inr m ↦ families-next m.0 m.1 ]

  grows : greatest entries ≤ greatest (entries ++ e ∷ [])
  grows =
      let snoc = greatest-snoc 0 entries e in
      elim (what-makes t entries i e is stands) [ inl m ↦ omega (arith, snoc, m.greatest) | inr m ↦ omega (arith, snoc, m.1.greatest) ]

  still-unbooted : (t.is_booted || is_boot e) ≡ false → length (with_event t e).families.groups ≡ 0
  still-unbooted unbooted =
      let both = or_parts t.is_booted (is_boot e) unbooted in
      let none = i.unbooted both.0 in
      elim (what-makes t entries i e is stands) [
        | inl m ↦ omega (arith, none, families-told.processes, greatest-snoc 0 entries e, m.greatest, i.families.processes)
        | inr m ↦ absurd (omega (arith, none, i.families.processes, m.1.booted both.1))
      ]

  events-told : TellsEvents (with_event t e) (entries ++ e ∷ [])
  events-told = record {
    places =
        map-append (λ (x : EventAt). x.place) t.events (event_of t e ∷ [])
        ∙ ap (λ (xs : List ℕ). xs ++ t.records ∷ []) i.events.places
        ∙ ap (λ (k : ℕ). places_from 0 entries ++ k ∷ []) (i.records ∙ sym (zero-add (length entries)))
        ∙ sym (places-snoc 0 entries e ∙ rw is refl);
    moments =
        map-append (λ (x : EventAt). x.moment) t.events (event_of t e ∷ [])
        ∙ ap (λ (xs : List ℕ). xs ++ moment_in t.begins t.total e ∷ []) i.events.moments
        ∙ ap (λ (k : ℕ). moments_from 0 0 entries ++ moment_in k t.total e ∷ []) i.begins
        ∙ ap (λ (k : ℕ). moments_from 0 0 entries ++ moment_in (begin_from 0 0 entries) k e ∷ []) (i.total ∙ sym (zero-add (total entries)))
        ∙ sym (moments-snoc 0 0 entries e ∙ rw is refl);
    pids =
        map-append (λ (x : EventAt). x.pid) t.events (event_of t e ∷ [])
        ∙ ap (λ (xs : List (Option ℕ)). xs ++ process_of e ∷ []) i.events.pids
        ∙ sym (ap (map process_of) kept-event ∙ map-append process_of (events entries) (e ∷ []));
    lens =
        map-append (λ (x : EventAt). x.len) t.events (event_of t e ∷ [])
        ∙ ap (λ (xs : List ℕ). xs ++ event_len e ∷ []) i.events.lens
        ∙ sym (ap (map event_len) kept-event ∙ map-append event_len (events entries) (e ∷ []));
  }

  next-event : Indexes (with_event t e) (entries ++ e ∷ [])
  next-event =
      let p = plain e is in
      let many = families-told.processes in
      record {
        stands = stands-snoc entries e i.stands stands;
        records = ap (λ (n : ℕ). n + 1) i.records ∙ sym (length-append entries (e ∷ []));
        total = i.total ∙ sym (total-snoc entries e ∙ ap (λ (k : ℕ). total entries + k) p.ran ∙ add-zero (total entries));
        begins = i.begins ∙ sym (begin-snoc 0 0 entries e ∙ p.begin (begin_from 0 0 entries) (0 + total entries));
        is_booted = ap (λ (b : Bool). b || is_boot e) i.is_booted ∙ sym (list_any-append is_boot entries (e ∷ []) ∙ ap (λ (b : Bool). is_booted entries || b) (or-false (is_boot e)));
        unbooted = still-unbooted;
        at_hand = ap (λ (b : Behind). behind_record b e) i.at_hand ∙ sym (behind-snoc Nowhere entries e);
        hand_made = hand-next t.at_hand e (length t.families.groups) (length (with_event t e).families.groups) (omega (arith, grows, many, i.families.processes)) is i.hand_made;
        families = families-told;
        events = events-told;
      }

pub next : (t : Tables) (entries : List Record) (e : Record) → Indexes t entries → cant_follow entries e ≡ false → Indexes (after t e) (entries ++ e ∷ [])
next t entries (entry.Slice pid ran) i stands = next-slice t entries pid ran i stands
next t entries e i stands = next-event t entries e i refl stands
