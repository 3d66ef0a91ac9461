-- The event by which a group begins, found by an index.
use Rattle.std.proofs.lemmas.Grind.{common_steps}
use Rattle.std.proofs.lemmas.Bool.Decides.{nat_tests}
use Rattle.std.proofs.Common.{◌≡◌, ◌<◌, ◌≤◌, inl, inr, ℕ, zero, suc, ◌+◌, Bool, true, false, cond, List, [], ◌∷◌, length, get_or, Option, Some, None, IfSome, MatchOption, option_map, Bor, is_some, slice_get, refl, ap, sym, subst, ◌∙◌, arith}
use Rattle.std.specs.List.{position_from}
use Rattle.std.proofs.lemmas.Iterator.Adapters.{position_from-zero}
use Rattle.std.proofs.lemmas.Option.{slice_get_past, slice_get_within}
use Rattle.std.proofs.lemmas.Bool.{cases_Bool}
use Rattle.arn_base.specs.declared.records.Record.{Record}
use Rattle.arn_base.specs.declared.records.Record.TheVariants as entry
use Rattle.parts_model.specs.Numbered.{nth}
use Rattle.acts_model.specs.Bodies.{Body, body_at, nobody, seen, view}
use Rattle.guest_bodies.specs.Fresh.{IsUnheld}
use Rattle.guest_bodies.specs.Shown.{Guests, IsUnheldBy, Shown, seen_in}
use Rattle.history_index.specs.Lookups.{founding_event, places_from, founds}
use Rattle.history_model.specs.Alone.{Made, Makes, nothing_own}
use Rattle.history_model.specs.Broken.{first_broken}
use Rattle.history_model.specs.Events.{event_at, events}
use Rattle.history_model.specs.Groups.{group_of}
use Rattle.replay_steps.specs.Notices.{Listener}
use Rattle.replay_steps.specs.Standing.{GainsOnly, Reaches, Stands}
use Rattle.replayer.specs.Foundings.{Begins}
use Rattle.replayer.specs.Parts.{LivesIn}
use Rattle.replayer.proofs.Begun.{founded-group}
use Rattle.replayer.proofs.Running.{lived-or}
use Rattle.replayer.proofs.Unbroken.{starts-inside}

-- the record at an event's place is the event's
record At (entries : List Record) (place k at : ℕ) : Type 0 where
  past : ℕ
  is : at ≡ past + place
  same : slice_get entries past ≡ slice_get (events entries) k

placed-event : (e : Record) (rest : List Record) (place at : ℕ) → ((k : ℕ) → slice_get (places_from (place + 1) rest) k ≡ Some at → At rest (place + 1) k at) → (k : ℕ) → slice_get (place ∷ places_from (place + 1) rest) k ≡ Some at
    → (past : ℕ) × (at ≡ past + place) × (slice_get (e ∷ rest) past ≡ slice_get (e ∷ events rest) k)
placed-event e rest place at later zero is = let same : place ≡ at = cc in (0, omega (arith, same), refl)
placed-event e rest place at later (suc k) is = let more = later k is in let is = more.is in (suc more.past, omega (arith, is), more.same)

placed : (entries : List Record) (place at k : ℕ) → slice_get (places_from place entries) k ≡ Some at → At entries place k at
placed [] place at k is = absurd (let no : None ≡ Some at = is in cc)
placed (entry.Slice pid ran ∷ rest) place at k is =
    let more = placed rest (place + 1) at k is in let past = more.is in record { past = suc more.past; is = omega (arith, past); same = more.same }
placed (e ∷ rest) place at k is =
    let more = placed-event e rest place at (placed rest (place + 1) at) k is in record { past = more.0; is = more.1; same = more.2 }

pub event-placed : (entries : List Record) (at k : ℕ) → slice_get (places_from 0 entries) k ≡ Some at → slice_get entries at ≡ event_at entries k
event-placed entries at k is = grind (arith, placed entries 0 at k is)

item-there : (xs : List Record) (i : ℕ) (d : Record) → i < length xs → slice_get xs i ≡ Some (get_or xs i d)
item-there [] i d lt = absurd (omega arith)
item-there (x ∷ xs) zero d lt = refl
item-there (x ∷ xs) (suc i) d lt = item-there xs i d (omega arith)

-- what is got is there
pub got-same : (Q : Bor Record → Type 0) (xs : List Record) (i : ℕ) (o : Option (Bor Record)) → MatchOption o (length xs ≤ i) (λ x. (i < length xs) × Q x) → IfSome o (λ x. x.now ≡ get_or xs i x.now) → option_map (λ x. x.now) o ≡ slice_get xs i
got-same Q xs i None past here = sym (slice_get_past xs i past)
got-same Q xs i (Some x) inside here = ap Some here ∙ sym (item-there xs i x.now inside.0)

-- an event's record stands somewhere
there-event : (e x : Record) (rest : List Record) → ((k : ℕ) → slice_get (events rest) k ≡ Some x → (j : ℕ) × (slice_get rest j ≡ Some x)) → (k : ℕ) → slice_get (e ∷ events rest) k ≡ Some x → (j : ℕ) × (slice_get (e ∷ rest) j ≡ Some x)
there-event e x rest later zero is = (0, is)
there-event e x rest later (suc k) is = let more = later k is in (suc more.0, more.1)

somewhere : (entries : List Record) (x : Record) (k : ℕ) → slice_get (events entries) k ≡ Some x → (j : ℕ) × (slice_get entries j ≡ Some x)
somewhere [] x k is = absurd (let no : None ≡ Some x = is in cc)
somewhere (entry.Slice pid ran ∷ rest) x k is = let more = somewhere rest x k is in (suc more.0, more.1)
somewhere (e ∷ rest) x k is = there-event e x rest (somewhere rest x) k is

got : (xs : List Record) (i : ℕ) (e : Record) → slice_get xs i ≡ Some e → e ≡ get_or xs i e
got [] i e is = absurd (let no : None ≡ Some e = is in cc)
got (x ∷ xs) zero e is = let same : x ≡ e = cc in sym same
got (x ∷ xs) (suc i) e is = got xs i e is

-- the first that passes the test passes it
record First (t : Record → Bool) (xs : List Record) (i k : ℕ) : Type 0 where
  past : ℕ
  is : k ≡ past + i
  item : Record
  at : slice_get xs past ≡ Some item
  holds : t item ≡ true

first-passes : (t : Record → Bool) (xs : List Record) (i k : ℕ) → position_from t i xs ≡ Some k → First t xs i k
first-passes t [] i k is = absurd (let no : None ≡ Some k = is in cc)
first-passes t (x ∷ xs) i k is =
    elim (cases_Bool (t x)) [
      | inl holds ↦
          let here : Some i ≡ Some k = sym (ap (λ (c : Bool). cond c (Some i) (position_from t (i + 1) xs)) holds) ∙ is in
          let same : i ≡ k = cc in
          record { past = 0; is = omega (arith, same); item = x; at = refl; holds = holds }
      | inr isnt ↦
          let more = first-passes t xs (i + 1) k (sym (ap (λ (c : Bool). cond c (Some i) (position_from t (i + 1) xs)) isnt) ∙ is) in
          let past = more.is in
          record { past = suc more.past; is = omega (arith, past); item = more.item; at = more.at; holds = more.holds }
    ]

-- so a group begins by the record of its first event
pub record Founded (entries : List Record) (g : ℕ) (e : Record) : Type 0 where
  pub begins : Begins g e
  pub member : group_of entries g ≡ Some g

pub founded : (entries : List Record) (g k : ℕ) (e : Record) → first_broken entries ≡ None → founding_event entries g ≡ Some k → event_at entries k ≡ Some e → Founded entries g e
founded entries g k e stands event is =
    let first = first-passes (founds g) (events entries) 0 k (sym (position_from-zero (founds g) (events entries)) ∙ event) in
    let past = first.is in
    let same : k ≡ first.past = omega (arith, past) in
    let one : Some first.item ≡ Some e = sym first.at ∙ (sym (ap (slice_get (events entries)) same) ∙ is) in
    let begins : founds g e ≡ true = sym (ap (founds g) (let item : first.item ≡ e = cc in item)) ∙ first.holds in
    let at = somewhere entries e k is in
    let lt = slice_get_within entries at.0 e at.1 in
    record {
      begins = record { founds = begins; inside = starts-inside entries at.0 e stands lt (got entries at.0 e at.1) };
      member = founded-group entries at.0 e g stands lt (got entries at.0 e at.1) begins;
    }

-- who lives then
none-live : (p : ℕ) → is_some (nth {A = Shown} [] p) ≡ true → ⊥
none-live zero live = let no : false ≡ true = live in cc
none-live (suc p) live = let no : false ≡ true = live in cc

pub first-lives : (entries : List Record) (g : ℕ) (old new : Guests) → old ≡ [] → group_of entries g ≡ Some g → GainsOnly (Some g) old new → LivesIn entries (Some g) g new
first-lives entries g old new h1 h2 h3 = grind (arith, nat_tests, lived-or, none-live)

-- nothing stands at each event
no-nth : (p : ℕ) → nth {A = Shown} [] p ≡ None
no-nth zero = refl
no-nth (suc p) = refl

no-body : (p : ℕ) → body_at nobody p ≡ None
unfolding body_at
no-body p = refl

nobody-seen : (p : ℕ) → seen_in [] p ≡ seen nobody p
nobody-seen p = ap (option_map (λ (s : Shown). s.view)) (no-nth p) ∙ sym (ap (option_map (view nobody)) (no-body p))

nobody-unheld : (event : ℕ) → IsUnheld event nobody
nobody-unheld event = record { unheld = λ (p : ℕ). subst (λ (o : Option Body). IfSome o (IsUnheldBy event)) (sym (no-body p)) tt }

pub nothing-stands : (guests : Guests) (event : ℕ) → guests ≡ [] → Stands guests event nothing_own
nothing-stands guests event h1 = grind (arith, common_steps, nat_tests, nobody-seen, nobody-unheld)

-- where the group doesn't begin before the moment, nothing was made
pub nothing-reached : {A : Type 0} (l : Listener A) (x : A) (n : ℕ) (made : Made) (guests : Guests) (event : ℕ) → made ≡ Makes nothing_own → guests ≡ [] → Reaches l x n nothing_own made guests event x n
nothing-reached l x n made guests event is none = grind (arith, nothing-stands guests event none)
