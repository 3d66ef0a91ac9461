-- What more records leave as it was: who is of which group, its slices so far, and the event by which it begins.
use Rattle.std.proofs.Common.{◌≡◌, ℕ, ◌+◌, ◌<◌, ◌≤◌, ◌==◌, not, max, Bool, true, false, if◌then◌else◌, cond, List, [], ◌∷◌, ◌++◌, length, filter, Option, Some, None, position, slice_get, refl, ap, sym, ◌∙◌, arith, eqb-true, ne_eqb, length-append}
use Rattle.std.specs.List.{position_from}
use Rattle.std.specs.Option.{option_map_or}
use Rattle.std.proofs.lemmas.Iterator.Adapters.{position_from-zero}
use Rattle.std.proofs.lemmas.List.{get_or_append_left}
use Rattle.std.proofs.lemmas.List.Elements.{filter-append}
use Rattle.std.proofs.lemmas.List.Quantifiers.{position-Some}
use Rattle.std.proofs.lemmas.Option.{slice_get-get_or, slice_get_within}
use Rattle.arn_base.specs.declared.records.Record.{Record}
use Rattle.arn_base.specs.declared.records.Record.TheVariants as entry
use Rattle.acts_model.specs.Records.{Child, child_called, child_number, is_event}
use Rattle.history_index.specs.Lookups.{event_moment, founding_event, founds, moments_from, slices_from, slices_of}
use Rattle.history_index.specs.declared.slices.SliceAt.{SliceAt}
use Rattle.history_model.specs.Broken.{broken_from, child_in, greatest, greatest_after, greatest_from, misnumbers}
use Rattle.history_model.specs.Events.{event_at, events}
use Rattle.history_model.specs.Groups.{Groups, child_group, group_made, group_of, groups_from, groups_told, is_number}
use Rattle.history_model.specs.Moments.{changed}
use Rattle.history_model.specs.Names.{is_booted}
use Rattle.group_extents.proofs.Goes.{booted-more, goes-on}
use Rattle.group_extents.proofs.Slices.{Each, filter-same}

no-way : {A : Type 0} → true ≡ false → A
no-way h = absurd (let no : true ≡ false = h in cc)

un-not : (b : Bool) → not b ≡ false → b ≡ true
un-not true h = refl
un-not false h = absurd (cc)

-- the greatest number of a process, and the groups, record by record
greatest-append : (n : ℕ) (rs : List Record) (e : Record) → greatest_from n (rs ++ e ∷ []) ≡ greatest_after e (greatest_from n rs)
greatest-append n [] e = refl
greatest-append n (r ∷ rs) e = greatest-append (greatest_after r n) rs e

groups-append : (xs ys : List Record) (groups : Groups) → groups_from (xs ++ ys) groups ≡ groups_from ys (groups_from xs groups)
groups-append [] ys groups = refl
groups-append (e ∷ xs) ys groups = groups-append xs ys (groups_told e groups)

grows-if : (child : Option ℕ) (n : ℕ) → n ≤ option_map_or (max n) child n
grows-if (Some c) n = omega arith
grows-if None n = omega arith

grows : (e : Record) (n : ℕ) → n ≤ greatest_after e n
grows (entry.Boot name give) n = omega arith
grows e n = grows-if (child_in e) n

-- a record that can follow makes no process but one that wasn't there
changed-other : (groups : Groups) (child p : ℕ) (o : Option ℕ) → p < child → changed groups child o p ≡ groups p
changed-other groups child p o less = ap (λ (b : Bool). if b then o else groups p) (ne_eqb p child (λ same. omega (arith, same, less)))

called-other : (child : Option Child) (before : List Record) (pid p : ℕ) (groups : Groups) → misnumbers before (child_number child) ≡ false → p ≤ greatest before → group_made pid child groups p ≡ groups p
called-other (Some child) before pid p groups numbers le =
    let next = eqb-true child.number (greatest before + 1) (un-not (child.number == greatest before + 1) numbers) in
    changed-other groups child.number p (child_group child (groups pid)) (omega (arith, next, le))
called-other None before pid p groups numbers le = refl

told-other : (before : List Record) (e : Record) (rest : List Record) (groups : Groups) (p : ℕ) → is_booted before ≡ true → broken_from before (e ∷ rest) ≡ None → p ≤ greatest before → groups_told e groups p ≡ groups p
told-other before (entry.Boot name give) rest groups p b h le = no-way (sym b ∙ (goes-on before (entry.Boot name give) rest h).side)
told-other before (entry.Call pid number result more) rest groups p b h le =
    called-other (child_called number result more) before pid p groups (goes-on before (entry.Call pid number result more) rest h).numbers le
told-other before (entry.File name bytes) rest groups p b h le = refl
told-other before (entry.Typed bytes) rest groups p b h le = refl
told-other before (entry.Unplug device) rest groups p b h le = refl
told-other before (entry.Slice pid ran) rest groups p b h le = refl
told-other before (entry.Signal pid signal cut handler) rest groups p b h le = refl
told-other before (entry.End pid status) rest groups p b h le = refl

-- who was made keeps its group
keeps-group : (before rest : List Record) (groups : Groups) (p : ℕ) → is_booted before ≡ true → broken_from before rest ≡ None → p ≤ greatest before → groups_from rest groups p ≡ groups p
keeps-group before [] groups p b h le = refl
keeps-group before (e ∷ rest) groups p b h le =
    let more = greatest-append 0 before e in
    let up = grows e (greatest before) in
    keeps-group (before ++ e ∷ []) rest (groups_told e groups) p (booted-more before (e ∷ []) b) (goes-on before e rest h).later (omega (arith, more, up, le))
    ∙ told-other before e rest groups p b h le

pub group-stays : (before more : List Record) (p : ℕ) → is_booted before ≡ true → broken_from before more ≡ None → p ≤ greatest before → group_of (before ++ more) p ≡ group_of before p
group-stays before more p b h le =
    ap (λ (groups : Groups). groups p) (groups-append before more (λ q. None)) ∙ keeps-group before more (group_of before) p b h le

-- more slices come behind those that there are
slices-append : (xs ys : List Record) (place moment event : ℕ) → (more : List SliceAt) × (slices_from place moment event (xs ++ ys) ≡ slices_from place moment event xs ++ more)
slices-append [] ys place moment event = (slices_from place moment event ys, refl)
slices-append (entry.Slice pid ran ∷ xs) ys place moment event =
    let rest = slices-append xs ys (place + 1) (moment + ran) (event + 0) in
    (rest.0, ap (λ (slices : List SliceAt). record { place = place; moment = moment; pid = pid; ran = ran; event = event } ∷ slices) rest.1)
slices-append (entry.File name bytes ∷ xs) ys place moment event = slices-append xs ys (place + 1) (moment + 0) (event + 1)
slices-append (entry.Boot name give ∷ xs) ys place moment event = slices-append xs ys (place + 1) (moment + 0) (event + 1)
slices-append (entry.Typed bytes ∷ xs) ys place moment event = slices-append xs ys (place + 1) (moment + 0) (event + 1)
slices-append (entry.Unplug device ∷ xs) ys place moment event = slices-append xs ys (place + 1) (moment + 0) (event + 1)
slices-append (entry.Signal pid signal cut handler ∷ xs) ys place moment event = slices-append xs ys (place + 1) (moment + 0) (event + 1)
slices-append (entry.Call pid number result extra ∷ xs) ys place moment event = slices-append xs ys (place + 1) (moment + 0) (event + 1)
slices-append (entry.End pid status ∷ xs) ys place moment event = slices-append xs ys (place + 1) (moment + 0) (event + 1)

-- a group's slices so far are those at the begin of its later ones
pub record Grows (before after : List SliceAt) : Type 0 where
  pub more : List SliceAt
  pub is : after ≡ before ++ more

abbrev is_of : List Record → ℕ → SliceAt → Bool
is_of entries g s = is_number g (group_of entries s.pid)

pub slices-grow : (before more : List Record) (g : ℕ) → Each (λ (s : SliceAt). is_of (before ++ more) g s ≡ is_of before g s) (slices_from 0 0 0 before) → Grows (slices_of before g) (slices_of (before ++ more) g)
slices-grow before more g same =
    let split = slices-append before more 0 0 0 in
    record {
      more = filter (is_of (before ++ more) g) split.0;
      is = ap (filter (is_of (before ++ more) g)) split.1
          ∙ (filter-append (is_of (before ++ more) g) (slices_from 0 0 0 before) split.0
          ∙ ap (λ (slices : List SliceAt). slices ++ filter (is_of (before ++ more) g) split.0) (filter-same (is_of (before ++ more) g) (is_of before g) (slices_from 0 0 0 before) same));
    }

-- an element that is there stays where it is
pub get-more : {A : Type 0} (xs ys : List A) (n : ℕ) (d : A) → n < length xs → slice_get (xs ++ ys) n ≡ slice_get xs n
get-more xs ys n d less =
    let len = length-append xs ys in
    slice_get-get_or (xs ++ ys) n d (omega (arith, len, less)) ∙ (ap Some (get_or_append_left xs ys d n less) ∙ sym (slice_get-get_or xs n d less))

moments-append : (xs ys : List Record) (begins ends : ℕ) → (more : List ℕ) × (moments_from begins ends (xs ++ ys) ≡ moments_from begins ends xs ++ more)
moments-append [] ys begins ends = (moments_from begins ends ys, refl)
moments-append (entry.Slice pid ran ∷ xs) ys begins ends = moments-append xs ys ends (ends + ran)
moments-append (entry.File name bytes ∷ xs) ys begins ends = let rest = moments-append xs ys begins (ends + 0) in (rest.0, ap (λ (moments : List ℕ). ends ∷ moments) rest.1)
moments-append (entry.Boot name give ∷ xs) ys begins ends = let rest = moments-append xs ys begins (ends + 0) in (rest.0, ap (λ (moments : List ℕ). ends ∷ moments) rest.1)
moments-append (entry.Typed bytes ∷ xs) ys begins ends = let rest = moments-append xs ys begins (ends + 0) in (rest.0, ap (λ (moments : List ℕ). ends ∷ moments) rest.1)
moments-append (entry.Unplug device ∷ xs) ys begins ends = let rest = moments-append xs ys begins (ends + 0) in (rest.0, ap (λ (moments : List ℕ). ends ∷ moments) rest.1)
moments-append (entry.Signal pid signal cut handler ∷ xs) ys begins ends = let rest = moments-append xs ys begins (ends + 0) in (rest.0, ap (λ (moments : List ℕ). begins ∷ moments) rest.1)
moments-append (entry.Call pid number result extra ∷ xs) ys begins ends = let rest = moments-append xs ys begins (ends + 0) in (rest.0, ap (λ (moments : List ℕ). ends ∷ moments) rest.1)
moments-append (entry.End pid status ∷ xs) ys begins ends = let rest = moments-append xs ys begins (ends + 0) in (rest.0, ap (λ (moments : List ℕ). ends ∷ moments) rest.1)

pub moment-stays : (before more : List Record) (event moment : ℕ) → event_moment before event ≡ Some moment → event_moment (before ++ more) event ≡ Some moment
moment-stays before more event moment h =
    let split = moments-append before more 0 0 in
    ap (λ (moments : List ℕ). slice_get moments event) split.1
    ∙ (get-more (moments_from 0 0 before) split.0 event 0 (slice_get_within (moments_from 0 0 before) event moment h) ∙ h)

pub event-stays : (before more : List Record) (event : ℕ) → event < length (events before) → event_at (before ++ more) event ≡ event_at before event
event-stays before more event less =
    ap (λ (es : List Record). slice_get es event) (filter-append is_event before more) ∙ get-more (events before) (events more) event (entry.Unplug 0) less

-- what is found first stays so
first-stays : {A : Type 0} (test : A → Bool) (xs ys : List A) (i n : ℕ) → position_from test i xs ≡ Some n → position_from test i (xs ++ ys) ≡ Some n
first-stays test [] ys i n h = absurd (cc)
first-stays test (x ∷ xs) ys i n h = by_test (test x) h (first-stays test xs ys (i + 1) n)
  where
    by_test : (b : Bool) → cond b (Some i) (position_from test (i + 1) xs) ≡ Some n → (position_from test (i + 1) xs ≡ Some n → position_from test (i + 1) (xs ++ ys) ≡ Some n)
        → cond b (Some i) (position_from test (i + 1) (xs ++ ys)) ≡ Some n
    by_test true k rest = k
    by_test false k rest = rest k

pub founding-stays : (before more : List Record) (g event : ℕ) → founding_event before g ≡ Some event → founding_event (before ++ more) g ≡ Some event
founding-stays before more g event h =
    ap (position (founds g)) (filter-append is_event before more)
    ∙ (position_from-zero (founds g) (events before ++ events more)
    ∙ first-stays (founds g) (events before) (events more) 0 event (sym (position_from-zero (founds g) (events before)) ∙ h))

pub founding-inside : (before : List Record) (g event : ℕ) → founding_event before g ≡ Some event → event < length (events before)
founding-inside before g event h = (position-Some (founds g) (events before) event (entry.Unplug 0) h).0
