-- In which order the event that begins a group and its slices stand.
use Rattle.std.proofs.lemmas.Grind.{common_steps}
use Rattle.std.proofs.lemmas.Bool.Decides.{nat_tests}
use Rattle.std.proofs.Common.{◌≡◌, ◌<◌, ◌≤◌, ℕ, suc, ◌+◌, Bool, true, false, List, [], ◌∷◌, length, take, drop, get_or, filter, cond, Some, None, refl, ap, sym, ◌∙◌, arith, inl, inr}
use Rattle.std.specs.List.{position_from}
use Rattle.std.proofs.lemmas.Iterator.Adapters.{position_from-zero}
use Rattle.std.proofs.lemmas.Bool.{cases_Bool}
use Rattle.arn_base.specs.declared.records.Record.{Record}
use Rattle.arn_base.specs.declared.records.Record.TheVariants as entry
use Rattle.history_index.specs.declared.slices.SliceAt.{SliceAt}
use Rattle.history_index.specs.Lookups.{founding_event, founds, slices_from, slices_of}
use Rattle.history_model.specs.Broken.{first_broken, greatest, greatest_after, behind}
use Rattle.history_model.specs.Events.{events}
use Rattle.history_model.specs.Groups.{Groups, group_of, is_number}
use Rattle.replayer.specs.Foundings.{event_behind}
use Rattle.replayer.specs.Parts.{part_len}
use Rattle.replayer.proofs.BySlices.{drop-next}
use Rattle.replayer.proofs.Kept.{group-kept, groups-next, groups_at}
use Rattle.replayer.proofs.Loops.{greatest-snoc}
use Rattle.replayer.proofs.Own.{founder-next, told-none}
use Rattle.replayer.proofs.Sound.{fits, grows, there}

-- a slice of the group, behind so many records, events and instructions
pub record InOrder (entries : List Record) (g place event moment : ℕ) (s : SliceAt) : Type 0 where
  pub some : 0 < g
  pub after : place ≤ s.place
  pub later : event ≤ s.event
  pub latest : moment ≤ s.moment
  pub early : s.event ≤ s.place
  pub inside : s.place < length entries
  pub here : entry.Slice s.pid s.ran ≡ get_or entries s.place (entry.Slice s.pid s.ran)
  pub founded : g ≤ greatest (take s.place entries)
  pub member : is_number g (group_of entries s.pid) ≡ true

-- and each behind the one before and what stands behind that
abbrev pub Rising : List Record → ℕ → ℕ → ℕ → ℕ → List SliceAt → Type 0
Rising entries g place event moment [] = Unit {0}
Rising entries g place event moment (s ∷ slices) =
    InOrder entries g place event moment s × Rising entries g (part_len (drop (s.place + 1) entries) + (s.place + 1)) (s.event + part_len (drop (s.place + 1) entries)) s.moment slices

pub rising-weaker : (entries : List Record) (g place event moment place' event' moment' : ℕ) (slices : List SliceAt) → place' ≤ place → event' ≤ event → moment' ≤ moment → Rising entries g place event moment slices → Rising entries g place' event' moment' slices
rising-weaker entries g place event moment place' event' moment' [] le le' le'' rising = tt
rising-weaker entries g place event moment place' event' moment' (s ∷ slices) le le' le'' rising = grind (arith, nat_tests)

-- more processes come
pub greatest-more : (entries : List Record) (place : ℕ) → place < length entries → greatest (take place entries) ≤ greatest (take (place + 1) entries)
greatest-more entries place lt =
    let e = there entries place lt in
    let one : place + 1 ≡ suc place = omega arith in
    let many : greatest (take (place + 1) entries) ≡ greatest_after e.0 (greatest (take place entries)) = ap (λ (j : ℕ). greatest (take j entries)) one ∙ greatest-snoc 0 entries place e.0 lt e.1 in
    omega (arith, many, grows e.0 (greatest (take place entries)))

pub here-is : (xs : List Record) (k : ℕ) (e : Record) (rest : List Record) → e ∷ rest ≡ drop k xs → e ≡ get_or xs k e
here-is xs k e rest h1 = grind (arith, common_steps, nat_tests)

module _ (entries : List Record) (g : ℕ) where
  if-kept : (b : Bool) (place event moment : ℕ) (s : SliceAt) (slices : List SliceAt) → (b ≡ true → Rising entries g place event moment (s ∷ slices)) → Rising entries g place event moment slices → Rising entries g place event moment (cond b (s ∷ slices) slices)
  if-kept true place event moment s slices kept left = kept refl
  if-kept false place event moment s slices kept left = left

  -- behind the event that begins the group
  module _ (some : 0 < g) where
    event-rising : (place moment event : ℕ) (rest : List Record) → Rising entries g (part_len rest + (place + 1)) (event + 1 + part_len rest) (moment + 0) (filter (λ (s : SliceAt). is_number g (group_of entries s.pid)) (slices_from (place + 1) (moment + 0) (event + 1) rest))
        → Rising entries g (part_len rest + 1 + place) (event + (part_len rest + 1)) moment (filter (λ (s : SliceAt). is_number g (group_of entries s.pid)) (slices_from (place + 1) (moment + 0) (event + 1) rest))
    event-rising place moment event rest rising =
        rising-weaker entries g (part_len rest + (place + 1)) (event + 1 + part_len rest) (moment + 0) (part_len rest + 1 + place) (event + (part_len rest + 1)) moment (filter (λ (s : SliceAt). is_number g (group_of entries s.pid)) (slices_from (place + 1) (moment + 0) (event + 1) rest)) (omega arith) (omega arith) (omega arith) rising

    slice-rising : (p r place moment event : ℕ) (rest : List Record) → entry.Slice p r ∷ rest ≡ drop place entries → place < length entries → event ≤ place → g ≤ greatest (take place entries)
        → Rising entries g (part_len rest + (place + 1)) (event + 0 + part_len rest) (moment + r) (filter (λ (s : SliceAt). is_number g (group_of entries s.pid)) (slices_from (place + 1) (moment + r) (event + 0) rest))
        → Rising entries g (0 + place) (event + 0) moment (filter (λ (s : SliceAt). is_number g (group_of entries s.pid)) (record { place = place; moment = moment; pid = p; ran = r; event = event } ∷ slices_from (place + 1) (moment + r) (event + 0) rest))
    slice-rising p r place moment event rest h1 h2 h3 h4 h5 = grind (arith, nat_tests, if-kept, here-is, drop-next, rising-weaker)

    more : (place left : ℕ) → suc left + place ≡ length entries → g ≤ greatest (take place entries) → g ≤ greatest (take (place + 1) entries)
    more place left many founded = let lt : place < length entries = omega (arith, many) in let up = greatest-more entries place lt in omega (arith, up, founded)

    rising : (rest : List Record) (place moment event : ℕ) → rest ≡ drop place entries → length rest + place ≡ length entries → event ≤ place → g ≤ greatest (take place entries)
        → Rising entries g (part_len rest + place) (event + part_len rest) moment (filter (λ (s : SliceAt). is_number g (group_of entries s.pid)) (slices_from place moment event rest))
    rising [] place moment event at many early founded = tt
    rising (entry.Slice p r ∷ rest) place moment event at many early founded =
        slice-rising p r place moment event rest at (omega (arith, many)) early founded
        (rising rest (place + 1) (moment + r) (event + 0) (drop-next entries place (entry.Slice p r) rest at) (omega (arith, many)) (omega (arith, early)) (more place (length rest) many founded))
    rising (entry.File name bytes ∷ rest) place moment event at many early founded =
        event-rising place moment event rest
        (rising rest (place + 1) (moment + 0) (event + 1) (drop-next entries place (entry.File name bytes) rest at) (omega (arith, many)) (omega (arith, early)) (more place (length rest) many founded))
    rising (entry.Boot name give ∷ rest) place moment event at many early founded =
        event-rising place moment event rest
        (rising rest (place + 1) (moment + 0) (event + 1) (drop-next entries place (entry.Boot name give) rest at) (omega (arith, many)) (omega (arith, early)) (more place (length rest) many founded))
    rising (entry.Typed bytes ∷ rest) place moment event at many early founded =
        event-rising place moment event rest
        (rising rest (place + 1) (moment + 0) (event + 1) (drop-next entries place (entry.Typed bytes) rest at) (omega (arith, many)) (omega (arith, early)) (more place (length rest) many founded))
    rising (entry.Unplug device ∷ rest) place moment event at many early founded =
        event-rising place moment event rest
        (rising rest (place + 1) (moment + 0) (event + 1) (drop-next entries place (entry.Unplug device) rest at) (omega (arith, many)) (omega (arith, early)) (more place (length rest) many founded))
    rising (entry.Signal pid signal cut handler ∷ rest) place moment event at many early founded =
        event-rising place moment event rest
        (rising rest (place + 1) (moment + 0) (event + 1) (drop-next entries place (entry.Signal pid signal cut handler) rest at) (omega (arith, many)) (omega (arith, early)) (more place (length rest) many founded))
    rising (entry.Call pid number result extra ∷ rest) place moment event at many early founded =
        event-rising place moment event rest
        (rising rest (place + 1) (moment + 0) (event + 1) (drop-next entries place (entry.Call pid number result extra) rest at) (omega (arith, many)) (omega (arith, early)) (more place (length rest) many founded))
    rising (entry.End pid status ∷ rest) place moment event at many early founded =
        event-rising place moment event rest
        (rising rest (place + 1) (moment + 0) (event + 1) (drop-next entries place (entry.End pid status) rest at) (omega (arith, many)) (omega (arith, early)) (more place (length rest) many founded))

  -- before it there is no slice of the group
  module _ (stands : first_broken entries ≡ None) where
    none-next : (place : ℕ) (e : Record) → place < length entries → e ≡ get_or entries place e → founds g e ≡ false → ((p : ℕ) → is_number g (groups_at entries place p) ≡ false) → (p : ℕ) → is_number g (groups_at entries (place + 1) p) ≡ false
    none-next place e lt is isnt none p = ap (λ (groups : Groups). is_number g (groups p)) (groups-next entries place e lt is) ∙ told-none g (groups_at entries place) none e isnt p

    founding : (place moment event : ℕ) (e : Record) (rest : List Record) → e ∷ rest ≡ drop place entries → suc (length rest) + place ≡ length entries → event ≤ place → ((p : ℕ) → is_number g (groups_at entries place p) ≡ false)
        → cond (founds g e) (Some event) (position_from (founds g) (event + 1) (events rest)) ≡ founding_event entries g
        → (((p : ℕ) → is_number g (groups_at entries (place + 1) p) ≡ false) → position_from (founds g) (event + 1) (events rest) ≡ founding_event entries g → Rising entries g 0 (event_behind (founding_event entries g)) 0 (filter (λ (s : SliceAt). is_number g (group_of entries s.pid)) (slices_from (place + 1) (moment + 0) (event + 1) rest)))
        → Rising entries g 0 (event_behind (founding_event entries g)) 0 (filter (λ (s : SliceAt). is_number g (group_of entries s.pid)) (slices_from (place + 1) (moment + 0) (event + 1) rest))
    founding place moment event e rest at many early none found goes-on =
        let lt : place < length entries = omega (arith, many) in
        let is : e ≡ get_or entries place e = here-is entries place e rest at in
        elim (cases_Bool (founds g e)) [
          | inl begins ↦
              let first = founder-next (behind (take place entries)) (greatest (take place entries)) g e (fits entries stands place e lt is) begins in
              let one : place + 1 ≡ suc place = omega arith in
              let upto : greatest (take (place + 1) entries) ≡ greatest_after e (greatest (take place entries)) = ap (λ (j : ℕ). greatest (take j entries)) one ∙ greatest-snoc 0 entries place e lt is in
              let here : Some event ≡ founding_event entries g = sym (ap (λ (c : Bool). cond c (Some event) (position_from (founds g) (event + 1) (events rest))) begins) ∙ found in
              let next : event_behind (founding_event entries g) ≡ event + 1 = sym (ap event_behind here) in
              rising-weaker entries g (part_len rest + (place + 1)) (event + 1 + part_len rest) (moment + 0) 0 (event_behind (founding_event entries g)) 0 (filter (λ (s : SliceAt). is_number g (group_of entries s.pid)) (slices_from (place + 1) (moment + 0) (event + 1) rest)) (omega arith) (omega (arith, next)) (omega arith)
              (rising (omega (arith, first.0)) rest (place + 1) (moment + 0) (event + 1) (drop-next entries place e rest at) (omega (arith, many)) (omega (arith, early)) (omega (arith, upto, first.0, first.1)))
          | inr isnt ↦ goes-on (none-next place e lt is isnt none) (sym (ap (λ (c : Bool). cond c (Some event) (position_from (founds g) (event + 1) (events rest))) isnt) ∙ found)
        ]

    -- a slice of another group
    others : (p r place moment event : ℕ) (rest : List Record) → entry.Slice p r ∷ rest ≡ drop place entries → place < length entries → ((q : ℕ) → is_number g (groups_at entries place q) ≡ false) → is_number g (group_of entries p) ≡ false
    others p r place moment event rest at lt none =
        let made = (fits entries stands place (entry.Slice p r) lt (here-is entries place (entry.Slice p r) rest at)).made in
        ap (is_number g) (sym (group-kept entries place p stands (omega (arith, lt)) made)) ∙ none p

    found-all : (rest : List Record) (place moment event : ℕ) → rest ≡ drop place entries → length rest + place ≡ length entries → event ≤ place → ((p : ℕ) → is_number g (groups_at entries place p) ≡ false) → position_from (founds g) event (events rest) ≡ founding_event entries g
        → Rising entries g 0 (event_behind (founding_event entries g)) 0 (filter (λ (s : SliceAt). is_number g (group_of entries s.pid)) (slices_from place moment event rest))
    found-all [] place moment event at many early none found = tt
    found-all (entry.Slice p r ∷ rest) place moment event at many early none found =
        let lt : place < length entries = omega (arith, many) in
        let is : entry.Slice p r ≡ get_or entries place (entry.Slice p r) = here-is entries place (entry.Slice p r) rest at in
        let other = others p r place moment event rest at lt none in
        let same : event + 0 ≡ event = omega arith in
        if-kept (is_number g (group_of entries p)) 0 (event_behind (founding_event entries g)) 0 (record { place = place; moment = moment; pid = p; ran = r; event = event })
        (filter (λ (s : SliceAt). is_number g (group_of entries s.pid)) (slices_from (place + 1) (moment + r) (event + 0) rest))
        (λ (member : is_number g (group_of entries p) ≡ true). absurd (let no : false ≡ true = sym other ∙ member in cc))
        (found-all rest (place + 1) (moment + r) (event + 0) (drop-next entries place (entry.Slice p r) rest at) (omega (arith, many)) (omega (arith, early)) (none-next place (entry.Slice p r) lt is refl none) (ap (λ (k : ℕ). position_from (founds g) k (events rest)) same ∙ found))
    found-all (entry.File name bytes ∷ rest) place moment event at many early none found =
        founding place moment event (entry.File name bytes) rest at many early none found
        (λ none' found'. found-all rest (place + 1) (moment + 0) (event + 1) (drop-next entries place (entry.File name bytes) rest at) (omega (arith, many)) (omega (arith, early)) none' found')
    found-all (entry.Boot name give ∷ rest) place moment event at many early none found =
        founding place moment event (entry.Boot name give) rest at many early none found
        (λ none' found'. found-all rest (place + 1) (moment + 0) (event + 1) (drop-next entries place (entry.Boot name give) rest at) (omega (arith, many)) (omega (arith, early)) none' found')
    found-all (entry.Typed bytes ∷ rest) place moment event at many early none found =
        founding place moment event (entry.Typed bytes) rest at many early none found
        (λ none' found'. found-all rest (place + 1) (moment + 0) (event + 1) (drop-next entries place (entry.Typed bytes) rest at) (omega (arith, many)) (omega (arith, early)) none' found')
    found-all (entry.Unplug device ∷ rest) place moment event at many early none found =
        founding place moment event (entry.Unplug device) rest at many early none found
        (λ none' found'. found-all rest (place + 1) (moment + 0) (event + 1) (drop-next entries place (entry.Unplug device) rest at) (omega (arith, many)) (omega (arith, early)) none' found')
    found-all (entry.Signal pid signal cut handler ∷ rest) place moment event at many early none found =
        founding place moment event (entry.Signal pid signal cut handler) rest at many early none found
        (λ none' found'. found-all rest (place + 1) (moment + 0) (event + 1) (drop-next entries place (entry.Signal pid signal cut handler) rest at) (omega (arith, many)) (omega (arith, early)) none' found')
    found-all (entry.Call pid number result extra ∷ rest) place moment event at many early none found =
        founding place moment event (entry.Call pid number result extra) rest at many early none found
        (λ none' found'. found-all rest (place + 1) (moment + 0) (event + 1) (drop-next entries place (entry.Call pid number result extra) rest at) (omega (arith, many)) (omega (arith, early)) none' found')
    found-all (entry.End pid status ∷ rest) place moment event at many early none found =
        founding place moment event (entry.End pid status) rest at many early none found
        (λ none' found'. found-all rest (place + 1) (moment + 0) (event + 1) (drop-next entries place (entry.End pid status) rest at) (omega (arith, many)) (omega (arith, early)) none' found')

    -- the group's slices, behind the event that begins it
    pub all-rising : Rising entries g 0 (event_behind (founding_event entries g)) 0 (slices_of entries g)
    all-rising = found-all entries 0 0 0 refl (omega arith) (omega arith) (λ (p : ℕ). refl) (sym (position_from-zero (founds g) (events entries)))
