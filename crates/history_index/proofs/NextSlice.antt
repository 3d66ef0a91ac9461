-- An index with one more slice.
use Rattle.std.proofs.Common.{◌≡◌, ◌≢◌, inl, inr, ℕ, zero, suc, ◌+◌, ◌<◌, ◌≤◌, ◌==◌, ◌||◌, ◌-◌, not, Bool, true, false, if◌then◌else◌, List, [], ◌∷◌, ◌++◌, length, map, filter, slice_get, get_or, Option, Some, None, IfSome, refl, ap, sym, subst, ◌∙◌, arith, length-append, length-set, add-zero, zero-add, get_or-set_other, get_or-set_same, position, append-nil}
use Rattle.std.specs.List.{range_with_len}
use Rattle.std.proofs.Math.Bool.{or-false}
use Rattle.std.proofs.lemmas.Bool.{or_parts, not-false}
use Rattle.std.proofs.lemmas.Bool.Decides.{eqb_tells}
use Rattle.std.proofs.lemmas.List.Folds.{list_any-append}
use Rattle.std.proofs.lemmas.List.Elements.{filter-append}
use Rattle.std.proofs.lemmas.Option.{slice_get-get_or}
use Rattle.arn_base.specs.declared.records.Record.{Record}
use Rattle.arn_base.specs.declared.records.Record.TheVariants as entry
use Rattle.acts_model.specs.Records.{event_len, process_of}
use Rattle.history_model.specs.Broken.{Nowhere, cant_follow, greatest}
use Rattle.history_model.specs.Events.{events, how_many}
use Rattle.history_model.specs.Groups.{Groups, group_of, count_from, count_of, is_number, ran_for}
use Rattle.history_model.specs.Moments.{lives_at, total}
use Rattle.history_model.specs.Names.{is_booted, is_boot}
use Rattle.replay_groups.specs.Groups.{group_at}
use Rattle.history_index.specs.declared.slices.SliceAt.{SliceAt}
use Rattle.history_index.specs.After.{with_next, slice_next}
use Rattle.history_index.specs.Families.{lives_in, run_in, runs_after}
use Rattle.history_index.specs.Indexes.{Indexes, TellsFamilies, AreMade, IsFounded}
use Rattle.history_index.specs.Lookups.{slice_in, slices_from, slices_of, places_from, moments_from, founds}
use Rattle.history_index.specs.Runs.{Run, no_run, with_slice}
use Rattle.history_index.specs.Tables.{Tables}
use Rattle.history_index.proofs.Snoc.{total-snoc, behind-snoc, greatest-snoc, groups-snoc, begin-snoc, events-snoc, places-snoc, moments-snoc, slices-snoc, count-snoc, stands-snoc}
use Rattle.history_index.proofs.Lives.{lives-snoc}
use Rattle.history_index.proofs.Lookups.{events-told}

-- a process that lives was made
live-inside : (lives : List Bool) (pid : ℕ) → lives_in lives pid ≡ true → pid < length lives
live-inside [] pid live = cc
live-inside (x ∷ lives) zero live = omega arith
live-inside (x ∷ lives) (suc pid) live = let h = live-inside lives pid live in omega arith

live-some : (lives : List Bool) (pid : ℕ) → lives_in lives 0 ≡ false → lives_in lives pid ≡ true → 0 < pid
live-some lives zero none live = cc
live-some lives (suc pid) none live = omega arith

made-snoc : (n pid ran : ℕ) (entries : List Record) → AreMade n entries → pid ≤ n → AreMade n (entries ++ entry.Slice pid ran ∷ [])
made-snoc n pid ran [] made within = (within, tt)
made-snoc n pid ran (entry.Slice p r ∷ entries) made within = (made.0, made-snoc n pid ran entries made.1 within)
made-snoc n pid ran (_ ∷ entries) made within = made-snoc n pid ran entries made within

-- the group of a process that was made
pub group-some : (groups : List ℕ) (pid : ℕ) → 0 < pid → pid ≤ length groups → (g : ℕ) × ((group_at groups pid ≡ Some g) × (slice_get groups (pid - 1) ≡ Some g))
group-some groups zero some within = absurd (omega arith)
group-some groups (suc i) some within =
    let inside : i < length groups = omega arith in
    let is = slice_get-get_or groups i 0 inside in
    let same : suc i - 1 ≡ i = omega arith in
    (get_or groups i 0, (is, rw same is))

-- the runs behind one more slice
run-same : (runs : List Run) (g : ℕ) (s : SliceAt) → g < length runs → run_in (runs_after runs (Some g) s) g ≡ with_slice (run_in runs g) s
run-same runs g s inside = get_or-set_same runs g (with_slice (run_in runs g) s) no_run inside

run-other : (runs : List Run) (g h : ℕ) (s : SliceAt) → h ≢ g → run_in (runs_after runs (Some g) s) h ≡ run_in runs h
run-other runs g h s differs = get_or-set_other runs g h (with_slice (run_in runs g) s) no_run differs

count-next : (runs : List Run) (g h : ℕ) (s : SliceAt) → g < length runs → (run_in (runs_after runs (Some g) s) h).count ≡ (run_in runs h).count + (if g == h then s.ran else 0)
count-next runs g h s inside =
    elim (eqb_tells g h) [
      | inl e ↦ let within : h < length runs = omega arith in rw (e.0, e.1) (ap (λ (r : Run). r.count) (run-same runs h s within))
      | inr e ↦ let apart : h ≢ g = λ d. e.1 (sym d) in rw e.0 (ap (λ (r : Run). r.count) (run-other runs g h s apart) ∙ sym (add-zero ((run_in runs h).count)))
    ]

slices-next : (runs : List Run) (g h : ℕ) (s : SliceAt) → g < length runs → (run_in (runs_after runs (Some g) s) h).slices ≡ (run_in runs h).slices ++ (if g == h then s ∷ [] else [])
slices-next runs g h s inside =
    elim (eqb_tells g h) [
      | inl e ↦ let within : h < length runs = omega arith in rw (e.0, e.1) (ap (λ (r : Run). r.slices) (run-same runs h s within))
      | inr e ↦ let apart : h ≢ g = λ d. e.1 (sym d) in rw e.0 (ap (λ (r : Run). r.slices) (run-other runs g h s apart) ∙ sym (append-nil ((run_in runs h).slices)))
    ]

second-false : (a b c : Bool) → (a || (b || c)) ≡ false → b ≡ false
second-false a b c is = (or_parts b c ((or_parts a (b || c) is).1)).0

module _ (t : Tables) (entries : List Record) (pid ran : ℕ) (i : Indexes t entries) (stands : cant_follow entries (entry.Slice pid ran) ≡ false) where
  live : lives_in t.families.lives pid ≡ true
  live =
      i.families.lives pid
      ∙ not-false (lives_at entries (total entries) pid) (second-false (not (is_booted entries)) (not (lives_at entries (total entries) pid)) false stands)

  some : 0 < pid
  some = live-some t.families.lives pid i.families.no_zero live

  within : pid ≤ length t.families.groups
  within = let h = live-inside t.families.lives pid live in omega (arith, i.families.as_many_lives)

  same-groups : (g : ℕ) → count_of (entries ++ entry.Slice pid ran ∷ []) g ≡ count_of entries g + ran_for g (group_of entries) (entry.Slice pid ran)
  same-groups g =
      ap (λ (groups : Groups). count_from g groups (entries ++ entry.Slice pid ran ∷ [])) (groups-snoc (λ p. None) entries (entry.Slice pid ran))
      ∙ count-snoc g (group_of entries) entries (entry.Slice pid ran)

  same-slice : slice_next t pid ran ∷ [] ≡ slice_in (0 + length entries) (0 + total entries) (0 + how_many entries) (entry.Slice pid ran) []
  same-slice =
      let a : t.records ≡ 0 + length entries = omega (arith, i.records) in
      let b : t.total ≡ 0 + total entries = omega (arith, i.total) in
      let many = events-told t entries i in
      let c : length t.events ≡ 0 + how_many entries = omega arith in
      rw (a, b, c) refl

  slices-are : (g : ℕ) → slices_of (entries ++ entry.Slice pid ran ∷ []) g ≡ slices_of entries g ++ (if is_number g (group_of entries pid) then slice_next t pid ran ∷ [] else [])
  slices-are g =
      ap (λ (groups : Groups). filter (λ s. is_number g (groups s.pid)) (slices_from 0 0 0 (entries ++ entry.Slice pid ran ∷ []))) (groups-snoc (λ p. None) entries (entry.Slice pid ran))
      ∙ ap (filter (λ s. is_number g (group_of entries s.pid))) (slices-snoc 0 0 0 entries (entry.Slice pid ran) ∙ ap (λ (xs : List SliceAt). slices_from 0 0 0 entries ++ xs) (sym same-slice))
      ∙ filter-append (λ s. is_number g (group_of entries s.pid)) (slices_from 0 0 0 entries) (slice_next t pid ran ∷ [])

  no-event : events (entries ++ entry.Slice pid ran ∷ []) ≡ events entries
  no-event = events-snoc entries (entry.Slice pid ran) ∙ append-nil (events entries)

  families-told : TellsFamilies (with_next t pid ran).families (entries ++ entry.Slice pid ran ∷ [])
  families-told =
      let f = i.families in
      let some-group = group-some t.families.groups pid some within in
      let g = some-group.0 in
      let is : group_at t.families.groups pid ≡ Some g = some-group.1.0 in
      let told : group_of entries pid ≡ Some g = sym (f.groups pid) ∙ is in
      let founded : IsFounded (length t.families.groups) g = subst (λ (o : Option ℕ). IfSome o (IsFounded (length t.families.groups))) some-group.1.1 (f.founded (pid - 1)) in
      let inside : g < length t.families.runs = omega (arith, founded.1, f.as_many_runs) in
      rw is (record {
        processes = f.processes ∙ sym (greatest-snoc 0 entries (entry.Slice pid ran));
        as_many_lives = f.as_many_lives;
        as_many_runs = simp length-set f.as_many_runs;
        as_many_foundings = f.as_many_foundings;
        groups = λ q. f.groups q ∙ ap (λ (groups : Groups). groups q) (sym (groups-snoc (λ p. None) entries (entry.Slice pid ran)));
        founded = f.founded;
        no_zero = f.no_zero;
        lives = λ q. f.lives q ∙ sym (lives-snoc entries (entry.Slice pid ran) q);
        counts = λ h.
            count-next t.families.runs g h (slice_next t pid ran) inside
            ∙ ap (λ (n : ℕ). n + (if g == h then ran else 0)) (f.counts h)
            ∙ ap (λ (o : Option ℕ). count_of entries h + (if is_number h o then ran else 0)) (sym told)
            ∙ sym (same-groups h);
        slices = λ h.
            slices-next t.families.runs g h (slice_next t pid ran) inside
            ∙ ap (λ (xs : List SliceAt). xs ++ (if g == h then slice_next t pid ran ∷ [] else [])) (f.slices h)
            ∙ ap (λ (o : Option ℕ). slices_of entries h ++ (if is_number h o then slice_next t pid ran ∷ [] else [])) (sym told)
            ∙ sym (slices-are h);
        founders = f.founders ∙ sym (
            ap (λ (groups : Groups). filter (λ q. is_number q (groups q)) (range_with_len 1 (greatest (entries ++ entry.Slice pid ran ∷ [])))) (groups-snoc (λ p. None) entries (entry.Slice pid ran))
            ∙ ap (λ (n : ℕ). filter (λ q. is_number q (group_of entries q)) (range_with_len 1 n)) (greatest-snoc 0 entries (entry.Slice pid ran)));
        foundings = λ h. f.foundings h ∙ ap (position (founds h)) (sym no-event);
        made = made-snoc (length t.families.groups) pid ran entries f.made within;
      })

  pub next-slice : Indexes (with_next t pid ran) (entries ++ entry.Slice pid ran ∷ [])
  next-slice = record {
    stands = stands-snoc entries (entry.Slice pid ran) i.stands stands;
    records = ap (λ (n : ℕ). n + 1) i.records ∙ sym (length-append entries (entry.Slice pid ran ∷ []));
    total = ap (λ (n : ℕ). n + ran) i.total ∙ sym (total-snoc entries (entry.Slice pid ran));
    begins = i.total ∙ sym (begin-snoc 0 0 entries (entry.Slice pid ran) ∙ zero-add (total entries));
    is_booted = i.is_booted ∙ sym (list_any-append is_boot entries (entry.Slice pid ran ∷ []) ∙ or-false (is_booted entries));
    unbooted = i.unbooted;
    at_hand = sym (behind-snoc Nowhere entries (entry.Slice pid ran));
    hand_made = (some, within);
    families = families-told;
    events = record {
      places = i.events.places ∙ sym (places-snoc 0 entries (entry.Slice pid ran) ∙ append-nil (places_from 0 entries));
      moments = i.events.moments ∙ sym (moments-snoc 0 0 entries (entry.Slice pid ran) ∙ append-nil (moments_from 0 0 entries));
      pids = i.events.pids ∙ sym (ap (map process_of) no-event);
      lens = i.events.lens ∙ sym (ap (map event_len) no-event);
    };
  }
