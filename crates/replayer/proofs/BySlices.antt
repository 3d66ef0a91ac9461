-- A group alone is made of its own records.
use Rattle.std.proofs.lemmas.Grind.{common_steps}
use Rattle.std.proofs.lemmas.Bool.Decides.{nat_tests}
use Rattle.std.proofs.Common.{◌≡◌, ◌<◌, ◌≤◌, ℕ, zero, suc, ◌+◌, ◌-◌, ◌==◌, min, nat_le, Bool, true, false, if◌then◌else◌, cond, List, [], ◌∷◌, drop, filter, Some, None, inl, inr, refl, ap, sym, ◌∙◌, add-zero, arith}
use Rattle.std.proofs.lemmas.Bool.{eqb-true, le-leb, not-false, cases_Bool}
use Rattle.std.proofs.lemmas.Bool.Decides.{eqb_tells}
use Rattle.arn_base.specs.declared.records.Record.{Record}
use Rattle.arn_base.specs.declared.records.Record.TheVariants as entry
use Rattle.acts_model.specs.Records.{is_event}
use Rattle.history_index.specs.declared.slices.SliceAt.{SliceAt}
use Rattle.history_index.specs.Lookups.{events_in, founds, slice_in, slices_from}
use Rattle.history_model.specs.Alone as alone
use Rattle.history_model.specs.Alone.{Standing, Own, Made, Makes, nothing_own, replayed, settled, at_first}
use Rattle.history_model.specs.Broken.{Behind, ASlice, behind_record, greatest_after, is_behind, Nowhere}
use Rattle.history_model.specs.Groups.{Groups, group_of, groups_from, groups_told, is_number}
use Rattle.history_model.specs.Moments.{ran_in}
use Rattle.history_model.specs.Names.{is_boot}
use Rattle.replayer.specs.BySlices.{AloneBySlices, after_own, after_part, before_slice, first_made, own_groups, with_slices}
use Rattle.replayer.proofs.FirstOf.{found-first, found_from}
use Rattle.replayer.proofs.Own.{founder-next, founds-no-more, hand-less, kept-all, of-others, own-none, same-test, told-below, told-none}
use Rattle.replayer.proofs.Passing.{counts-one, if-zero, made-if-not, passes, settled-same, and-true}
use Rattle.replayer.proofs.Sound.{Fits, Sound, grows, sound}

-- the slices of the group among the records that are left
abbrev mine : ℕ → List Record → ℕ → Standing → List Record → List SliceAt
mine g entries place t rest = filter (λ s. is_number g (group_of entries s.pid)) (slices_from place t.moment t.events rest)

-- where a replay of the group stands, with these left
record Common (entries rest : List Record) (b : Behind) (n : ℕ) (t : Standing) : Type 0 where
  sound : Sound b n rest
  unmade : (p : ℕ) → n < p → t.groups p ≡ None
  hand : (q : ℕ) → is_behind q b ≡ true → q ≤ n
  final : (p : ℕ) → group_of entries p ≡ groups_from rest t.groups p

-- before the group begins
record Unfounded (g until : ℕ) (t : Standing) : Type 0 where
  made : t.made ≡ Makes nothing_own
  owed : t.owed ≡ 0
  ended : t.is_ended ≡ nat_le t.moment until
  none : (p : ℕ) → is_number g (t.groups p) ≡ false

-- behind a slice of its own
record Inside (g : ℕ) (b : Behind) (n : ℕ) (t : Standing) : Type 0 where
  member : (q : ℕ) → is_behind q b ≡ true → is_number g (t.groups q) ≡ true
  some : 0 < g
  founded : g ≤ n

-- behind one of another group
record Outside (g : ℕ) (b : Behind) (n : ℕ) (t : Standing) : Type 0 where
  owed : t.owed ≡ 0
  others : (q : ℕ) → is_behind q b ≡ true → is_number g (t.groups q) ≡ false
  some : 0 < g
  founded : g ≤ n

-- what is left is made by slices
record Told (g until : ℕ) (entries : List Record) (place : ℕ) (rest : List Record) : Type 0 where
  unfounded : (b : Behind) (n : ℕ) (t : Standing) → Common entries rest b n t → Unfounded g until t → settled (replayed g until t rest) ≡ with_slices g until entries (found_from g until t.events t.moment rest) (mine g entries place t rest)
  inside : (b : Behind) (n : ℕ) (t : Standing) → Common entries rest b n t → Inside g b n t → settled (replayed g until t rest) ≡ with_slices g until entries (settled (after_part g until (record t { groups = own_groups g }) rest)) (mine g entries place t rest)
  outside : (b : Behind) (n : ℕ) (t : Standing) → Common entries rest b n t → Outside g b n t → settled (replayed g until t rest) ≡ with_slices g until entries t.made (mine g entries place t rest)

-- a slice of the group begins its part
part-of : ℕ → ℕ → ℕ → ℕ → Made → Bool → ℕ → ℕ → Standing
part-of g until p r made flag events moment =
    record {
      made = made;
      groups = own_groups g;
      events = events;
      moment = moment + r;
      is_begun = nat_le moment until;
      is_ended = nat_le (moment + r) until;
      owed = if flag then min r (until - moment) else 0;
      pid = p;
      ran = r;
      end_event = events;
    }

starts-part : (g until p r place : ℕ) (t : Standing) (made : Made) → made ≡ settled t → is_number g (t.groups p) ≡ true
    → alone.after_slice g until p r (before_slice g made (record { place = place; moment = t.moment; pid = p; ran = r; event = t.events })) ≡ record (alone.after_slice g until p r t) { groups = own_groups g }
unfolding part-of
starts-part g until p r place t made is member = grind (arith, same-test g g refl)

module _ (g until : ℕ) (entries : List Record) (place : ℕ) (rest : List Record) where
  -- a slice
  module _ (p r : ℕ) (at : rest ≡ drop (place + 1) entries) (told : Told g until entries (place + 1) rest) (b : Behind) (n : ℕ) (t : Standing) (c : Common entries (entry.Slice p r ∷ rest) b n t) where
    slice-common : Common entries rest (ASlice p) n (alone.after_slice g until p r t)
    slice-common = grind (arith, common_steps, nat_tests, sound, eqb-true)

    final-same : group_of entries p ≡ t.groups p
    final-same = c.final p ∙ kept-all (entry.Slice p r ∷ rest) b n t.groups p c.sound c.sound.0.made

    here : SliceAt
    here = record { place = place; moment = t.moment; pid = p; ran = r; event = t.events }

    mine-slice : (m : Bool) → is_number g (t.groups p) ≡ m → mine g entries place t (entry.Slice p r ∷ rest) ≡ cond m (record { place = place; moment = t.moment; pid = p; ran = r; event = t.events } ∷ mine g entries (place + 1) (alone.after_slice g until p r t) rest) (mine g entries (place + 1) (alone.after_slice g until p r t) rest)
    mine-slice m is = cc (add-zero t.events, final-same)

    slice-next : (acc : Made) → acc ≡ settled t → 0 < g → g ≤ n → settled (replayed g until (alone.after_slice g until p r t) rest) ≡ with_slices g until entries acc (mine g entries place t (entry.Slice p r ∷ rest))
    slice-next acc is some founded =
        let t' : Standing = alone.after_slice g until p r t in
        let s : SliceAt = record { place = place; moment = t.moment; pid = p; ran = r; event = t.events } in
        elim (cases_Bool (is_number g (t.groups p))) [
          | inl member ↦
              told.inside (ASlice p) n (alone.after_slice g until p r t) slice-common
              (record { member = λ (q : ℕ) (is : is_behind q (ASlice p) ≡ true). ap (λ (k : ℕ). is_number g (t.groups k)) (sym (eqb-true p q is)) ∙ member; some = some; founded = founded })
              ∙ (ap (λ (u : Standing). with_slices g until entries (settled (after_part g until u rest)) (mine g entries (place + 1) (alone.after_slice g until p r t) rest)) (sym (starts-part g until p r place t acc is member))
              ∙ (ap (λ (es : List Record). with_slices g until entries (settled (after_part g until (alone.after_slice g until p r (before_slice g acc s)) es)) (mine g entries (place + 1) (alone.after_slice g until p r t) rest)) at
              ∙ ap (with_slices g until entries acc) (sym (mine-slice true member))))
          | inr other ↦
              told.outside (ASlice p) n (alone.after_slice g until p r t) slice-common
              (record {
                owed = ap (λ (f : Bool). if f then min r (until - t.moment) else 0) other;
                others = λ (q : ℕ) (is : is_behind q (ASlice p) ≡ true). ap (λ (k : ℕ). is_number g (t.groups k)) (sym (eqb-true p q is)) ∙ other;
                some = some;
                founded = founded;
              })
              ∙ (ap (λ (m : Made). with_slices g until entries m (mine g entries (place + 1) (alone.after_slice g until p r t) rest)) (sym is)
              ∙ ap (with_slices g until entries acc) (sym (mine-slice false other)))
        ]

    slice-unfounded : Unfounded g until t → settled (replayed g until (alone.after_slice g until p r t) rest) ≡ with_slices g until entries (found_from g until t.events t.moment (entry.Slice p r ∷ rest)) (mine g entries place t (entry.Slice p r ∷ rest))
    slice-unfounded u = grind (arith, slice-common, settled-same t u.owed, add-zero t.events, mine-slice false (u.none p))

  slice-told : (p r : ℕ) → rest ≡ drop (place + 1) entries → Told g until entries (place + 1) rest → Told g until entries place (entry.Slice p r ∷ rest)
  slice-told p r at told =
      record {
        unfounded = λ b n t c u. slice-unfounded p r at told b n t c u;
        inside = λ b n t c i. slice-next p r at told b n t c (settled t) refl i.some i.founded;
        outside = λ b n t c o. slice-next p r at told b n t c t.made (sym (settled-same t o.owed)) o.some o.founded;
      }

-- an event is no slice
pub slice-none : (place moment event : ℕ) (e : Record) (slices : List SliceAt) → is_event e ≡ true → slice_in place moment event e slices ≡ slices
slice-none place moment event (entry.Slice pid ran) slices is = absurd (let no-way : false ≡ true = is in cc)
slice-none place moment event _ slices is = refl

pub part-event : (g until : ℕ) (u : Standing) (e : Record) (rest : List Record) → is_event e ≡ true → after_part g until u (e ∷ rest) ≡ after_part g until (after_own g until u e) rest
part-event g until u (entry.Slice pid ran) rest is = absurd (let no-way : false ≡ true = is in cc)
part-event g until u _ rest is = refl

pub keeps-ended : (g until : ℕ) (t : Standing) (e : Record) → is_event e ≡ true → t.is_ended ≡ nat_le t.moment until → (alone.after_record g until t e).is_ended ≡ nat_le (alone.after_record g until t e).moment until
keeps-ended g until t (entry.Slice pid ran) is ended = refl
keeps-ended g until t _ is ended = ended

-- behind a slice of the group each process is taken for a member
own-last : (g until pid : ℕ) (t : Standing) (e : Record) → is_number g (t.groups pid) ≡ true → record (alone.after_last g pid e (record t { groups = own_groups g })) { groups = own_groups g } ≡ record (alone.after_last g pid e t) { groups = own_groups g }
own-last g until pid t e member = cc (same-test g g refl)

own-record : (g until : ℕ) (b : Behind) (n : ℕ) (t : Standing) (e : Record) → Fits b n e → is_event e ≡ true → is_boot e ≡ false → ((q : ℕ) → is_behind q b ≡ true → is_number g (t.groups q) ≡ true)
    → after_own g until (record t { groups = own_groups g }) e ≡ record (alone.after_record g until t e) { groups = own_groups g }
own-record g until b n t e h1 h2 h3 h4 = grind (arith, nat_tests, same-test, not-false, own-last)

-- the event that begins the group
if-made : (c : Bool) (own : Own) (next : Own → Made) → alone.made_if c (Makes own) next ≡ (if c then next own else Makes own)
if-made true own next = refl
if-made false own next = refl

boot-at : (g : ℕ) → is_number g (if g == 1 then Some 1 else None) ≡ true → (g == 1) ≡ true
boot-at g is = grind (arith, eqb_tells g 1)

record Begun (g until : ℕ) (t : Standing) (e : Record) : Type 0 where
  made : (alone.after_record g until t e).made ≡ (if nat_le t.moment until then first_made g t.events e else Makes nothing_own)
  owed : (alone.after_record g until t e).owed ≡ 0

begun : (g until : ℕ) (t : Standing) (e : Record) → Unfounded g until t → founds g e ≡ true → Begun g until t e
begun g until t e h1 h2 = grind (arith, nat_tests, and-true, boot-at, if-made, made-if-not, if-zero)

module _ (g until : ℕ) (entries : List Record) (place : ℕ) (rest : List Record) (e : Record) (event : is_event e ≡ true) (told : Told g until entries (place + 1) rest) (b : Behind) (n : ℕ) (t : Standing) (c : Common entries (e ∷ rest) b n t) where
  next : Standing
  next = alone.after_record g until t e

  groups-next : (alone.after_record g until t e).groups ≡ groups_told e t.groups
  groups-next = (counts-one g until t e).groups

  event-common : Common entries rest (behind_record b e) (greatest_after e n) (alone.after_record g until t e)
  event-common = grind (arith, grows e n, sound, groups-next)

  groups-same : (q : ℕ) → is_behind q (behind_record b e) ≡ true → (alone.after_record g until t e).groups q ≡ t.groups q
  groups-same q is = ap (λ (gs : Groups). gs q) groups-next ∙ told-below b n e t.groups q c.sound.0 (c.hand q (hand-less b e q event is))

  mine-event : mine g entries place t (e ∷ rest) ≡ mine g entries (place + 1) (alone.after_record g until t e) rest
  mine-event = grind (arith, nat_tests, counts-one, slice-none)

  isnt-boot : 0 < g → g ≤ n → is_boot e ≡ false
  isnt-boot h1 h2 = grind (arith, nat_tests, cases_Bool)

  event-outside : Outside g b n t → settled (replayed g until (alone.after_record g until t e) rest) ≡ with_slices g until entries t.made (mine g entries place t (e ∷ rest))
  event-outside o =
      let founded = o.founded in
      let other = of-others b n g e t.groups c.sound.0 event (isnt-boot o.some o.founded) (founds-no-more b n g e c.sound.0 o.founded) o.others in
      let pass = passes g until t o.owed e other in
      told.outside (behind_record b e) (greatest_after e n) (alone.after_record g until t e) event-common
      (record {
        owed = pass.owed;
        others = λ (q : ℕ) (is : is_behind q (behind_record b e) ≡ true). ap (is_number g) (groups-same q is) ∙ o.others q (hand-less b e q event is);
        some = o.some;
        founded = omega (arith, grows e n, founded);
      })
      ∙ (ap (λ (m : Made). with_slices g until entries m (mine g entries (place + 1) (alone.after_record g until t e) rest)) pass.made
      ∙ ap (with_slices g until entries t.made) (sym mine-event))

  event-inside : Inside g b n t → settled (replayed g until (alone.after_record g until t e) rest) ≡ with_slices g until entries (settled (after_part g until (record t { groups = own_groups g }) (e ∷ rest))) (mine g entries place t (e ∷ rest))
  event-inside h1 = grind (arith, nat_tests, own-record, isnt-boot, event-common, groups-same, hand-less, grows, part-event, mine-event)

  event-unfounded : Unfounded g until t → settled (replayed g until (alone.after_record g until t e) rest) ≡ with_slices g until entries (found_from g until t.events t.moment (e ∷ rest)) (mine g entries place t (e ∷ rest))
  event-unfounded u =
      elim (cases_Bool (founds g e)) [
        | inl is ↦
            let begins = begun g until t e u is in
            let first = founder-next b n g e c.sound.0 is in
            told.outside (behind_record b e) (greatest_after e n) (alone.after_record g until t e) event-common
            (record {
              owed = begins.owed;
              others = λ (q : ℕ) (hand : is_behind q (behind_record b e) ≡ true). absurd (let no-way : false ≡ true = sym (first.2 q) ∙ hand in cc);
              some = omega (arith, first.0);
              founded = omega (arith, first.0, first.1);
            })
            ∙ (ap (λ (m : Made). with_slices g until entries m (mine g entries (place + 1) (alone.after_record g until t e) rest))
            (begins.made ∙ ap (λ (f : Bool). if f then (if nat_le t.moment until then first_made g t.events e else Makes nothing_own) else found_from g until (t.events + events_in e) (t.moment + ran_in e) rest) (sym is))
            ∙ ap (with_slices g until entries (found_from g until t.events t.moment (e ∷ rest))) (sym mine-event))
        | inr isnt ↦
            let counts = counts-one g until t e in
            let pass = passes g until t u.owed e (own-none g t.groups u.none e isnt) in
            told.unfounded (behind_record b e) (greatest_after e n) (alone.after_record g until t e) event-common
            (record {
              made = pass.made ∙ u.made;
              owed = pass.owed;
              ended = keeps-ended g until t e event u.ended;
              none = λ (p : ℕ). ap (λ (gs : Groups). is_number g (gs p)) groups-next ∙ told-none g t.groups u.none e isnt p;
            })
            ∙ (ap (λ (m : Made). with_slices g until entries m (mine g entries (place + 1) (alone.after_record g until t e) rest))
            (ap (λ (k : ℕ). found_from g until k (alone.after_record g until t e).moment rest) counts.events
            ∙ (ap (λ (k : ℕ). found_from g until (t.events + events_in e) k rest) counts.moment
            ∙ ap (λ (f : Bool). if f then (if nat_le t.moment until then first_made g t.events e else Makes nothing_own) else found_from g until (t.events + events_in e) (t.moment + ran_in e) rest) (sym isnt)))
            ∙ ap (with_slices g until entries (found_from g until t.events t.moment (e ∷ rest))) (sym mine-event))
      ]

pub drop-next : (xs : List Record) (k : ℕ) (e : Record) (rest : List Record) → e ∷ rest ≡ drop k xs → rest ≡ drop (k + 1) xs
drop-next [] zero e rest is = absurd (let no-way : e ∷ rest ≡ [] = is in cc)
drop-next [] (suc k) e rest is = absurd (let no-way : e ∷ rest ≡ [] = is in cc)
drop-next (x ∷ xs) zero e rest is = let same : e ∷ rest ≡ x ∷ xs = is in cc
drop-next (x ∷ xs) (suc k) e rest is =
    let more : suc k + 1 ≡ suc (k + 1) = omega arith in drop-next xs k e rest is ∙ ap (λ (j : ℕ). drop j (x ∷ xs)) (sym more)

module _ (g until : ℕ) (entries : List Record) where
  event-told : (place : ℕ) (rest : List Record) (e : Record) → is_event e ≡ true → Told g until entries (place + 1) rest → Told g until entries place (e ∷ rest)
  event-told place rest e event told = grind (arith, event-unfounded g, event-inside g, event-outside g)

  told-all : (rest : List Record) (place : ℕ) → rest ≡ drop place entries → Told g until entries place rest
  told-all [] place at = record { unfounded = λ b n t c u. settled-same t u.owed ∙ u.made; inside = λ b n t c i. refl; outside = λ b n t c o. settled-same t o.owed }
  told-all (entry.Slice p r ∷ rest) place at =
      let more = drop-next entries place (entry.Slice p r) rest at in slice-told g until entries place rest p r more (told-all rest (place + 1) more)
  told-all (e ∷ rest) place at = event-told place rest e refl (told-all rest (place + 1) (drop-next entries place e rest at))

begins-at-zero : (n : ℕ) → true ≡ nat_le 0 n
begins-at-zero n = sym (le-leb 0 n (omega arith))

pub alone-by-slices : AloneBySlices
alone-by-slices entries g until stands =
    (told-all g until entries entries 0 refl).unfounded Nowhere 0 at_first
    (record {
      sound = sound entries stands;
      unmade = λ (p : ℕ) (lt : 0 < p). refl;
      hand = λ (q : ℕ) (is : is_behind q Nowhere ≡ true). absurd (let no-way : false ≡ true = is in cc);
      final = λ (p : ℕ). refl;
    })
    (record { made = refl; owed = refl; ended = begins-at-zero until; none = λ (p : ℕ). refl })
    ∙ ap (λ (m : Made). with_slices g until entries m (mine g entries 0 at_first entries)) (found-first g until entries)
