-- A slice's part, as a group alone has it, is what running it makes.
use Rattle.std.proofs.lemmas.Bool.Decides.{nat_tests}
use Rattle.std.proofs.Common.{◌≡◌, ◌<◌, ◌≤◌, ℕ, ◌+◌, ◌-◌, ◌==◌, min, nat_le, Bool, true, false, if◌then◌else◌, List, ◌∷◌, length, take, drop, None, refl, ap, ◌∙◌, arith, [], inl, inr, sym}
use Rattle.std.proofs.lemmas.Bool.{cases_Bool}
use Rattle.arn_base.specs.declared.records.Record.{Record}
use Rattle.arn_base.specs.declared.records.Record.TheVariants as entry
use Rattle.acts_model.specs.Records.{is_event}
use Rattle.history_index.specs.declared.slices.SliceAt.{SliceAt}
use Rattle.history_index.specs.Lookups.{founds}
use Rattle.history_model.specs.Alone as alone
use Rattle.history_model.specs.Alone.{Standing, Own, Made, Makes, Fails, and_then, settled}
use Rattle.history_model.specs.Broken.{Behind, first_broken, greatest, greatest_after, behind_record, behind}
use Rattle.history_model.specs.Names.{is_boot}
use Rattle.replay_steps.specs.Plain.{slice_of}
use Rattle.replayer.specs.BySlices.{after_own, after_part, before_slice, own_groups, with_slice}
use Rattle.replayer.specs.Parts.{made_after, part_after, part_made, part_of}
use Rattle.replayer.specs.declared.parts.Part.{Part}
use Rattle.replayer.proofs.BySlices.{part-event}
use Rattle.replayer.proofs.Loops.{after-fails}
use Rattle.replayer.proofs.Own.{founds-no-more, same-test}
use Rattle.replayer.proofs.Passing.{call-begins, made-if-same, settled-same, and-true}
use Rattle.replayer.proofs.Running.{made-event}
use Rattle.replayer.proofs.Sound.{Sound, grows, sound-from}

-- where the part stands, as a group alone has it
abbrev standing : ℕ → ℕ → Part → Made → Standing
standing g moment p made =
    record {
      made = made;
      groups = own_groups g;
      events = p.turn.event;
      moment = moment;
      is_begun = p.is_begun;
      is_ended = p.is_ended;
      owed = p.owed;
      pid = p.turn.pid;
      ran = p.turn.ran;
      end_event = p.turn.end_event;
    }

own-after : (g until moment : ℕ) (p : Part) (own : Own) (e : Record) → is_event e ≡ true → is_boot e ≡ false → founds g e ≡ false → after_own g until (standing g moment p (Makes own)) e ≡ standing g moment (part_after p e) (made_after p e own)
own-after g until moment p own e h1 h2 h3 = grind (arith, nat_tests, and-true, same-test, made-if-same, call-begins)

pub part-failed : (g until : ℕ) (t : Standing) (rest : List Record) (d : alone.Disagrees) → t.made ≡ Fails d → settled (after_part g until t rest) ≡ Fails d
part-failed g until t [] d fails = ap (λ (m : Made). and_then m (alone.plains (alone.slice_of t) 0 t.owed)) fails
part-failed g until t (entry.Slice pid ran ∷ rest) d fails = ap (λ (m : Made). and_then m (alone.plains (alone.slice_of t) 0 t.owed)) fails
part-failed g until t (entry.File name bytes ∷ rest) d fails = part-failed g until (after_own g until t (entry.File name bytes)) rest d fails
part-failed g until t (entry.Boot name give ∷ rest) d fails = part-failed g until (after_own g until t (entry.Boot name give)) rest d (after-fails g until t (entry.Boot name give) d fails)
part-failed g until t (entry.Typed bytes ∷ rest) d fails = part-failed g until (after_own g until t (entry.Typed bytes)) rest d fails
part-failed g until t (entry.Unplug device ∷ rest) d fails = part-failed g until (after_own g until t (entry.Unplug device)) rest d fails
part-failed g until t (entry.Signal pid signal cut handler ∷ rest) d fails =
    part-failed g until (after_own g until t (entry.Signal pid signal cut handler)) rest d (after-fails g until t (entry.Signal pid signal cut handler) d fails)
part-failed g until t (entry.Call pid number r more ∷ rest) d fails = part-failed g until (after_own g until t (entry.Call pid number r more)) rest d (after-fails g until t (entry.Call pid number r more) d fails)
part-failed g until t (entry.End pid status ∷ rest) d fails = part-failed g until (after_own g until t (entry.End pid status)) rest d (after-fails g until t (entry.End pid status) d fails)

module _ (g until moment : ℕ) (some : 0 < g) where
  unfailed : (rest : List Record) (p : Part) → ((own : Own) → settled (after_part g until (standing g moment p (Makes own)) rest) ≡ part_made p rest own) → (made : Made) → settled (after_part g until (standing g moment p made) rest) ≡ and_then made (part_made p rest)
  unfailed rest p makes (Makes own) = makes own
  unfailed rest p makes (Fails d) = part-failed g until (standing g moment p (Fails d)) rest d refl

  step : (b : Behind) (n : ℕ) (rest : List Record) (e : Record) (p : Part) (own : Own) → is_event e ≡ true → Sound b n (e ∷ rest) → g ≤ n → ((p : Part) (own : Own) → settled (after_part g until (standing g moment p (Makes own)) rest) ≡ part_made p rest own)
      → settled (after_part g until (standing g moment p (Makes own)) (e ∷ rest)) ≡ part_made p (e ∷ rest) own
  step b n rest e p own event sound le makes =
      let isnt : is_boot e ≡ false = elim (cases_Bool (is_boot e)) [ inl is ↦ let none = sound.0.boot is in absurd (omega (arith, some, le, none)) | inr isnt ↦ isnt ] in
      ap settled (part-event g until (standing g moment p (Makes own)) e rest event)
      ∙ (ap (λ (u : Standing). settled (after_part g until u rest)) (own-after g until moment p own e event isnt (founds-no-more b n g e sound.0 le))
      ∙ (unfailed rest (part_after p e) (makes (part_after p e)) (made_after p e own)
      ∙ sym (made-event p e rest own event)))

  next : (rest : List Record) (b : Behind) (n : ℕ) (e : Record) → Sound b n (e ∷ rest) → g ≤ n → g ≤ greatest_after e n
  next rest b n e sound le = let up = grows e n in omega (arith, up, le)

  bridge : (rest : List Record) (b : Behind) (n : ℕ) → Sound b n rest → g ≤ n → (p : Part) (own : Own) → settled (after_part g until (standing g moment p (Makes own)) rest) ≡ part_made p rest own
  bridge [] b n sound le p own = refl
  bridge (entry.Slice pid ran ∷ rest) b n sound le p own = refl
  bridge (e ∷ rest) b n sound le p own = step b n rest e p own refl sound le (bridge rest (behind_record b e) (greatest_after e n) sound.1 (next rest b n e sound le))

begun-of : ℕ → ℕ → SliceAt → Made → Bool → Standing
begun-of g until s made flag =
    record {
      made = made;
      groups = own_groups g;
      events = s.event;
      moment = s.moment + s.ran;
      is_begun = nat_le s.moment until;
      is_ended = nat_le (s.moment + s.ran) until;
      owed = if flag then min s.ran (until - s.moment) else 0;
      pid = s.pid;
      ran = s.ran;
      end_event = s.event;
    }

begins : (g until : ℕ) (s : SliceAt) (made : Made) → alone.after_slice g until s.pid s.ran (before_slice g made s) ≡ standing g (s.moment + s.ran) (part_of until s) made
unfolding begun-of
begins g until s made =
    ap (λ (m : Made). begun-of g until s m (g == g)) (settled-same (before_slice g made s) refl) ∙ ap (begun-of g until s made) (same-test g g refl)

-- what a slice adds
pub slice-made : (entries : List Record) (g until : ℕ) (s : SliceAt) (own : Own) → first_broken entries ≡ None → s.place < length entries → 0 < g → g ≤ greatest (take (s.place + 1) entries)
    → with_slice g until entries (Makes own) s ≡ part_made (part_of until s) (drop (s.place + 1) entries) own
slice-made entries g until s own stands lt some founded =
    let left : (length entries - (s.place + 1)) + (s.place + 1) ≡ length entries = omega arith in
    ap (λ (t : Standing). settled (after_part g until t (drop (s.place + 1) entries))) (begins g until s (Makes own))
    ∙ bridge g until (s.moment + s.ran) some (drop (s.place + 1) entries) (behind (take (s.place + 1) entries)) (greatest (take (s.place + 1) entries))
    (sound-from entries stands (length entries - (s.place + 1)) (s.place + 1) left) founded (part_of until s) own
