use Rattle.std.proofs.Common.{◌≡◌, ◌<◌, ◌==◌, ◌&&◌, cond, [], map, slice_index, Some, refl, sym, ap, subst, ◌∙◌, ne_eqb}
use Rattle.std.proofs.lemmas.Bool.{lt-ltb}
use Rattle.acts_model.specs.Transfers.{Gives, place_of}
use Rattle.lineage_model.specs.Flow.{Slot, Memory, Prior, bytes_at, when}
use Rattle.lineage_model.specs.Tracking.{gather}
use Rattle.taint_state.specs.Events.{number_at, plain_heard}
use Rattle.taint_state.specs.Kept.{KeptMember, items_of, shown_member}
use Rattle.taint_state.specs.Shown.{AreItems, ShowsMember}
use Rattle.taint_state.proofs.Keeping.{becomes-sound, follows, good-given, good-number, old-sound, plain-sound, returned-sound, zero-later}
use Rattle.taint_state.proofs.Flows.{given, kept, members-show, row-cleared, shown-before, sound-before, then}
use Rattle.taint_state.proofs.Goings.{goes, holders-same, plain-points, self-test, setting}
use Rattle.taint_state.proofs.Reading.{of-given, reads}
use Rattle.taint_state.proofs.law.gives_show.Goals as goal

pub returns : goal.returns
returns c = λ x y pid number e before at len old new numbers sound count gives to becomes.
    let holds : new.holds ≡ old.holds = ap (λ (m : KeptMember). m.holds) to.others in
    let tr = Gives pid (place_of old.holds at len) len in
    let heard = plain_heard number numbers in
    follows _ x y
    (becomes-sound x y pid old (Some new) heard sound becomes (returned-sound y.sets old new (zero-later x y sound becomes.stays.sets) to (old-sound x y pid old sound becomes.stays.sets becomes.was)) (plain-sound y.sets number numbers (good-given y.sets (zero-later x y sound becomes.stays.sets) len (number_at old at) numbers (good-number y.sets (zero-later x y sound becomes.stays.sets) old (old-sound x y pid old sound becomes.stays.sets becomes.was) at) gives)))
    (goes x y pid number e before tr heard sound becomes.stays becomes.heard refl (gives.len ∙ count) refl (λ h k. refl)
    (holders-same x y pid old new heard becomes holds)
    (λ clear possible t shows.
    let s = setting x y pid number e before tr heard sound becomes.stays t shows in
    let had = shown-before s pid old becomes.was in
    let sets = sound-before s pid old becomes.was in (
      members-show s pid (Some new) becomes.members
          (subst (λ m. ShowsMember pid (then s) (shown_member y m)) (sym to.others) (record {
            registers = row-cleared s pid old.registers new.registers (λ b. when b []) refl refl (λ r i. ap (λ b. when (b && (r == 10)) []) (self-test pid)) to.result sets.registers had.registers;
            slot = λ r i is. kept s _ (Slot pid r i) (sets.slot r i is) (had.slot r i is) refl;
            window = λ at is. kept s _ (Memory old.holds.window at) (sets.window _) (had.window at is) refl;
            segment = λ made at has is. kept s _ (Memory made at) (sets.segment _) (had.segment made at has is) refl;
          }))
          (λ p other ne was. record {
            registers = λ r i. ap (λ b. when (b && (r == 10)) []) (ne_eqb p pid ne);
            slot = λ r i. refl;
            window = λ at is. refl;
            segment = λ made at has is. refl;
          }),
      plain-points s number numbers (λ k below.
          let inside = subst (λ n. k < n) gives.len below in
          subst (λ b. AreItems (items_of y (slice_index numbers k)) (gather (given s) t.locations (cond b (map Prior (bytes_at (place_of old.holds at len) k)) []))) (sym (lt-ltb k len inside))
          (of-given s pid old had sets (number_at old at k) (slice_index numbers k) (bytes_at (place_of old.holds at len) k) (reads s pid old had sets at len k inside possible) (gives.same k inside))),
    )))
