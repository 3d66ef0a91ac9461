-- Ends of members.
use Rattle.std.proofs.Common.{◌≡◌, ℕ, ◌<◌, nat_lt, cond, Bool, true, false, List, [], ◌∷◌, slice_index, None, refl, sym, subst, arith}
use Rattle.std.proofs.lemmas.Bool.{ltb-true, ltb-false}
use Rattle.acts_model.specs.Records.{event_len}
use Rattle.acts_model.specs.Transfers.{Exits, Faults, Dies}
use Rattle.lineage_model.specs.Flow.{Register, Prior}
use Rattle.lineage_model.specs.Tracking.{gather}
use Rattle.taint_events.specs.Bytes.{IsStatus}
use Rattle.taint_pages.specs.Rows.{byte_in}
use Rattle.taint_state.specs.Events.{plain_heard}
use Rattle.taint_state.specs.EventsShow.{DiesShow, ExitsShow, FaultsShow}
use Rattle.taint_state.specs.Kept.{items_of}
use Rattle.taint_state.specs.Shown.{AreItems}
use Rattle.taint_state.proofs.Keeping.{becomes-sound, follows, good-empty, good-status, old-sound, plain-sound, zero-later}
use Rattle.taint_state.proofs.Flows.{Setting, first-byte, given, of-nothing, of-prior, members-show, shown-before, sound-before}
use Rattle.taint_state.proofs.Goings.{empty-points, goes, holders-put, plain-points, setting}

status-byte : (s : Setting) (pid k : ℕ) (registers numbers : List ℕ) (count : ℕ) → IsStatus registers count numbers → k < count
    → ((n : ℕ) → n ≡ byte_in registers 10 0 → AreItems (items_of s.y n) (gather (given s) s.t.locations (Prior (Register pid 10 0) ∷ [])))
    → AreItems (items_of s.y (slice_index numbers k)) (gather (given s) s.t.locations (cond (nat_lt k 1) (Prior (Register pid 10 0) ∷ []) []))
status-byte s pid k registers numbers count status below first = by_test (nat_lt k 1) refl
  where
    by_test : (b : Bool) → nat_lt k 1 ≡ b → AreItems (items_of s.y (slice_index numbers k)) (gather (given s) s.t.locations (cond (nat_lt k 1) (Prior (Register pid 10 0) ∷ []) []))
    by_test true e =
        let less = ltb-true k 1 e in
        let zero : k ≡ 0 = omega arith in
        let some : 0 < count = omega arith in
        subst (λ b. AreItems (items_of s.y (slice_index numbers k)) (gather (given s) s.t.locations (cond b (Prior (Register pid 10 0) ∷ []) []))) (sym e)
        (first (slice_index numbers k) (subst (λ j. slice_index numbers j ≡ byte_in registers 10 0) (sym zero) (status.first some)))
    by_test false e =
        let more = ltb-false k 1 e in
        let above : 0 < k = omega arith in
        subst (λ b. AreItems (items_of s.y (slice_index numbers k)) (gather (given s) s.t.locations (cond b (Prior (Register pid 10 0) ∷ []) []))) (sym e)
        (of-nothing s (slice_index numbers k) (status.others k above below))

pub exits-show : ExitsShow
exits-show x y pid number e before old numbers sound status becomes =
    follows _ x y
    (becomes-sound x y pid old None (plain_heard number numbers) sound becomes tt (plain-sound y.sets number numbers (good-status y.sets (zero-later x y sound becomes.stays.sets) old.registers (event_len e) numbers (old-sound x y pid old sound becomes.stays.sets becomes.was).registers status)))
    (goes x y pid number e before (Exits pid) (plain_heard number numbers) sound becomes.stays becomes.heard refl status.len refl (λ h k. refl)
    (holders-put x y pid old None (plain_heard number numbers) becomes)
    (λ clear possible t shows.
    let s = setting x y pid number e before (Exits pid) (plain_heard number numbers) sound becomes.stays t shows in
    let had = shown-before s pid old becomes.was in
    let sets = sound-before s pid old becomes.was in (
      members-show s pid None becomes.members tt (λ p other ne was. record { registers = λ r i. refl; slot = λ r i. refl; window = λ at is. refl; segment = λ made at has is. refl }),
      plain-points s number numbers (λ k below.
          status-byte s pid k old.registers numbers (event_len e) status (subst (λ n. k < n) status.len below)
          (λ n is. subst (λ j. AreItems (items_of y j) (gather (given s) t.locations (Prior (Register pid 10 0) ∷ []))) (sym is)
          (of-prior s (byte_in old.registers 10 0) (Register pid 10 0) (sets.registers 10 0 first-byte) (had.registers 10 0 first-byte)))),
    )))

pub faults-show : FaultsShow
faults-show x y pid number e before old numbers sound empty becomes =
    follows _ x y
    (becomes-sound x y pid old None (plain_heard number numbers) sound becomes tt (plain-sound y.sets number numbers (good-empty y.sets (zero-later x y sound becomes.stays.sets) (event_len e) numbers empty)))
    (goes x y pid number e before (Faults pid) (plain_heard number numbers) sound becomes.stays becomes.heard refl empty.len refl (λ h k. refl)
    (holders-put x y pid old None (plain_heard number numbers) becomes)
    (λ clear possible t shows.
    let s = setting x y pid number e before (Faults pid) (plain_heard number numbers) sound becomes.stays t shows in (
      members-show s pid None becomes.members tt (λ p other ne was. record { registers = λ r i. refl; slot = λ r i. refl; window = λ at is. refl; segment = λ made at has is. refl }),
      empty-points s number (event_len e) numbers empty (λ k. refl),
    )))

pub dies-show : DiesShow
dies-show x y pid number e before old numbers sound empty becomes =
    follows _ x y
    (becomes-sound x y pid old None (plain_heard number numbers) sound becomes tt (plain-sound y.sets number numbers (good-empty y.sets (zero-later x y sound becomes.stays.sets) (event_len e) numbers empty)))
    (goes x y pid number e before (Dies pid) (plain_heard number numbers) sound becomes.stays becomes.heard refl empty.len refl (λ h k. refl)
    (holders-put x y pid old None (plain_heard number numbers) becomes)
    (λ clear possible t shows.
    let s = setting x y pid number e before (Dies pid) (plain_heard number numbers) sound becomes.stays t shows in (
      members-show s pid None becomes.members tt (λ p other ne was. record { registers = λ r i. refl; slot = λ r i. refl; window = λ at is. refl; segment = λ made at has is. refl }),
      empty-points s number (event_len e) numbers empty (λ k. refl),
    )))
