-- A turn of a state, from what its parts promise.
use Rattle.std.proofs.Common.{◌≡◌, ◌≢◌, ℕ, ◌+◌, ◌<◌, ◌≤◌, true, false, Option, None, Some, IsSome, option_map, length, option_to_list, refl, sym, ap, subst, ◌∙◌, arith}
use Rattle.arn_base.specs.declared.records.Record.{Record}
use Rattle.rv64_core.specs.declared.outcome.Outcome.{Outcome}
use Rattle.rv64_core.specs.declared.outcome.Outcome.TheVariants as outcome
use Rattle.rv64_model.specs.Instruction.{Effect, Call, End}
use Rattle.parts_model.specs.Numbered.{nth}
use Rattle.parts_model.specs.Replies.{Answered}
use Rattle.acts_model.specs.Bodies.{seen}
use Rattle.arn_model.specs.Kernel.{Machine}
use Rattle.arn_model.specs.Parts.{TurnsHaveParts}
use Rattle.arn_model.specs.Turn.{after_steps, plains}
use Rattle.guest_bodies.specs.Shown.{IsLive, Shown}
use Rattle.guest_bodies.specs.declared.running.Stood.{Stood}
use Rattle.guest_devices.specs.Answers.{Asked}
use Rattle.guest_calls.specs.State.{OfProcess, State, StandsFor}
use Rattle.guest_machine.specs.Recorded.{IsReal, OfEach}
use Rattle.guest_machine.specs.Slices.{delivered}
use Rattle.guest_machine.specs.Turns.{Delivers, Finishes, RanPlain, StandsAt, StopsAt, TookPart, TookWhole, Turn}
use Rattle.guest_machine.proofs.StepLemmas.{Delivers-in}
use Rattle.guest_machine.proofs.TurnLemmas.{sees, took-dead, took-part, took-whole}

-- every machine for which a state stands shows the same
stands-everywhere : (s : State) (m : Machine) (pid : ℕ) (e : Effect) → StandsFor s m → StandsAt m pid e → OfEach s (λ m. StandsAt m pid e)
stands-everywhere s m pid e stands at m' stands' = record { view = at.view; sees = sym (stands'.seen pid) ∙ stands.seen pid ∙ at.sees; is = at.is }

stops-at : (o : Outcome) (ran n : ℕ) (m : Machine) (pid : ℕ) → o ≡ outcome.Call → StopsAt o ran n m pid → StandsAt m pid Call
stops-at o ran n m pid is stops = (subst (λ (o : Outcome). StopsAt o ran n m pid) is stops).1

ends-at : (o : Outcome) (ran n : ℕ) (m : Machine) (pid status : ℕ) → o ≡ outcome.End status → StopsAt o ran n m pid → StandsAt m pid (End status)
ends-at o ran n m pid status is stops = (subst (λ (o : Outcome). StopsAt o ran n m pid) is stops).1

pub stops-call : (s s2 : State) (pid n : ℕ) (stood : Stood) → IsReal s → OfEach s (λ m. RanPlain m pid n stood s2) → stood.outcome ≡ outcome.Call → OfEach s2 (λ m. StandsAt m pid Call)
stops-call s s2 pid n stood real ran is =
    let m = real.machine in
    let r = ran m real.stands in
    stands-everywhere s2 (after_steps m (plains stood.ran pid m)) pid Call r.stands (stops-at stood.outcome stood.ran n (after_steps m (plains stood.ran pid m)) pid is r.stops)

pub stops-end : (s s2 : State) (pid n : ℕ) (stood : Stood) (status : ℕ) → IsReal s → OfEach s (λ m. RanPlain m pid n stood s2) → stood.outcome ≡ outcome.End status → OfEach s2 (λ m. StandsAt m pid (End status))
stops-end s s2 pid n stood status real ran is =
    let m = real.machine in
    let r = ran m real.stands in
    stands-everywhere s2 (after_steps m (plains stood.ran pid m)) pid (End status) r.stands (ends-at stood.outcome stood.ran n (after_steps m (plains stood.ran pid m)) pid status is r.stops)

-- who doesn't live sees nothing
dead-sees : (s : State) (m : Machine) (pid : ℕ) → StandsFor s m → (IsLive s.guests pid → ⊥) → seen m.bodies pid ≡ None
dead-sees s m pid stands dead = sym (stands.seen pid) ∙ by (nth s.guests pid) dead
  where
    by : (o : Option Shown) → (IsSome o → ⊥) → option_map (λ shown. shown.view) o ≡ None
    by None dead = refl
    by (Some shown) dead = absurd (dead cc)

pub take-dead : {A : Type 0} → TurnsHaveParts → (answers : A → Asked → Answered → A → Type 0) (asked : A) (old new : State) (pid n : ℕ) (delivery : Option Record) → IsLive old.guests pid → OfProcess old pid (λ m v. Delivers m pid v delivery new) → (IsLive new.guests pid → ⊥)
    → OfEach old (λ m. TookWhole answers m pid n (record { delivery = delivery; ran = 0; last = None; cut = false }) asked asked new)
take-dead parts answers asked old new pid n delivery live delivers dead m stands =
    let v = sees old m pid stands live in
    let d = Delivers-in m pid v.0 delivery new v.1 (delivers m v.0 stands v.1) in
    took-dead parts answers asked m pid n delivery new d.0 (dead-sees new (delivered pid m) pid d.1 dead) d.1

pub take-whole : {A : Type 0} → TurnsHaveParts → (answers : A → Asked → Answered → A → Type 0) (asked asked' : A) (old s1 s2 new : State) (pid n : ℕ) (delivery last : Option Record) (stood : Stood) (count : ℕ) → IsLive old.guests pid → OfProcess old pid (λ m v. Delivers m pid v delivery s1) → OfEach s1 (λ m. RanPlain m pid n stood s2)
    → OfEach s2 (λ m. Finishes stood.outcome answers m pid last asked asked' s2 new) → count ≡ length (option_to_list last)
    → OfEach old (λ m. TookWhole answers m pid n (record { delivery = delivery; ran = stood.ran + count; last = last; cut = false }) asked asked' new)
take-whole parts answers asked asked' old s1 s2 new pid n delivery last stood count live delivers ran finishes counted m stands =
    let v = sees old m pid stands live in
    let d = Delivers-in m pid v.0 delivery s1 v.1 (delivers m v.0 stands v.1) in
    let r = ran (delivered pid m) d.1 in
    let f = finishes (after_steps (delivered pid m) (plains stood.ran pid (delivered pid m))) r.stands in
    let whole = took-whole parts answers asked asked' m pid n delivery last stood.outcome stood.ran s2 new d.0 r.many r.stands r.stops f in
    subst (λ (k : ℕ). let t : Turn = record { delivery = delivery; ran = stood.ran + k; last = last; cut = false } in TookWhole answers m pid n t asked asked' new) (sym counted) whole

pub take-part : {A : Type 0} → TurnsHaveParts → (asked asked' : A) (old s1 s2 new : State) (pid n : ℕ) (delivery : Option Record) (stood : Stood) → IsLive old.guests pid → OfProcess old pid (λ m v. Delivers m pid v delivery s1) → OfEach s1 (λ m. RanPlain m pid n stood s2)
    → new ≡ s2 → asked' ≡ asked → stood.ran < n
    → OfEach old (λ m. TookPart m pid n (record { delivery = delivery; ran = stood.ran; last = None; cut = true }) asked asked' new)
take-part parts asked asked' old s1 s2 new pid n delivery stood live delivers ran same unasked within m stands =
    let v = sees old m pid stands live in
    let d = Delivers-in m pid v.0 delivery s1 v.1 (delivers m v.0 stands v.1) in
    let r = ran (delivered pid m) d.1 in
    took-part parts asked asked' m pid n stood.ran delivery new d.0 r.many within unasked (subst (λ (s : State). StandsFor s (after_steps (delivered pid m) (plains stood.ran pid (delivered pid m)))) (sym same) r.stands)

at-most-one : {A : Type 0} (o : Option A) → length (option_to_list o) ≤ 1
at-most-one None = omega arith
at-most-one (Some x) = omega arith

-- a call or an end is one of the instructions that may run
pub within-counted : (o : Outcome) (ran count n : ℕ) (last : Option Record) → ran ≤ count → (o ≢ outcome.Next → ran < count) → (o ≡ outcome.Next → last ≡ None) → n ≡ length (option_to_list last) → ran + n ≤ count
within-counted outcome.Next ran count n last within some none is = omega (arith, within, is ∙ ap (λ (l : Option Record). length (option_to_list l)) (none refl))
within-counted outcome.Call ran count n last within some none is = omega (arith, some (λ same. cc), is, at-most-one last)
within-counted (outcome.End status) ran count n last within some none is = omega (arith, some (λ same. cc), is, at-most-one last)
within-counted outcome.NoMemory ran count n last within some none is = omega (arith, some (λ same. cc), is, at-most-one last)
