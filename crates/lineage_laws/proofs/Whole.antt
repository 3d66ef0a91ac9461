-- Whole tracking is what the tracking of groups alone and stored origins join to, at every moment of every run.
use Rattle.std.proofs.Common.{◌≡◌, inl, inr, ℕ, ◌+◌, ◌-◌, ◌<◌, ◌≤◌, List, [], length, flat_map, refl, ap, ◌∙◌, sym, subst, Option, Some, None, option_map, slice_get, arith, true≢false}
use Rattle.std.proofs.lemmas.Bool.Decides.{nat_tests}
use Rattle.std.specs.List.{AllByRecursion}
use Rattle.std.proofs.lemmas.List.{length-map}
use Rattle.arn_base.specs.declared.records.Record.{Record}
use Rattle.arn_base.specs.declared.records.Src.{Src}
use Rattle.rv64_model.specs.Carries.{Table}
use Rattle.parts_model.specs.declared.tagged.TaggedByte.{TaggedByte}
use Rattle.acts_model.specs.Bodies.{body_at}
use Rattle.acts_model.specs.Moved.{KernelByte}
use Rattle.arn_model.specs.Kernel.{at_first}
use Rattle.arn_model.specs.Laws.{StepsTell, EachRunIsSound, EachRunAppends}
use Rattle.arn_model.specs.Run.{Input, machine_after, run, within, state_at, events_of}
use Rattle.arn_model.specs.Sound.{IsSoundMachine}
use Rattle.arn_model.specs.Tells.{HasNumbers, Along, kernel_byte}
use Rattle.history_model.specs.Events.{event_at, how_many}
use Rattle.history_model.specs.Groups.{Groups, groups_from, group_of}
use Rattle.lineage_model.specs.Flow.{Location, Register, Slot, Memory, At, Byte}
use Rattle.lineage_model.specs.Joined.{Reaching, from_item}
use Rattle.lineage_model.specs.Tracking.{EventByte, Tracked, untracked}
use Rattle.lineage_model.specs.Whole as model
use Rattle.log_model.specs.Laws.{EventsRecorded}
use Rattle.log_model.specs.Records.{records, event_records}
use Rattle.lineage_laws.specs.Laws.{whole_at, local_at, items_in, items_at, joined_point, joined_location, IsOf, OfRegister, OfSlot, OfMemory, LineageIsJoined}
use Rattle.lineage_laws.proofs.Central.{Joins, every, central}
use Rattle.lineage_laws.proofs.Stored.{count, Chain, IsKept, kept-all, is_value}
use Rattle.lineage_laws.proofs.Joined.{Bounded, bounded, Known, known, AreItems, reached-whole, location-whole}
use Rattle.lineage_laws.proofs.Homes.{Memories, owner}
use Rattle.lineage_laws.proofs.Groups.{Agrees, agrees, moves}
use Rattle.lineage_laws.proofs.Origins.{origins}
use Rattle.lineage_laws.proofs.Holding.{BodiesFit, holder-is}
use Rattle.lineage_laws.proofs.Fits.{memories, makers, StepIs}
use Rattle.lineage_laws.proofs.Runs.{groups_along, steps-are, along-within, last-fits, fits-all, chain-all, IsKnown, known-all, count-is, within-events, groups-events, groups-steps}

-- before the first step there is nothing
nothing-held : (byte : KernelByte) → kernel_byte at_first.kernel byte ≡ None
nothing-held byte = grind (arith, nat_tests)

no-origin : (byte : KernelByte) (src : Src) → origins at_first.kernel byte ≡ Some src → ⊥
no-origin byte src h1 = grind (arith, nat_tests, nothing-held)

nobody-fits : (gs : Groups) (ms : Memories) (most : ℕ) → BodiesFit gs ms most at_first.bodies
unfolding body_at
nobody-fits gs ms most = grind (arith, nat_tests)

-- what is known of the steps of a run up to a moment
record Run (inputs : List Input) (moment : ℕ) : Type 0 where
  pub steps : Along (StepIs (event_at (records inputs)) (group_of (records inputs))) at_first (within moment (run inputs))
  pub many : length (events_of (within moment (run inputs))) ≤ how_many (records inputs)

found-at : (recorded : EventsRecorded) (inputs : List Input) (i : ℕ) → event_at (records inputs) (0 + i) ≡ slice_get (event_records (run inputs)) i
found-at recorded inputs i = ap (event_at (records inputs)) (let e : 0 + i ≡ i = omega arith in e) ∙ ap (λ (entries : List Record). slice_get entries i) (recorded inputs)

group-is : (recorded : EventsRecorded) (inputs : List Input) (q : ℕ) → group_of (records inputs) q ≡ groups_along (run inputs) (λ p. None) q
group-is recorded inputs q =
    ap (λ (f : Groups). f q) (groups-events (records inputs) (λ p. None) ∙ (ap (λ (entries : List Record). groups_from entries (λ p. None)) (recorded inputs) ∙ groups-steps (run inputs) (λ p. None)))

run-is : StepsTell → EachRunIsSound → EachRunAppends → EventsRecorded → (inputs : List Input) (moment : ℕ) → HasNumbers (machine_after inputs).kernel → Run inputs moment
run-is tell sound append recorded inputs moment few =
    let event = event_at (records inputs) in
    let gs = group_of (records inputs) in
    let s = sound inputs in
    let last = subst IsSoundMachine (append at_first inputs []).reached s.last in
    let all = steps-are event gs (λ p. None) at_first (run inputs) (tell inputs few) s.numbers s.along last (nobody-fits gs (memories event gs) 0) (group-is recorded inputs) (found-at recorded inputs) in
    let many = within-events (run inputs) moment in
    let same : how_many (records inputs) ≡ length (events_of (run inputs)) = ap (λ (entries : List Record). length entries) (recorded inputs) ∙ length-map (events_of (run inputs)) (λ e. e.entry) in
    record { steps = along-within (StepIs event gs) at_first (run inputs) moment all; many = (omega arith) }

-- what the steps have by items
abbrev all_at : Table → List Input → ℕ → Tracked EventByte
all_at tab inputs moment = every tab (moves (within moment (run inputs))) untracked

-- the sets of all points by whole tracking
abbrev final_at : Table → List Input → ℕ → Reaching
final_at tab inputs moment = (whole_at tab inputs moment).tracked.points

chain-at : (inputs : List Input) (moment : ℕ) → Run inputs moment → Chain (event_at (records inputs)) 0 (origins at_first.kernel) (moves (within moment (run inputs))) (origins (state_at inputs moment).kernel)
chain-at inputs moment r = chain-all (event_at (records inputs)) (group_of (records inputs)) at_first (within moment (run inputs)) r.steps

kept-first : IsKept 0 model.at_first (origins at_first.kernel)
kept-first byte src e = absurd (no-origin byte src e)

joins-at : (tab : Table) (inputs : List Input) (moment : ℕ) → Run inputs moment → Joins (from_item (event_at (records inputs)) (final_at tab inputs moment)) (whole_at tab inputs moment).tracked (all_at tab inputs moment)
joins-at tab inputs moment r =
    let list = moves (within moment (run inputs)) in
    central tab (from_item (event_at (records inputs)) (final_at tab inputs moment)) list model.at_first untracked
    (is_value tab (event_at (records inputs)) 0 list model.at_first (origins at_first.kernel) (origins (state_at inputs moment).kernel) (chain-at inputs moment r) kept-first)
    (record { locations = λ l. refl; points = λ e at. refl })

bounded-at : (tab : Table) (inputs : List Input) (moment : ℕ) → Run inputs moment → Bounded (count 0 (moves (within moment (run inputs)))) (all_at tab inputs moment)
bounded-at tab inputs moment r =
    bounded tab (event_at (records inputs)) 0 (moves (within moment (run inputs))) (origins at_first.kernel) (origins (state_at inputs moment).kernel) untracked (chain-at inputs moment r) (record { locations = λ l. tt; points = λ e at. tt })

known-at : (tab : Table) (inputs : List Input) (moment : ℕ) → Run inputs moment → (e : ℕ) → e < count 0 (moves (within moment (run inputs))) → Known (event_at (records inputs)) (all_at tab inputs moment) e
known-at tab inputs moment r e l =
    known tab (event_at (records inputs)) 0 (moves (within moment (run inputs))) (origins at_first.kernel) (origins (state_at inputs moment).kernel) untracked (chain-at inputs moment r) (λ byte src o. absurd (no-origin byte src o)) e (omega arith) l

-- each group alone has what the fold over all has
agrees-at : (tab : Table) (inputs : List Input) (moment g : ℕ) → Run inputs moment → Agrees (group_of (records inputs)) (memories (event_at (records inputs)) (group_of (records inputs))) g (count 0 (moves (within moment (run inputs)))) (makers (event_at (records inputs)) (group_of (records inputs))) (all_at tab inputs moment) (local_at tab inputs moment g)
agrees-at tab inputs moment g r =
    let event = event_at (records inputs) in
    let gs = group_of (records inputs) in
    agrees gs (memories event gs) g (makers event gs) tab 0 (within moment (run inputs)) untracked untracked (fits-all event gs at_first (within moment (run inputs)) r.steps)
    (record { locations = λ l k. refl; points = λ e at k l. refl })

-- so an event's bytes have in its group what they have there
items-at : (tab : Table) (inputs : List Input) (moment : ℕ) → Run inputs moment → AreItems (event_at (records inputs)) (items_at tab inputs moment) (all_at tab inputs moment) (count 0 (moves (within moment (run inputs))))
items-at tab inputs moment r e at l entry there inner =
    let event = event_at (records inputs) in
    let gs = group_of (records inputs) in
    by_maker (makers event gs e) refl (known-all event gs tab at_first (within moment (run inputs)) untracked r.steps e (omega arith) l)
  where
    by_maker : (o : Option ℕ) → makers (event_at (records inputs)) (group_of (records inputs)) e ≡ o → IsKnown (event_at (records inputs)) (makers (event_at (records inputs)) (group_of (records inputs))) (all_at tab inputs moment) e → items_in tab inputs moment e at o ≡ (all_at tab inputs moment).points e at
    by_maker (Some g) is k = sym ((agrees-at tab inputs moment g r).points e at l is)
    by_maker None is (inl k) = absurd (none_some k.0 (sym is ∙ k.1))
      where
        none_some : (g : ℕ) → None ≡ Some g → ⊥
        none_some g e = cc
    by_maker None is (inr (inl k)) = absurd (true≢false (sym (k entry there) ∙ inner))
    by_maker None is (inr (inr k)) = sym (k at)

-- points

whole-point : (tab : Table) (inputs : List Input) (moment : ℕ) → Run inputs moment → (e : ℕ) (at : At) → e < count 0 (moves (within moment (run inputs))) → joined_point tab inputs moment e at ≡ final_at tab inputs moment e at
whole-point tab inputs moment r e at l =
    let many = r.many in
    let same = count-is 0 (within moment (run inputs)) in
    reached-whole (event_at (records inputs)) (items_at tab inputs moment) (count 0 (moves (within moment (run inputs)))) (final_at tab inputs moment) (all_at tab inputs moment)
    (joins-at tab inputs moment r).points (bounded-at tab inputs moment r) (known-at tab inputs moment r) (items-at tab inputs moment r)
    (how_many (records inputs)) e at (omega arith) l

point-is : (tab : Table) (inputs : List Input) (moment : ℕ) → Run inputs moment → (e : ℕ) (at : At) → e < length (events_of (within moment (run inputs))) → final_at tab inputs moment e at ≡ joined_point tab inputs moment e at
point-is tab inputs moment r e at l = let same = count-is 0 (within moment (run inputs)) in sym (whole-point tab inputs moment r e at (omega arith))

-- locations

owned-location : (tab : Table) (inputs : List Input) (moment g : ℕ) (l : Location) → Run inputs moment → owner (group_of (records inputs)) (memories (event_at (records inputs)) (group_of (records inputs))) l ≡ Some g → (whole_at tab inputs moment).tracked.locations l ≡ joined_location tab inputs moment g l
owned-location tab inputs moment g l r o =
    let event = event_at (records inputs) in
    let m = count 0 (moves (within moment (run inputs))) in
    let own = (local_at tab inputs moment g).locations l in
    let same : ((all_at tab inputs moment).locations l) ≡ own = (agrees-at tab inputs moment g r).locations l o in
    (joins-at tab inputs moment r).locations l
    ∙ (ap (flat_map (from_item event (final_at tab inputs moment))) same
    ∙ sym (location-whole event m (joined_point tab inputs moment) (final_at tab inputs moment) (all_at tab inputs moment) (whole-point tab inputs moment r) (known-at tab inputs moment r) own
    (subst (AllByRecursion (λ i. i.event < m)) same ((bounded-at tab inputs moment r).locations l))))

bodies-at : (inputs : List Input) (moment : ℕ) → Run inputs moment → BodiesFit (group_of (records inputs)) (memories (event_at (records inputs)) (group_of (records inputs))) (length (state_at inputs moment).kernel.processes) (state_at inputs moment).bodies
bodies-at inputs moment h1 = grind (arith, nat_tests, last-fits, memories, nobody-fits)

location-is : (tab : Table) (inputs : List Input) (moment g : ℕ) (l : Location) → Run inputs moment → IsOf inputs moment g l → (whole_at tab inputs moment).tracked.locations l ≡ joined_location tab inputs moment g l
location-is tab inputs moment g _ r (OfRegister pid n i x lives group) = owned-location tab inputs moment g (Register pid n i) r group
location-is tab inputs moment g _ r (OfSlot pid n i x lives group) = owned-location tab inputs moment g (Slot pid n i) r group
location-is tab inputs moment g _ r (OfMemory pid made at x lives group holds) =
    let event = event_at (records inputs) in
    let gs = group_of (records inputs) in
    owned-location tab inputs moment g (Memory made at) r
    (holder-is gs (memories event gs) (length (state_at inputs moment).kernel.processes) pid x made (bodies-at inputs moment r pid x lives) holds ∙ group)

-- the kernel's bytes

kernel-is : (tab : Table) (inputs : List Input) (moment : ℕ) → Run inputs moment → (byte : KernelByte) (held : TaggedByte) → kernel_byte (state_at inputs moment).kernel byte ≡ Some held → (whole_at tab inputs moment).kernel byte ≡ joined_point tab inputs moment held.origin.event (Byte held.origin.at)
kernel-is tab inputs moment r byte held e =
    let list = moves (within moment (run inputs)) in
    let k = kept-all tab (event_at (records inputs)) 0 list model.at_first (origins at_first.kernel) (origins (state_at inputs moment).kernel) (chain-at inputs moment r) kept-first byte held.origin (ap (option_map (λ h. h.origin)) e) in
    k.set ∙ sym (whole-point tab inputs moment r held.origin.event (Byte held.origin.at) k.below)

pub lineage : StepsTell → EachRunIsSound → EachRunAppends → EventsRecorded → LineageIsJoined
lineage h1 h2 h3 h4 = grind (arith, nat_tests, kernel-is, location-is, point-is, run-is)
