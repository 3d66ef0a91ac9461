-- Legs whose devices are in slots, which follow the records that the leg adds.
use Rattle.std.proofs.Common.{ℕ, List, [], ◌++◌, map, Option, Result, Ok, Err, IfOk, OnOk, OnErr, ap, subst, ◌∙◌, append_assoc, append-nil}
use Rattle.arn_base.specs.declared.boxes.Choice.{Choice}
use Rattle.arn_base.specs.declared.boxes.Device.{Ghosts}
use Rattle.arn_base.specs.declared.records.Record.{Record}
use Rattle.parts_model.specs.Replies.{Answered}
use Rattle.arn_model.specs.Kernel.{Machine}
use Rattle.arn_model.specs.Parts.{TurnsHaveParts}
use Rattle.log_model.specs.Records.{records_from}
use Rattle.guest_devices.specs.Answers.{Asked}
use Rattle.guest_legs.specs.Legs.{Going, asks_by, going_by, input_of}
use Rattle.guest_legs.specs.declared.leg.Leg.{Leg}
use Rattle.guest_machine.specs.InSlots.{CutLegInSlots, LegInSlots, SlotsFollowLeg}
use Rattle.guest_machine.specs.Legs.{IsCutLeg, IsLeg}
use Rattle.guest_machine.specs.Recorded.{OfEach, Recorded}
use Rattle.guest_machine.specs.Took.{Read, SlotFollows, reads_of}
use Rattle.guest_machine.specs.TookLaws.{slots_answer}
use Rattle.guest_machine.proofs.AskedLemmas.{part-holds}
use Rattle.guest_machine.proofs.SeenLemmas.{IsCutLeg-seen, IsLeg-seen}
use Rattle.guest_machine.proofs.TookLemmas.{Follows-append, Follows-leg, Follows-others}

module _ {D : Type 0} (d : Ghosts D) (parts : TurnsHaveParts) (start : Going) (old new : Recorded) (before after : ℕ → Option Choice) (slots slots' : List (Option D)) (out out' : List Record) (steps steps' : ℕ) where
  pub leg-follows : (leg : Leg) → IsLeg (slots_answer d) start leg old new before after slots slots' out out' steps steps' → LegInSlots d start old new before after slots slots' out out' steps steps' leg
  leg-follows leg p = record { is_leg = p; follow = λ n. Follows-leg d n parts start p.slices slots slots' p.took.in_range p.took.replied }

  pub cut-follows : IsCutLeg (slots_answer d) start old new before after slots slots' out out' steps steps' → CutLegInSlots d start old new before after slots slots' out out' steps steps'
  cut-follows p =
      let m = (going_by start p.slices).machine in
      let whole = records_from start.machine (map input_of p.slices) in
      let part = records_from m p.cut.inputs in
      let holds = part-holds parts m p.lost.pid p.lost.count p.cut.inputs p.cut.part in
      let follow : SlotsFollowLeg d start p.slices (whole ++ part) slots slots' = λ n.
      let reads : List Read = reads_of n (asks_by start p.slices) p.slices in
      subst (λ (l : List Read). SlotFollows d n l (whole ++ part) slots slots') (append-nil reads)
      (Follows-append d n reads [] whole part slots slots' slots' (Follows-leg d n parts start p.slices slots slots' p.took.in_range p.took.replied) (Follows-others d n part slots' holds.0 holds.1)) in
      record {
        is_cut = p;
        entries = whole ++ part;
        added = p.cut.runs.recorded ∙ ap (λ (l : List Record). l ++ part) p.took.runs.recorded ∙ append_assoc out whole part;
        follow = follow;
      }

-- who answers, seen as slots
module _ {A D : Type 0} (answers : A → Asked → Answered → A → Type 0) (d : Ghosts D) (see : A → List (Option D)) (seen : (a : A) (asked : Asked) (answer : Answered) (a' : A) → answers a asked answer a' → slots_answer d (see a) asked answer (see a')) (parts : TurnsHaveParts) where
  pub ok-follows : {E : Type 0} (r : Result Leg E) (start : Machine → Going) (old new : Recorded) (before after : ℕ → Option Choice) (a a' : A) (out out' : List Record) (steps steps' : ℕ)
      → IfOk r (λ leg. OfEach old.kernel (λ m. IsLeg answers (start m) leg old new before after a a' out out' steps steps'))
      → IfOk r (λ leg. OfEach old.kernel (λ m. LegInSlots d (start m) old new before after (see a) (see a') out out' steps steps' leg))
  ok-follows (Ok leg) start old new before after a a' out out' steps steps' p = λ m stands.
      leg-follows d parts (start m) old new before after (see a) (see a') out out' steps steps' leg
      (IsLeg-seen answers (slots_answer d) see seen (start m) leg old new before after a a' out out' steps steps' (p m stands))
  ok-follows (Err e) start old new before after a a' out out' steps steps' p = tt

  pub err-follows : {E : Type 0} (r : Result Leg E) (start : Machine → Going) (old new : Recorded) (before after : ℕ → Option Choice) (a a' : A) (out out' : List Record) (steps steps' : ℕ)
      → OnErr r (OfEach old.kernel (λ m. IsCutLeg answers (start m) old new before after a a' out out' steps steps'))
      → OnErr r (OfEach old.kernel (λ m. CutLegInSlots d (start m) old new before after (see a) (see a') out out' steps steps'))
  err-follows (Ok leg) start old new before after a a' out out' steps steps' p = tt
  err-follows (Err e) start old new before after a a' out out' steps steps' p = λ m stands.
      cut-follows d parts (start m) old new before after (see a) (see a') out out' steps steps'
      (IsCutLeg-seen answers (slots_answer d) see seen (start m) old new before after a a' out out' steps steps' (p m stands))

-- what holds whether a call succeeds or not
pub either-way : {T E : Type 0} (r : Result T E) (P : Type 0) → OnOk r P → OnErr r P → P
either-way (Ok t) P p q = p
either-way (Err e) P p q = q

-- of what is known where it succeeded
pub ok-then : {T E : Type 0} (r : Result T E) (P Q : Type 0) → OnOk r P → (P → Q) → OnOk r Q
ok-then (Ok t) P Q p then_ = then_ p
ok-then (Err e) P Q p then_ = tt

pub err-then : {T E : Type 0} (r : Result T E) (P Q : Type 0) → OnErr r P → (P → Q) → OnErr r Q
err-then (Ok t) P Q p then_ = tt
err-then (Err e) P Q p then_ = then_ p
