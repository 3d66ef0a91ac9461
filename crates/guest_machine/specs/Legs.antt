-- What a leg does: slices that a chooser picks, one after the other, and what ends it.
use Rattle.std.specs.Prelude.{◌≡◌, ◌≤◌, ◌+◌, ℕ, List, [], ◌∷◌, ◌++◌, length, map, Option, None, Some}
use Rattle.arn_base.specs.declared.boxes.Choice.{Choice}
use Rattle.arn_base.specs.declared.records.Record.{Record}
use Rattle.parts_model.specs.Replies.{Answered}
use Rattle.guest_devices.specs.Answers.{Asked}
use Rattle.guest_legs.specs.Legs.{AreInRange, Ask, Going, IsInRange, Picked, PickedBy, StaysOpen, ask_of, asks_by, end_of, going_by, input_of, unanswered}
use Rattle.guest_legs.specs.declared.leg.Leg.{Leg}
use Rattle.guest_legs.specs.declared.leg.Pick.{Pick}
use Rattle.guest_machine.specs.Recorded.{Recorded, Runs}
use Rattle.guest_machine.specs.Slices.{IsCut, RepliesIn}

-- the devices gave the replies of these slices, one after the other
abbrev pub RepliedBy : {A : Type 0} → (A → Asked → Answered → A → Type 0) → List Ask → List Picked → A → A → Type 0
RepliedBy answers [] slices old new = (slices ≡ []) × (new ≡ old)
RepliedBy answers (ask ∷ asks) [] old new = ⊥
RepliedBy {A} answers (ask ∷ asks) (s ∷ slices) old new =
    (between : A) × RepliesIn answers s.pick.count s.pick.pid ask.machine s.reply old between × RepliedBy answers asks slices between new

-- A leg took these slices: they lead from its machine on, their records stand behind others, it was open before each, and devices gave
-- their replies.
pub record RunsSlices {A : Type 0} (answers : A → Asked → Answered → A → Type 0) (start : Going) (slices : List Picked) (old new : Recorded) (asked asked' : A) (out out' : List Record) : Type 0 where
  pub runs : Runs start.machine (map input_of slices) old new out out'
  pub open_before : StaysOpen start slices
  pub in_range : AreInRange (asks_by start slices) slices
  pub replied : RepliedBy answers (asks_by start slices) slices asked asked'

-- A whole leg: it ends behind its slices as it says, and choices were asked for these alone.
pub record IsLeg {A : Type 0} (answers : A → Asked → Answered → A → Type 0) (start : Going) (leg : Leg) (old new : Recorded) (before after : ℕ → Option Choice) (asked asked' : A) (out out' : List Record) (steps steps' : ℕ) : Type 0 where
  pub slices : List Picked
  pub took : RunsSlices answers start slices old new asked asked' out out'
  pub picked : PickedBy before after (asks_by start slices) slices
  pub ends : end_of (going_by start slices) ≡ Some leg.end
  pub left : leg.ran + (going_by start slices).left ≡ start.left
  pub ticks : steps' + old.instructions ≤ steps + new.instructions + length slices

-- A leg that was cut: behind its slices one more was picked, of which nothing or a part ran. It asked no device.
pub record IsCutLeg {A : Type 0} (answers : A → Asked → Answered → A → Type 0) (start : Going) (old new : Recorded) (before after : ℕ → Option Choice) (asked asked' : A) (out out' : List Record) (steps steps' : ℕ) : Type 0 where
  pub slices : List Picked
  pub lost : Pick
  pub between : Recorded
  pub kept : List Record
  pub took : RunsSlices answers start slices old between asked asked' out kept
  pub is_open : end_of (going_by start slices) ≡ None
  pub in_range : IsInRange (ask_of (going_by start slices)) lost
  pub cut : IsCut (going_by start slices).machine lost.pid lost.count between new kept out'
  pub picked : PickedBy before after (asks_by start (slices ++ unanswered lost ∷ [])) (slices ++ unanswered lost ∷ [])
  pub ticks : steps' + old.instructions ≤ steps + new.instructions + (length slices + 1)
  pub at_most : steps' + old.instructions ≤ steps + between.instructions + (length slices + lost.count)
