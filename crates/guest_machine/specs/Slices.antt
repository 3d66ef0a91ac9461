-- A slice that ran, with what a device answered in it.
use Rattle.std.specs.Prelude.{◌≡◌, ◌⊎◌, ◌<◌, ℕ, Bool, true, false, nat_lt, List, [], ◌∷◌, length, Option, None, Some, IsSome}
use Rattle.arn_base.specs.declared.records.Record.{Record}
use Rattle.rv64_model.specs.Instruction.{Effect, Next, Call, End}
use Rattle.parts_model.specs.Replies.{Answered}
use Rattle.acts_model.specs.Bodies.{View, seen}
use Rattle.acts_model.specs.Views.{stands_at}
use Rattle.arn_model.specs.Kernel.{Machine}
use Rattle.arn_model.specs.Row.{request}
use Rattle.arn_model.specs.Run.{Input, Slice}
use Rattle.arn_model.specs.Turn.{after_first, after_steps, delivery_in, is_possible, plains}
use Rattle.guest_devices.specs.Answers.{Asked}
use Rattle.guest_calls.specs.Steps.{RepliesTo}
use Rattle.guest_machine.specs.Recorded.{Recorded, Runs}

-- no device was asked
abbrev pub AsksNothing : {A : Type 0} → Option Answered → A → A → Type 0
AsksNothing reply old new = (reply ≡ None) × (new ≡ old)

-- at an instruction a call alone asks
abbrev pub RepliesAt : {A : Type 0} → (A → Asked → Answered → A → Type 0) → Machine → ℕ → View → Effect → Option Answered → A → A → Type 0
RepliesAt answers m pid v (Next instr cpu memory) reply old new = AsksNothing reply old new
RepliesAt answers m pid v Call reply old new = RepliesTo answers v (request m pid v) reply old new
RepliesAt answers m pid v (End status) reply old new = AsksNothing reply old new

-- a process that has ended asks nothing
abbrev pub RepliesOf : {A : Type 0} → (A → Asked → Answered → A → Type 0) → Machine → ℕ → Option View → Option Answered → A → A → Type 0
RepliesOf answers m pid None reply old new = AsksNothing reply old new
RepliesOf answers m pid (Some v) reply old new = RepliesAt answers m pid v (stands_at v) reply old new

-- and a turn whose instructions are spent asks nothing
abbrev pub RepliesIf : {A : Type 0} → Bool → (A → Asked → Answered → A → Type 0) → Machine → ℕ → Option Answered → A → A → Type 0
RepliesIf false answers m pid reply old new = AsksNothing reply old new
RepliesIf true answers m pid reply old new = RepliesOf answers m pid (seen m.bodies pid) reply old new

-- the machine behind the delivery of a turn
abbrev pub delivered : ℕ → Machine → Machine
delivered pid m = after_first m (delivery_in m pid (seen m.bodies pid))

-- The devices were asked what the turn of a process for so many instructions asks at its end, and this was the reply.
abbrev pub RepliesIn : {A : Type 0} → (A → Asked → Answered → A → Type 0) → ℕ → ℕ → Machine → Option Answered → A → A → Type 0
RepliesIn answers count pid m reply old new =
    let plain = plains count pid (delivered pid m) in
    RepliesIf (nat_lt (length plain) count) answers (after_steps (delivered pid m) plain) pid reply old new

-- a slice ran whole, and a device that it asked gave this reply
pub record RanSlice {A : Type 0} (answers : A → Asked → Answered → A → Type 0) (m : Machine) (pid count : ℕ) (asked asked' : A) (old new : Recorded) (out out' : List Record) : Type 0 where
  pub reply : Option Answered
  pub runs : Runs m (Slice pid count reply ∷ []) old new out out'
  pub replied : RepliesIn answers count pid m reply asked asked'

-- a slice that may be taken: one that is possible, or one of no instruction of a live process, which perhaps does nothing
abbrev pub CanTake : Machine → ℕ → ℕ → Type 0
CanTake m pid count = (is_possible m pid count ≡ true) ⊎ ((count ≡ 0) × IsSome (seen m.bodies pid))

-- what was done of a slice before memory ran out: nothing, or a part that asks no device
pub data IsPart (pid count : ℕ) : List Input → Type 0 where
  Unbegun : IsPart pid count []
  Begun : (ran : ℕ) → ran < count → IsPart pid count (Slice pid ran None ∷ [])

-- a slice was cut, and its part has run
pub record IsCut (m : Machine) (pid count : ℕ) (old new : Recorded) (out out' : List Record) : Type 0 where
  pub inputs : List Input
  pub part : IsPart pid count inputs
  pub runs : Runs m inputs old new out out'
