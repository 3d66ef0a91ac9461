-- The parts of a turn, each as the definitions of turns say.
use Rattle.std.specs.Prelude.{◌≡◌, ◌<◌, ◌++◌, ℕ, Bool, true, false, List, length, Option, None, Some, option_to_list}
use Rattle.arn_base.specs.declared.records.Record.{Record}
use Rattle.rv64_core.specs.declared.outcome.Outcome.{Outcome}
use Rattle.rv64_core.specs.declared.outcome.Outcome.TheVariants as outcome
use Rattle.rv64_model.specs.Instruction.{Effect, Call, End}
use Rattle.parts_model.specs.Replies.{Answered}
use Rattle.acts_model.specs.Bodies.{View, seen}
use Rattle.acts_model.specs.Views.{stands_at}
use Rattle.arn_model.specs.Kernel.{Machine}
use Rattle.arn_model.specs.Run.{instructions_in}
use Rattle.arn_model.specs.Step.{delivery_step}
use Rattle.arn_model.specs.Turn.{after_first, after_steps, last_in, plains, steps_of, turn}
use Rattle.log_model.specs.Records.{event_records}
use Rattle.guest_bodies.specs.declared.running.Stood.{Stood}
use Rattle.guest_devices.specs.Answers.{Asked}
use Rattle.guest_calls.specs.State.{State, StandsFor}
use Rattle.guest_machine.specs.Slices.{RepliesIn, RepliesOf}
use Rattle.guest_legs.specs.Pieces.{slice_of}
use Rattle.guest_machine.specs.declared.turn.Taken.{Taken}

-- a process takes its due signal, if there is one, and this is the record
pub record Delivers (m : Machine) (pid : ℕ) (v : View) (entry : Option Record) (new : State) : Type 0 where
  pub told : event_records (option_to_list (delivery_step m pid v)) ≡ option_to_list entry
  pub stands : StandsFor new (after_first m (delivery_step m pid v))

-- a process lives, and stands at an instruction of this effect
pub record StandsAt (m : Machine) (pid : ℕ) (effect : Effect) : Type 0 where
  pub view : View
  pub sees : seen m.bodies pid ≡ Some view
  pub is : stands_at view ≡ effect

-- where instructions end: as many ran as might, or the next one is a call or an end, or fewer ran for want of memory
abbrev pub StopsAt : Outcome → ℕ → ℕ → Machine → ℕ → Type 0
StopsAt outcome.Next ran count m pid = ran ≡ count
StopsAt outcome.Call ran count m pid = (ran < count) × StandsAt m pid Call
StopsAt (outcome.End status) ran count m pid = (ran < count) × StandsAt m pid (End status)
StopsAt outcome.NoMemory ran count m pid = ran < count

-- instructions of a process ran, and it stands behind them
pub record RanPlain (m : Machine) (pid count : ℕ) (stood : Stood) (new : State) : Type 0 where
  pub many : length (plains stood.ran pid m) ≡ stood.ran
  pub stands : StandsFor new (after_steps m (plains stood.ran pid m))
  pub stops : StopsAt stood.outcome stood.ran count (after_steps m (plains stood.ran pid m)) pid

-- the call or the end at which a process stands has happened, if it is ready, and this is the record
pub record Happens {A : Type 0} (answers : A → Asked → Answered → A → Type 0) (m : Machine) (pid : ℕ) (entry : Option Record) (asked asked' : A) (new : State) : Type 0 where
  pub reply : Option Answered
  pub replied : RepliesOf answers m pid (seen m.bodies pid) reply asked asked'
  pub told : event_records (option_to_list (last_in m pid reply (seen m.bodies pid))) ≡ option_to_list entry
  pub stands : StandsFor new (after_first m (last_in m pid reply (seen m.bodies pid)))

-- a turn is finished where its instructions ended
abbrev pub Finishes : {A : Type 0} → Outcome → (A → Asked → Answered → A → Type 0) → Machine → ℕ → Option Record → A → A → State → State → Type 0
Finishes outcome.Next answers m pid entry asked asked' old new = (entry ≡ None) × (asked' ≡ asked) × (new ≡ old)
Finishes outcome.Call answers m pid entry asked asked' old new = Happens answers m pid entry asked asked' new
Finishes (outcome.End status) answers m pid entry asked asked' old new = Happens answers m pid entry asked asked' new
Finishes outcome.NoMemory answers m pid entry asked asked' old new = ⊥

-- A turn: the record of its delivery, how many instructions ran, and the record of a call or an end by fault, which is the last of them.
-- `cut` says that a store or its call found no memory, and isn't of it.
pub record Turn : Type 0 where
  pub delivery : Option Record
  pub ran : ℕ
  pub last : Option Record
  pub cut : Bool

-- a process has taken the turn for so many instructions with this reply, and these are its records
pub record Turned (m : Machine) (pid count : ℕ) (reply : Option Answered) (t : Turn) (new : State) : Type 0 where
  pub ran : instructions_in (steps_of (turn count pid reply m)) ≡ t.ran
  pub told : event_records (steps_of (turn count pid reply m)) ≡ option_to_list t.delivery ++ option_to_list t.last
  pub stands : StandsFor new (after_steps m (steps_of (turn count pid reply m)))

-- the whole turn, with the reply of the device that it asks
pub record TookWhole {A : Type 0} (answers : A → Asked → Answered → A → Type 0) (m : Machine) (pid count : ℕ) (t : Turn) (asked asked' : A) (new : State) : Type 0 where
  pub reply : Option Answered
  pub replied : RepliesIn answers count pid m reply asked asked'
  pub turned : Turned m pid count reply t new

-- a part of it, which asks none
pub record TookPart {A : Type 0} (m : Machine) (pid count : ℕ) (t : Turn) (asked asked' : A) (new : State) : Type 0 where
  pub within : t.ran < count
  pub unasked : asked' ≡ asked
  pub turned : Turned m pid t.ran None t new

-- by whether memory ran out
abbrev pub Took : {A : Type 0} → Bool → (A → Asked → Answered → A → Type 0) → Machine → ℕ → ℕ → Turn → A → A → State → Type 0
Took false answers m pid count t asked asked' new = TookWhole answers m pid count t asked asked' new
Took true answers m pid count t asked asked' new = TookPart m pid count t asked asked' new

-- a process has taken a turn, of which this is told, and its records stand behind others
pub record Takes {A : Type 0} (answers : A → Asked → Answered → A → Type 0) (m : Machine) (pid count : ℕ) (taken : Taken) (asked asked' : A) (new : State) (out out' : List Record) : Type 0 where
  pub parts : Turn
  pub took : Took taken.cut answers m pid count parts asked asked' new
  pub ran : parts.ran ≡ taken.ran
  pub kept : out' ≡ out ++ slice_of pid parts.ran (option_to_list parts.delivery ++ option_to_list parts.last)
