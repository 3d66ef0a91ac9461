-- What a kernel's calls on one process do: as the definitions of the machine's steps say.
use Rattle.std.specs.Prelude.{◌≡◌, ℕ, Option, Some, None}
use Rattle.arn_base.specs.declared.records.Record.TheVariants as entry
use Rattle.rv64_core.specs.declared.outcome.Outcome.{Outcome}
use Rattle.rv64_core.specs.declared.outcome.Outcome.TheVariants as outcome
use Rattle.rv64_model.specs.Instruction.{Effect, Next, Call, End}
use Rattle.parts_model.specs.Replies.{Answered}
use Rattle.acts_model.specs.Acts.{result_of}
use Rattle.acts_model.specs.Bodies.{View}
use Rattle.acts_model.specs.Moved.{Event}
use Rattle.acts_model.specs.Views.{read}
use Rattle.arn_model.specs.Doing.{Doing, Question, Request, Waits, Does, Asks}
use Rattle.arn_model.specs.Doing as doing
use Rattle.arn_model.specs.Kernel.{Machine}
use Rattle.arn_model.specs.Row.{request, does}
use Rattle.arn_model.specs.Step.{Step, plain_step, call_step}
use Rattle.guest_devices.specs.Answers as devices
use Rattle.guest_calls.specs.State.{State, StandsFor}
use Rattle.guest_calls.specs.declared.outcomes.Done.{Done}
use Rattle.guest_calls.specs.declared.outcomes.Delivered.{Delivered}

-- An instruction of a process that sees this: where the next one follows, it took effect, and else nothing has changed.
abbrev pub Stepped : Outcome → Machine → ℕ → View → Effect → State → State → Type 0
Stepped result m pid v (Next instr cpu memory) old new = (result ≡ outcome.Next) × StandsFor new (plain_step m pid v instr cpu memory).after
Stepped result m pid v Call old new = (result ≡ outcome.Call) × (new ≡ old)
Stepped result m pid v (End status) old new = (result ≡ outcome.End status) × (new ≡ old)

-- what a question asks of a device
abbrev pub asked_of : View → Question → devices.Asked
asked_of v (doing.Here device) = devices.Here device
asked_of v (doing.Reads device at len) = devices.Reads device len
asked_of v (doing.Writes device at len) = devices.Writes device (read v at len)

-- the devices were asked what a call asks, once, and this was the reply; a call that asks nothing has none
abbrev pub RepliesTo : {A : Type 0} → (A → devices.Asked → Answered → A → Type 0) → View → Request → Option Answered → A → A → Type 0
RepliesTo answers v Waits reply old new = (reply ≡ None) × (new ≡ old)
RepliesTo answers v (Does d) reply old new = (reply ≡ None) × (new ≡ old)
RepliesTo answers v (Asks question) None old new = ⊥
RepliesTo answers v (Asks question) (Some answer) old new = answers old (asked_of v question) answer new

-- a call of a process has ended: the machine has done what it comes to, and its result and the rest of its record are these
pub record Performed {A : Type 0} (answers : A → devices.Asked → Answered → A → Type 0) (asked asked' : A) (done : Done) (m : Machine) (pid : ℕ) (v : View) (new : State) : Type 0 where
  pub reply : Option Answered
  pub replied : RepliesTo answers v (request m pid v) reply asked asked'
  pub doing : Doing
  pub does : does m pid v reply (request m pid v) ≡ Some doing
  pub result : done.result ≡ result_of doing.act
  pub extra : done.extra ≡ doing.extra
  pub stands : StandsFor new (call_step m pid v doing).after

-- a step's record tells of this delivery
pub record IsRecordOf (pid : ℕ) (d : Delivered) (s : Step) : Type 0 where
  pub event : Event
  pub happened : s.moved.inside.event ≡ Some event
  pub told : event.entry ≡ entry.Signal pid d.signal d.cut d.handler

-- a delivery, if one is due; else nothing has changed
abbrev pub DeliveredBy : Option Delivered → ℕ → Option Step → State → State → Type 0
DeliveredBy None pid None old new = new ≡ old
DeliveredBy None pid (Some s) old new = ⊥
DeliveredBy (Some d) pid None old new = ⊥
DeliveredBy (Some d) pid (Some s) old new = IsRecordOf pid d s × StandsFor new s.after
