-- What calls that may ask a device do to the state.
use Rattle.std.specs.Prelude.{◌≡◌, ℕ, Some}
use Rattle.parts_model.specs.Replies.{Answered}
use Rattle.acts_model.specs.Bodies.{View}
use Rattle.arn_model.specs.Doing.{Question, Request, Does, Asks}
use Rattle.arn_model.specs.Kernel.{Machine}
use Rattle.arn_model.specs.Row.{answered}
use Rattle.guest_devices.specs.Answers as devices
use Rattle.guest_calls.specs.Acted.{Carried}
use Rattle.guest_calls.specs.State.{State}
use Rattle.guest_calls.specs.Steps.{asked_of}
use Rattle.guest_calls.specs.declared.outcomes.Done.{Done}

-- a call has asked a device once, and has ended as this answer says
pub record Replied {A : Type 0} (answers : A → devices.Asked → Answered → A → Type 0) (asked asked' : A) (question : Question) (done : Done) (m : Machine) (pid : ℕ) (v : View) (new : State) : Type 0 where
  pub answer : Answered
  pub once : answers asked (asked_of v question) answer asked'
  pub carried : Carried (Does (answered m pid v question (Some answer))) done m pid v new

-- a call that comes to this has ended: it asked no device, or one
pub data Ended {A : Type 0} (answers : A → devices.Asked → Answered → A → Type 0) (asked asked' : A) (request : Request) (done : Done) (m : Machine) (pid : ℕ) (v : View) (new : State) : Type 0 where
  Alone : asked' ≡ asked → Carried request done m pid v new → Ended answers asked asked' request done m pid v new
  Asking : (question : Question) → request ≡ Asks question → Replied answers asked asked' question done m pid v new → Ended answers asked asked' request done m pid v new
