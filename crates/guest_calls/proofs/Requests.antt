-- Calls that were carried out.
use Rattle.std.proofs.Common.{◌≡◌, Bool, true, false, None, refl, sym, ap, subst, true≢false}
use Rattle.std.specs.Prelude.{ℕ, Result, Err, IsErrAnd, IsErrOf, IsTrue}
use Rattle.parts_model.specs.Replies.{Answered}
use Rattle.acts_model.specs.Bodies.{View}
use Rattle.arn_model.specs.Doing.{Request}
use Rattle.arn_model.specs.Kernel.{Machine}
use Rattle.arn_model.specs.Row.{request, does}
use Rattle.guest_devices.specs.Answers as devices
use Rattle.guest_calls.specs.Acted.{Carried}
use Rattle.guest_calls.specs.State.{State}
use Rattle.guest_calls.specs.Steps.{Performed, RepliesTo}
use Rattle.guest_calls.specs.declared.outcomes.CallStop.{CallStop}
use Rattle.guest_calls.specs.declared.outcomes.CallStop.TheVariants as stop
use Rattle.guest_calls.specs.declared.outcomes.Done.{Done}

-- a call that has ended didn't wait
pub ended-ready : {T : Type 0} (r : Result T CallStop) (b : Bool) → (r ≡ Err stop.NotReady → ⊥) → b ≡ false → (IsErrOf r stop.NotReady → IsTrue b) × (IsTrue b → IsErrOf r stop.NotReady)
ended-ready r true ended is = absurd (true≢false is)
ended-ready r false ended is = (λ e. absurd (ended e), λ w. absurd (true≢false (sym w)))

-- another error than that
pub errs-otherwise : {T : Type 0} (r : Result T CallStop) (P : CallStop → Type 0) → IsErrAnd r P → (P stop.NotReady → ⊥) → r ≡ Err stop.NotReady → ⊥
errs-otherwise {T = T} r P errs isnt is = isnt (subst (λ (x : Result T CallStop). IsErrAnd x P) is errs)

-- a call that asks no device has been carried out
pub performed : {A : Type 0} (answers : A → devices.Asked → Answered → A → Type 0) (asked : A) (done : Done) (m : Machine) (pid : ℕ) (v : View) (new : State) → Carried (request m pid v) done m pid v new → Performed answers asked asked done m pid v new
performed answers asked done m pid v new carried =
    record {
      reply = None;
      replied = subst (λ (r : Request). RepliesTo answers v r None asked asked) (sym carried.is) (refl, refl);
      doing = carried.doing;
      does = ap (does m pid v None) carried.is;
      result = carried.answers;
      extra = carried.extra;
      stands = carried.stands;
    }
