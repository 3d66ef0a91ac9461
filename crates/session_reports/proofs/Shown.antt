-- What is printed where a past state can't be shown.
use Rattle.std.proofs.Common.{◌≡◌, ◌≢◌, ℕ, Bool, List, Option, ap, if◌then◌else◌, refl, sym, ◌∙◌, Err, Ok, OnOk, Result}
use Rattle.acts_model.specs.Bodies.{View}
use Rattle.arn_lines.specs.declared.answer.Refusal.TheVariants.{NoPoint}
use Rattle.arn_lines.specs.Texts.{refusal_text}
use Rattle.history_model.specs.Alone.{Made}
use Rattle.replay_steps.specs.declared.errors.QueryError.{QueryError}
use Rattle.replay_steps.specs.declared.errors.QueryError.TheVariants as error
use Rattle.session_reports.specs.Refused.{error_text}
use Rattle.session_reports.specs.States.{seen_text}
use Rattle.state_viewer.specs.Views.{Explains}

-- an error is told as what was asked says
pub error-shown : (line : Option View → List ℕ) (pid : ℕ) (is_there : Bool) (made : Made) (e : QueryError) → Explains is_there made e → e ≢ error.NoMemory
    → error_text e ≡ (if is_there then seen_text line pid made else refusal_text NoPoint)
error-shown line pid is_there made error.NoPoint says known = ap (λ (b : Bool). if b then seen_text line pid made else refusal_text NoPoint) (sym says)
error-shown line pid is_there made (error.Disagrees d) says known =
    sym (ap (λ (b : Bool). if b then seen_text line pid made else refusal_text NoPoint) says.0 ∙ ap (seen_text line pid) says.1)
error-shown line pid is_there made error.NoMemory says known = absurd (known refl)

-- two facts that hold after an answer
pub on_both : {T E P Q R : Type 0} (r : Result T E) → (P → Q → R) → OnOk r P → OnOk r Q → OnOk r R
on_both (Ok x) f p q = f p q
on_both (Err e) f p q = tt
