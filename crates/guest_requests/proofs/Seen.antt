-- What is known of what a process sees.
use Rattle.std.proofs.Common.{◌≡◌, ℕ, Option, Some, IfSome, sym, ap, ap₂, ◌∙◌, subst}
use Rattle.std.specs.Prelude.{Result, Ok}
use Rattle.acts_model.specs.Bodies.{View}
use Rattle.acts_model.specs.Views.{argument, call_number}
use Rattle.arn_model.specs.Doing.{Request}
use Rattle.arn_model.specs.Kernel.{Machine}
use Rattle.arn_model.specs.TransferCalls.{cut, if_moving}
use Rattle.guest_requests.specs.Transfers.{moved_by}

-- a fact of what a process sees
pub at-seen : (o : Option View) (v : View) (P : View → Type 0) → o ≡ Some v → IfSome o P → P v
at-seen o v P is holds = subst (λ (x : Option View). IfSome x P) is holds

-- the number of its call
pub called : (o : Option View) (v : View) (number n : ℕ) → o ≡ Some v → IfSome o (λ w. number ≡ call_number w.body.cpu) → number ≡ n → call_number v.body.cpu ≡ n
called o v number n sees told is = sym (at-seen o v (λ (w : View). number ≡ call_number w.body.cpu) sees told) ∙ is

-- a transfer that goes on, by its arguments
pub moves-on : (m : Machine) (v : View) (at count most : ℕ) (moves : Result ℕ ℕ) (one : ℕ → ℕ → Request) → at ≡ argument v.body.cpu 1 → count ≡ argument v.body.cpu 2 → ((goes_on : Request) → if_moving m v at count goes_on ≡ moved_by moves m goes_on) → moves ≡ Ok most → most ≡ cut count → if_moving m v (argument v.body.cpu 1) (argument v.body.cpu 2) (one (argument v.body.cpu 1) (cut (argument v.body.cpu 2))) ≡ one at most
moves-on m v at count most moves one first second moved is few =
    sym (ap₂ (λ (a n : ℕ). if_moving m v a n (one a (cut n))) first second)
    ∙ (moved (one at (cut count))
    ∙ (ap (λ (r : Result ℕ ℕ). moved_by r m (one at (cut count))) is
    ∙ sym (ap (one at) few)))
