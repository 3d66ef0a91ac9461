-- What carries out a row carries out the call of its number.
use Rattle.std.proofs.Common.{◌≡◌, ◌≢◌, ℕ, Bool, false, ◌||◌, Some, IfOk, IfSome, sym, ap₂, ◌∙◌, subst, ne_eqb}
use Rattle.std.specs.Prelude.{Result}
use Rattle.std.proofs.lemmas.Result.{IfOk-weaker}
use Rattle.acts_model.specs.Bodies.{View, seen}
use Rattle.acts_model.specs.Views.{call_number}
use Rattle.arn_model.specs.Doing.{Request}
use Rattle.arn_model.specs.Kernel.{Machine}
use Rattle.arn_model.specs.Row.{request}
use Rattle.guest_bodies.specs.Shown.{seen_in}
use Rattle.guest_requests.specs.Calls.{ComesTo}
use Rattle.guest_requests.specs.Standing.{can_wait}
use Rattle.guest_calls.specs.Acted.{Carried}
use Rattle.guest_calls.specs.State.{State, StandsFor, OfProcess}
use Rattle.guest_calls.specs.declared.outcomes.Done.{Done}
use Rattle.guest_calls.proofs.Stands.{at-seen}

-- the numbers of calls that are always ready
pub ready-number : (n : ℕ) → n ≢ 11 → n ≢ 12 → n ≢ 4 → n ≢ 20 → can_wait n ≡ false
ready-number n a b c d =
    ap₂ (λ (x y : Bool). x || y) (ap₂ (λ (x y : Bool). x || y) (ap₂ (λ (x y : Bool). x || y) (ne_eqb n 11 a) (ne_eqb n 12 b)) (ne_eqb n 4 c)) (ne_eqb n 20 d)

-- the number of the call of a process that a machine knows
pub called : (s : State) (pid number n : ℕ) (m : Machine) (v : View) → StandsFor s m → seen m.bodies pid ≡ Some v → IfSome (seen_in s.guests pid) (λ w. number ≡ call_number w.body.cpu) → number ≡ n → call_number v.body.cpu ≡ n
called s pid number n m v stands sees told is = sym (at-seen (seen_in s.guests pid) v (λ (w : View). number ≡ call_number w.body.cpu) (stands.seen pid ∙ sees) told) ∙ is

module _ (s new : State) (pid number n : ℕ) (one : Machine → ℕ → View → Request) (told : IfSome (seen_in s.guests pid) (λ w. number ≡ call_number w.body.cpu)) (is : number ≡ n) (comes : ComesTo n one) where
  pub carried-call : (d : Done) → OfProcess s pid (λ m v. Carried (one m pid v) d m pid v new) → OfProcess s pid (λ m v. Carried (request m pid v) d m pid v new)
  carried-call d carried m v stands sees =
      subst (λ (r : Request). Carried r d m pid v new) (sym (comes m pid v (called s pid number n m v stands sees told is))) (carried m v stands sees)

  pub carried-calls : {E : Type 0} (r : Result Done E) → IfOk r (λ (d : Done). OfProcess s pid (λ m v. Carried (one m pid v) d m pid v new)) → IfOk r (λ (d : Done). OfProcess s pid (λ m v. Carried (request m pid v) d m pid v new))
  carried-calls r carried =
      IfOk-weaker r (λ (d : Done). OfProcess s pid (λ m v. Carried (one m pid v) d m pid v new)) (λ (d : Done). OfProcess s pid (λ m v. Carried (request m pid v) d m pid v new))
      carried-call carried
