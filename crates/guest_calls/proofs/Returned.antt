-- What is asked again and again of a call: that its process lives, and what a return with an error says.
use Rattle.std.proofs.Common.{◌≡◌, ℕ, List, length, zero, suc, ◌+◌, ◌<◌, ◌≤◌, ◌^◌, arith, is_some, true, true≢false, sym, subst}
use Rattle.std.specs.Prelude.{Result, Ok, Err, IfOk, IsErr, OnErr, OnOk}
use Rattle.arn_base.specs.declared.records.Extra.{Extra}
use Rattle.arn_base.specs.declared.records.Extra.TheVariants as extra
use Rattle.parts_model.specs.Numbered.{nth}
use Rattle.guest_mem.specs.Pages.{IsEnough}
use Rattle.guest_calls.specs.Fits.{IsShort}
use Rattle.guest_calls.specs.Kept.{state_of}
use Rattle.guest_calls.specs.State.{State}
use Rattle.guest_calls.specs.declared.kernel.Kernel.TheInside.{Inside}
use Rattle.guest_calls.specs.declared.outcomes.Done.{Done}

pub lives : (k : Inside) (s : State) (pid : ℕ) → state_of k ≡ s → is_some (nth s.guests pid) ≡ true → is_some (nth k.bodies pid) ≡ true
lives k s pid is live = subst (λ (x : State). is_some (nth x.guests pid) ≡ true) (sym is) live

pub has-room : (k : Inside) (s : State) → state_of k ≡ s → s.events + 1 < 2 ^ 64 → k.events + 1 < 2 ^ 64
has-room k s is room = subst (λ (x : State). x.events + 1 < 2 ^ 64) (sym is) room

-- a record that holds nothing is short
pub nothing-short : {x : Extra} → x ≡ extra.Nothing → IsShort x
nothing-short is = subst IsShort (sym is) tt

-- what is enough for many bytes is enough for fewer
pub still-enough : (few many spare : ℕ) → few ≤ many → IsEnough many spare → IsEnough few spare
still-enough zero many spare fewer enough = omega arith
still-enough (suc few) zero spare fewer enough = absurd (omega arith)
still-enough (suc zero) (suc zero) spare fewer enough = enough
still-enough (suc zero) (suc (suc many)) spare fewer enough = omega (arith, enough)
still-enough (suc (suc few)) (suc zero) spare fewer enough = absurd (omega arith)
still-enough (suc (suc few)) (suc (suc many)) spare fewer enough = omega (arith, enough)

-- what is enough for the most bytes is enough for those that came
pub enough-for : (sent bytes : List ℕ) (most spare : ℕ) → sent ≡ bytes → length bytes ≤ most → IsEnough most spare → IsEnough (length sent) spare
enough-for sent bytes most spare same few enough = still-enough (length sent) most spare (subst (λ (x : List ℕ). length x ≤ most) (sym same) few) enough

module _ {T E : Type 0} where
  pub no-ok : (P : T → Type 0) (r : Result T E) → IsErr r → IfOk r P
  no-ok P (Ok x) is = absurd (true≢false (sym is))
  no-ok P (Err e) is = tt

  pub not-ok : (P : Type 0) (r : Result T E) → IsErr r → OnOk r P
  not-ok P (Ok x) is = absurd (true≢false (sym is))
  not-ok P (Err e) is = tt

  pub on-err : {P : Type 0} (r : Result T E) → P → OnErr r P
  on-err (Ok x) holds = tt
  on-err (Err e) holds = holds

pub nothing-shorts : {E : Type 0} (r : Result Done E) → IfOk r (λ d. d.extra ≡ extra.Nothing) → IfOk r (λ d. IsShort d.extra)
nothing-shorts (Ok d) is = nothing-short is
nothing-shorts (Err e) is = tt
