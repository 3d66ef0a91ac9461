-- What is answered where a give is read.
use Rattle.std.proofs.lemmas.Bool.Decides.{nat_tests}
use Rattle.std.proofs.Common.{◌≡◌, ℕ, List, Result, Ok, Err, IfErr, IsErrAnd, IsErrOf, ap, sym, ◌∙◌, arith}
use Rattle.schedule_log.specs.declared.errors.GetError.{GetError}
use Rattle.schedule_log.specs.declared.errors.GetError.TheVariants as error
use Rattle.exchange_log.specs.Gives.{IsCause, IsNoGive, IsSomeGive}

-- the error that the exit of a `?` answers
pub is_no_memory : {T : Type 0} (r : Result T GetError) → IsErrAnd r (λ e. e ≡ error.NoMemory) → IsErrOf r error.NoMemory
is_no_memory (Ok x) h = absurd h
is_no_memory (Err e) h = ap Err h

no_memory-malformed : {T : Type 0} (r : Result T GetError) (at : ℕ) → IsErrOf r error.NoMemory → IsErrOf r (error.Malformed at) → ⊥
no_memory-malformed r at e f = let g = sym e ∙ f in cc

-- where memory runs out a give stands
pub exactly-no_memory : {T : Type 0} (r : Result T GetError) (bytes : List ℕ) (at : ℕ) → IsErrOf r error.NoMemory → IsSomeGive bytes at
    → (IsErrOf r (error.Malformed at) → IsNoGive bytes at) × (IsNoGive bytes at → IsErrOf r (error.Malformed at))
exactly-no_memory r bytes at e stands =
    (λ f. absurd (no_memory-malformed r at e f), λ none. absurd (none stands))

pub cause-no_memory : {T : Type 0} (r : Result T GetError) (bytes : List ℕ) (at : ℕ) → IsErrOf r error.NoMemory → IsSomeGive bytes at
    → IfErr r (IsCause bytes at)
cause-no_memory r bytes at h1 h2 = grind (arith, nat_tests)

-- where a give is read one stands
pub exactly-read : {T : Type 0} (x : T) (bytes : List ℕ) (at : ℕ) → IsSomeGive bytes at
    → (IsErrOf {E = GetError} (Ok x) (error.Malformed at) → IsNoGive bytes at)
    × (IsNoGive bytes at → IsErrOf {E = GetError} (Ok x) (error.Malformed at))
exactly-read x bytes at stands = (λ e. absurd cc, λ none. absurd (none stands))
