-- Facts of calls that succeeded or not, from other facts.
use Rattle.std.proofs.Common.{◌≡◌, Result, Ok, Err, OnOk, IfErr, subst}

-- a fact of the error that came
pub err-at : {T E : Type 0} (r : Result T E) (P : E → Type 0) (e : E) → r ≡ Err e → IfErr r P → P e
err-at r P e is p = subst (λ x. IfErr x P) is p

-- a fact of the call that succeeded
pub ok-at : {T E : Type 0} (r : Result T E) (P : Type 0) (x : T) → r ≡ Ok x → OnOk r P → P
ok-at r P x is p = subst (λ y. OnOk y P) is p
