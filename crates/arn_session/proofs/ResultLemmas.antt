-- Facts of calls that succeeded or not, from other facts.
use Rattle.std.proofs.Common.{◌≡◌, Option, Some, Result, Ok, Err, OnOk, IfErr, subst, sym}
use Rattle.std.specs.Prelude.{IfNone}
use Rattle.std.specs.Result.{IsErrOf, result_err}

-- a fact of the error that came
pub err-at : {T E : Type 0} (r : Result T E) (P : E → Type 0) (e : E) → r ≡ Err e → IfErr r P → P e
err-at r P e is p = subst (λ x. IfErr x P) is p

-- a fact of the call that succeeded
pub ok-at : {T E : Type 0} (r : Result T E) (P : Type 0) (x : T) → r ≡ Ok x → OnOk r P → P
ok-at r P x is p = subst (λ y. OnOk y P) is p

-- where no error is told, what a call that succeeded says
pub ok-untold : {T E : Type 0} (r : Result T E) (P : Type 0) (o : Option E) → o ≡ result_err r → OnOk r P → IfNone o P
ok-untold (Ok x) P o is p = subst (λ y. IfNone y P) (sym is) p
ok-untold (Err e) P o is p = subst (λ y. IfNone y P) (sym is) tt

-- an error that is told came
pub err-told : {T E : Type 0} (r : Result T E) (o : Option E) (e : E) → o ≡ result_err r → o ≡ Some e → IsErrOf r e
err-told (Ok x) o e is told = absurd (cc)
err-told (Err x) o e is told = cc
