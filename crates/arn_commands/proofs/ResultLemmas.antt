-- Facts of calls that failed.
use Rattle.std.proofs.Common.{◌≡◌, Result, Err, IfErr, sym, subst}

-- a fact of the error that it is
pub IfErr-is : {T E : Type 0} (r : Result T E) (P : E → Type 0) (e : E) → r ≡ Err e → P e → IfErr r P
IfErr-is r P e is p = subst (λ x. IfErr x P) (sym is) p
