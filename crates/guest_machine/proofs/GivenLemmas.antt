-- What holds of a value that is given on.
use Rattle.std.proofs.Common.{◌≡◌, true, false, Result, Ok, Err, sym, subst}
use Rattle.std.specs.Prelude.{IfErr, IfOk, IsOk, OnOk}

-- of the value, where the other was done
pub given-ok : {U T E : Type 0} (done : Result U E) (value : T) (r : Result T E) (P : T → Type 0) → IfOk r (λ given. (given ≡ value) × IsOk done) → OnOk done (P value) → IfOk r P
given-ok (Ok u) value (Ok x) P h p = subst P (sym h.0) p
given-ok (Err e) value (Ok x) P h p = absurd (clash h.1)
  where
    clash : false ≡ true → ⊥
    clash is = cc
given-ok done value (Err e) P h p = tt

-- and of the error
pub given-err : {U T E : Type 0} (done : Result U E) (r : Result T E) (e : E) → IfErr r (λ why. done ≡ Err why) → r ≡ Err e → done ≡ Err e
given-err {U} {T} {E} done r e h is = subst (λ (s : Result T E). IfErr s (λ why. done ≡ Err why)) is h
