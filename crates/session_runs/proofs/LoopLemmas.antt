-- How long a run goes on.
use Rattle.std.proofs.Common.{◌≡◌, ℕ, ◌+◌, ◌-◌, ◌^◌, List, Option, Some, None, IfSome, OnOk, Result, Ok, Err, refl, subst, arith}
use Rattle.arn_base.specs.Faults.{NeverFalls}
use Rattle.arn_lines.specs.declared.answer.RunEnd.{RunEnd}
use Rattle.log_store.specs.Stops.{GoesOn}

-- each leg that has another behind it adds a record, and there are few enough
abbrev pub turns : Option RunEnd → ℕ → ℕ
turns None records = (2 ^ 63 - records) + 1
turns (Some end) records = 0

-- how the run ended, if it did
pub told-some : (o o' : Option RunEnd) → o ≡ o' → IfSome o' (λ e. o ≡ Some e)
told-some o None is = tt
told-some o (Some e) is = is

pub if-some : (o : Option RunEnd) (e : RunEnd) (P : RunEnd → Type 0) → o ≡ Some e → IfSome o P → P e
if-some o e P is held = subst (λ (x : Option RunEnd). IfSome x P) is held

-- what holds anyhow holds where it is done
pub on_ok : {T E P : Type 0} (r : Result T E) → P → OnOk r P
on_ok (Ok x) p = p
on_ok (Err e) p = tt

-- nothing changed
pub still-falls : (n : ℕ) → NeverFalls n n
still-falls n = record { no_less = omega arith; stands_still = λ _. refl }

pub still-goes : {D : Type 0} (image : D → Option (List ℕ)) (faults : D → ℕ) (d : D) → GoesOn image faults d d
still-goes image faults d = record { tells = refl; never_falls = still-falls (faults d) }
