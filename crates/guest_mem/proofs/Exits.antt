-- What holds where a call returns an error.
use Rattle.std.proofs.Common.{◌≡◌, ◌↔◌, ℕ, ◌+◌, ◌-◌, false, true, Option, Some, None, IsSome, IsNone, Result, Ok, Err, List, refl, ap, arith}
use Rattle.std.specs.Result.{IsErrAnd, OnErr, OnOk}
use Rattle.arn_base.specs.Window.{bytes_at}
use Rattle.arn_base.specs.declared.errors.StoreError.{StoreError}
use Rattle.arn_base.specs.declared.errors.StoreError.TheVariants as error
use Rattle.parts_model.specs.Memory.{private_window}

pub err-at-exit : {T E P : Type 0} (r : Result T E) → P → OnErr r P
err-at-exit (Ok x) holds = tt
err-at-exit (Err e) holds = holds

pub is-err : {T E : Type 0} (r : Result T E) (e : E) → IsErrAnd r (λ x. x ≡ e) → r ≡ Err e
is-err (Ok x) e is = absurd is
is-err (Err x) e is = ap Err is

pub ok-not-err : {T E : Type 0} (x : T) (e : E) → Ok x ≡ Err e → ⊥
ok-not-err x e same = cc

pub address-not-memory : {T : Type 0} → ◌≡◌ {A = Result T StoreError} (Err error.BadAddress) (Err error.NoMemory) → ⊥
address-not-memory same = cc

pub not-address : {T : Type 0} (r : Result T StoreError) → IsErrAnd r (λ x. x ≡ error.NoMemory) → r ≡ Err error.BadAddress → ⊥
not-address r is bad = let memory = is-err r error.NoMemory is in cc

pub not-memory : {T : Type 0} (r : Result T StoreError) → IsErrAnd r (λ x. x ≡ error.BadAddress) → r ≡ Err error.NoMemory → ⊥
not-memory r is none = let address = is-err r error.BadAddress is in cc

pub none-where-not : {X : Type 0} (o : Option X) → ((false ≡ true) ↔ IsSome o) → IsNone o
none-where-not (Some x) whole = absurd (let no = whole.1 refl in cc)
none-where-not None whole = refl

pub some-where : {X : Type 0} (o : Option X) → ((true ≡ true) ↔ IsSome o) → IsNone o → ⊥
some-where o whole none = let some = whole.0 refl in cc

-- a range that has no place doesn't lie whole in the window, and one that has a place does
pub not-whole : (bytes : List ℕ) (at len : ℕ) → ((false ≡ true) ↔ IsSome (bytes_at (private_window bytes) at len)) → IsNone (bytes_at (private_window bytes) at len)
not-whole bytes at len whole = none-where-not (bytes_at (private_window bytes) at len) whole

pub is-whole : (bytes : List ℕ) (at len : ℕ) → ((true ≡ true) ↔ IsSome (bytes_at (private_window bytes) at len)) → IsNone (bytes_at (private_window bytes) at len) → ⊥
is-whole bytes at len whole none = some-where (bytes_at (private_window bytes) at len) whole none

pub whole-where-ok : {T X : Type 0} (r : Result T StoreError) (o : Option X) → ((r ≡ Err error.BadAddress) ↔ IsNone o) → OnOk r (IsSome o)
whole-where-ok (Err e) o bad = tt
whole-where-ok (Ok x) (Some y) bad = refl
whole-where-ok (Ok x) None bad = absurd (ok-not-err x error.BadAddress (bad.1 refl))

pub place-behind : (at start place : ℕ) → at ≡ start + place → place ≡ at - start
place-behind at start place lies = omega arith
