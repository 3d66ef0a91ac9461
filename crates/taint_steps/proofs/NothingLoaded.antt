-- Where nothing is loaded, no byte has a number.
use Rattle.std.proofs.Common.{◌≡◌, ℕ, zero, suc, List, [], ◌∷◌, slice_index, Option, None, Some, refl, sym, subst, arith}
use Rattle.taint_members.specs.Access.{AreFirst, Memories, number_at}
use Rattle.taint_members.specs.declared.member.MemberSets.{MemberSets}
use Rattle.taint_steps.specs.Taking.{IsRead, no_bytes}

abbrev pub nothing : List ℕ
nothing = 0 ∷ 0 ∷ 0 ∷ 0 ∷ 0 ∷ 0 ∷ 0 ∷ 0 ∷ []

pub all-zero : (k : ℕ) → slice_index nothing k ≡ 0
all-zero zero = refl
all-zero (suc zero) = refl
all-zero (suc (suc zero)) = refl
all-zero (suc (suc (suc zero))) = refl
all-zero (suc (suc (suc (suc zero)))) = refl
all-zero (suc (suc (suc (suc (suc zero))))) = refl
all-zero (suc (suc (suc (suc (suc (suc zero)))))) = refl
all-zero (suc (suc (suc (suc (suc (suc (suc zero))))))) = refl
all-zero (suc (suc (suc (suc (suc (suc (suc (suc k)))))))) = refl

pub first-none : (number : ℕ → ℕ) → AreFirst 0 number nothing
first-none number = record { len = refl; bytes = λ k below. absurd (omega arith); zeros = λ k above. all-zero k }

pub read-none : (at : Option ℕ) (len : ℕ) (m : MemberSets) (memories : Memories) → len ≡ 0 → IsRead at len m memories nothing
read-none None len m memories e = first-none no_bytes
read-none (Some at) len m memories e = subst (λ n. AreFirst n (number_at m memories at) nothing) (sym e) (first-none (number_at m memories at))
