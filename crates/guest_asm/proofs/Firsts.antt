-- The first kind of faults that are told one after the other.
use Rattle.std.proofs.Common.{◌≡◌, ◌++◌, ℕ, List, [], ◌∷◌, Option, Some, None, Bool, true, false, nat_le, if◌then◌else◌, refl, ap, sym, ◌∙◌, arith}
use Rattle.std.proofs.lemmas.Bool.Decides.{nat_tests}
use Rattle.guest_asm.specs.Assembled.{first_kind, rank}
use Rattle.guest_asm.specs.First.{either, first_of}
use Rattle.asm_text.specs.declared.fault.AsmKind.{AsmKind}

-- which of three ranked things is first
first_by_rank : (x y z : AsmKind) (a b c : ℕ) → (ab ac bc : Bool) → ab ≡ nat_le a b → ac ≡ nat_le a c → bc ≡ nat_le b c →
    (if (if ab then ac else bc) then (if ab then x else y) else z) ≡ (if (if bc then ab else ac) then x else (if bc then y else z))
first_by_rank x y z a b c ab ac bc h1 h2 h3 = grind (arith, nat_tests)

rank_first : (a b c : AsmKind) → nat_le (rank (first_kind a b)) (rank c) ≡ (if nat_le (rank a) (rank b) then nat_le (rank a) (rank c) else nat_le (rank b) (rank c))
rank_first a b c = elim (nat_le (rank a) (rank b)) as (λ t. nat_le (rank (if t then a else b)) (rank c) ≡ (if t then nat_le (rank a) (rank c) else nat_le (rank b) (rank c))) [ true ↦ refl | false ↦ refl ]

rank_second : (a b c : AsmKind) → nat_le (rank a) (rank (first_kind b c)) ≡ (if nat_le (rank b) (rank c) then nat_le (rank a) (rank b) else nat_le (rank a) (rank c))
rank_second a b c = elim (nat_le (rank b) (rank c)) as (λ t. nat_le (rank a) (rank (if t then b else c)) ≡ (if t then nat_le (rank a) (rank b) else nat_le (rank a) (rank c))) [ true ↦ refl | false ↦ refl ]

pub first_assoc : (a b c : AsmKind) → first_kind (first_kind a b) c ≡ first_kind a (first_kind b c)
first_assoc a b c = grind (arith, nat_tests, rank_first, first_by_rank, rank_second)

pub either_assoc : (a b c : Option AsmKind) → either (either a b) c ≡ either a (either b c)
either_assoc None b c = refl
either_assoc (Some a) None c = refl
either_assoc (Some a) (Some b) None = refl
either_assoc (Some a) (Some b) (Some c) = ap Some (first_assoc a b c)

pub first_of_append : (xs ys : List AsmKind) → first_of (xs ++ ys) ≡ either (first_of xs) (first_of ys)
first_of_append [] ys = refl
first_of_append (x ∷ xs) ys = ap (either (Some x)) (first_of_append xs ys) ∙ sym (either_assoc (Some x) (first_of xs) (first_of ys))

-- faults are none where there is no first
pub no_first : (xs : List AsmKind) → first_of xs ≡ None → xs ≡ []
no_first [] e = refl
no_first (x ∷ xs) e = grind (arith, nat_tests)
