-- Texts are parted as the library parts slices, at the first separator.
use Rattle.std.proofs.Common.{◌≡◌, ℕ, ◌+◌, ◌-◌, ◌<◌, ◌≤◌, ◌==◌, cond, List, [], ◌∷◌, Some, None, length, take, drop, refl, ap, ◌∙◌, arith, true, false, nat_lt}
use Rattle.std.specs.List.{position, slice_split, count_by}
use Rattle.std.specs.List as list
use Rattle.std.proofs.lemmas.Bool.Decides.{nat_tests}
use Rattle.std.proofs.lemmas.List.{length-drop, length-map, take_all}
use Rattle.std.proofs.lemmas.List.Splits.{slice_split_first, slice_split_none, length-slice_split}
use Rattle.std.proofs.lemmas.List.Sums.{count_by-le-length, fails_before_first}
use Rattle.asm_text.specs.Characters.{parts, onto_first, before, trimmed}
use Rattle.asm_text.specs.Statements.{operands}

onto_are : (c : ℕ) (ps : List (List ℕ)) → onto_first c ps ≡ list.onto_first c ps
onto_are c [] = refl
onto_are c (p ∷ ps) = refl

pub parts_are : (separator : ℕ) (text : List ℕ) → parts separator text ≡ slice_split (λ c. c == separator) text
parts_are separator text = grind (arith, nat_tests, onto_are)

found : (n m at : ℕ) → cond (nat_lt n m) (Some n) None ≡ Some at → (n < m) × (n ≡ at)
found n m at e = (grind (arith, nat_tests), grind (arith, nat_tests))

not_found : (n m : ℕ) → cond (nat_lt n m) (Some n) None ≡ None → m ≤ n
not_found n m e = grind (arith, nat_tests)

pub parts_at : (separator : ℕ) (text : List ℕ) (at : ℕ) → position (λ c. c == separator) text ≡ Some at →
    parts separator text ≡ take at text ∷ parts separator (take (length text - (at + 1)) (drop (at + 1) text))
parts_at separator text at h1 = grind (arith, nat_tests, found, take_all, length-drop, slice_split_first, parts_are)

pub parts_alone : (separator : ℕ) (text : List ℕ) → position (λ c. c == separator) text ≡ None → parts separator text ≡ text ∷ []
parts_alone separator text h1 = grind (arith, nat_tests, fails_before_first, not_found, parts_are, slice_split_none)

-- there are no more parts than bytes, and one
pub parts_few : (separator : ℕ) (text : List ℕ) → length (parts separator text) ≤ length text + 1
parts_few separator text =
    rw (parts_are separator text) (omega (arith, length-slice_split (λ c. c == separator) text, count_by-le-length (λ c. c == separator) text))

-- the operands of a text that isn't empty are one more than its commas
pub operands_count : (text : List ℕ) → 1 ≤ length text → length (operands text) ≡ count_by (λ c. c == 44) text + 1
operands_count [] h = absurd (omega arith)
operands_count (c ∷ text) h =
    length-map (parts 44 (c ∷ text)) trimmed ∙ ap length (parts_are 44 (c ∷ text)) ∙ length-slice_split (λ b. b == 44) (c ∷ text)

-- the first part ends where the separator stands
first_part : (separator : ℕ) (text : List ℕ) → (rest : List (List ℕ)) × (parts separator text ≡ before (λ c. c == separator) text ∷ rest)
first_part separator [] = ([], refl)
first_part separator (c ∷ text) =
    let ih = first_part separator text in
    elim (c == separator) as (λ b. (rest : List (List ℕ)) × (cond b ([] ∷ parts separator text) (onto_first c (parts separator text)) ≡ cond b [] (c ∷ before (λ c. c == separator) text) ∷ rest)) [
      | true ↦ (parts separator text, refl)
      | false ↦ (ih.0, ap (onto_first c) ih.1)
    ]

pub before_at : (stop : ℕ) (text : List ℕ) (at : ℕ) → position (λ c. c == stop) text ≡ Some at → take at text ≡ before (λ c. c == stop) text
before_at stop text at e =
    cc ((first_part stop text).1, parts_at stop text at e)

pub before_none : (stop : ℕ) (text : List ℕ) → position (λ c. c == stop) text ≡ None → text ≡ before (λ c. c == stop) text
before_none stop text e =
    cc ((first_part stop text).1, parts_alone stop text e)
