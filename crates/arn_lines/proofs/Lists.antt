-- Numbers behind one another.
use Rattle.std.proofs.Common.{◌≡◌, ℕ, List, [], ◌∷◌, ◌++◌, length, sym, ap, subst, arith}
use Rattle.std.proofs.lemmas.List.{append_cancel_left}
use Rattle.arn_lines.specs.Pieces.{IsFirstWord}
use Rattle.arn_lines.specs.Questions.{AreNumbers, IsKeyed, IsNumberAnd}
use Rattle.arn_lines.specs.Words.{IsNumber, space}
use Rattle.arn_lines.proofs.FirstWords.{IsFirstWord-same, no_space-IsNumber}
use Rattle.arn_lines.proofs.Numbers.{IsNumber-same}

-- the first word is the number
pub IsNumberAnd-word : (text word rest behind : List ℕ) (n : ℕ) → IsFirstWord text word rest → IsNumberAnd text n behind
    → IsNumber word n × (behind ≡ rest)
IsNumberAnd-word text word rest behind n first lead =
    let same = IsFirstWord-same text word rest lead.number behind first (no_space-IsNumber lead.number n lead.is_number) lead.is_text in
    (rw same.0 at lead.is_number, same.1)

-- a text begins with one number
pub IsNumberAnd-same : (text : List ℕ) (m n : ℕ) (rest behind : List ℕ) → IsNumberAnd text m rest → IsNumberAnd text n behind
    → (m ≡ n) × (behind ≡ rest)
IsNumberAnd-same text m n rest behind a b =
    let first : IsFirstWord text a.number rest = record { is_text = a.is_text; no_space = no_space-IsNumber a.number m a.is_number } in
    let word = IsNumberAnd-word text a.number rest behind n first b in
    (IsNumber-same a.number m n a.is_number word.0, word.1)

-- behind the first number stand the others
pub AreNumbers-rest : (text rest : List ℕ) (n a b : ℕ) (more : List ℕ) → IsNumberAnd text n rest → AreNumbers text (a ∷ b ∷ more)
    → AreNumbers rest (b ∷ more)
AreNumbers-rest text rest n a b more lead are =
    let same = IsNumberAnd-same text n a rest are.0 lead are.1 in
    subst (λ xs. AreNumbers xs (b ∷ more)) same.1 are.2

-- a text says as many numbers one way
pub AreNumbers-same : (text xs ys : List ℕ) → length xs ≡ length ys → AreNumbers text xs → AreNumbers text ys → xs ≡ ys
AreNumbers-same text [] ys e a b = absurd a
AreNumbers-same text (x ∷ []) (y ∷ []) e a b = ap (λ n. n ∷ []) (IsNumber-same text x y a b)
AreNumbers-same text (x ∷ []) (y ∷ z ∷ ys) e a b = absurd (omega arith)
AreNumbers-same text (x ∷ w ∷ xs) (y ∷ []) e a b = absurd (omega arith)
AreNumbers-same text (x ∷ w ∷ xs) (y ∷ z ∷ ys) e a b =
    cc ((IsNumberAnd-same text x y a.0 b.0 a.1 b.1).0, AreNumbers-same a.0 (w ∷ xs) (z ∷ ys) (omega arith) a.2 (AreNumbers-rest text a.0 x y z ys a.1 b))
AreNumbers-same text _ [] e a b = absurd b

-- behind a keyword stand its numbers
pub IsKeyed-numbers : (keyword rest values : List ℕ) → IsKeyed (keyword ++ space ++ rest) keyword values → AreNumbers rest values
IsKeyed-numbers keyword rest values keyed =
    let same = append_cancel_left (keyword ++ space) rest keyed.numbers keyed.is_text in
    subst (λ xs. AreNumbers xs values) (sym same) keyed.are_numbers

pub IsKeyed-same : (text keyword xs ys : List ℕ) → length xs ≡ length ys → IsKeyed text keyword xs → IsKeyed text keyword ys → xs ≡ ys
IsKeyed-same text keyword xs ys e a b =
    AreNumbers-same a.numbers xs ys e a.are_numbers (IsKeyed-numbers keyword a.numbers ys (subst (λ t. IsKeyed t keyword ys) a.is_text b))
