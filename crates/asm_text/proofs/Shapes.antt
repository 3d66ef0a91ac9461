-- Statements by their operands.
use Rattle.std.proofs.Common.{◌≡◌, ℕ, ◌<◌, true, List, [], ◌∷◌, map, Option, Some, None, is_some, ℤ, refl, ap, ◌∙◌, length, option_map}
use Rattle.asm_text.specs.Characters.{parts, trimmed}
use Rattle.asm_text.specs.Statements.{Bytes, Statement, listed, numbers_of, operands, with_third, with_two}
use Rattle.asm_text.proofs.Cuts.{operands-parts, parts-some}
use Rattle.asm_text.proofs.ListOfNumbers.{all_numbers}

pub third-none : {A : Type 0} (make : ℕ → ℕ → A → Statement) (third : List ℕ → Option A) (texts : List (List ℕ)) (a b c : List ℕ) (x : A)
    → texts ≡ a ∷ b ∷ c ∷ [] → third c ≡ Some x → ((m : ℕ → ℕ → Statement) → with_two m a b ≡ None)
    → with_third make third texts ≡ None
third-none make third texts a b c x e f none = rw (e, f) (none (λ r s. make r s x))

pub third-some : {A : Type 0} (make : ℕ → ℕ → A → Statement) (third : List ℕ → Option A) (texts : List (List ℕ)) (a b c : List ℕ) (x : A) (r s : ℕ)
    → texts ≡ a ∷ b ∷ c ∷ [] → third c ≡ Some x → ((m : ℕ → ℕ → Statement) → with_two m a b ≡ Some (m r s))
    → with_third make third texts ≡ Some (make r s x)
third-some make third texts a b c x r s e f some = rw (e, f) (some (λ p q. make p q x))

value : {A : Type 0} (o : Option A) → is_some o ≡ true → (x : A) × (o ≡ Some x)
value None e = cc e
value (Some x) e = (x, refl)

-- the numbers of a text that isn't empty
pub listed-is : (text : List ℕ) → 0 < length text → all_numbers text ≡ true
    → (numbers : List ℤ) × (numbers_of (operands text) ≡ Some numbers) × (listed (operands text) ≡ Some (Bytes numbers))
listed-is text some all =
    let same = operands-parts text some in
    let numbers = value (numbers_of (map trimmed (parts 44 text))) all in
    let has = parts-some 44 text in
    let all_read : numbers_of (operands text) ≡ Some numbers.0 = ap numbers_of same ∙ numbers.1 in
    (numbers.0, all_read, listed_some (operands text) (trimmed has.0) (map trimmed has.1) numbers.0 (same ∙ ap (map trimmed) has.2) all_read)
  where
    listed_some : (texts : List (List ℕ)) (first : List ℕ) (others : List (List ℕ)) (ns : List ℤ) → texts ≡ first ∷ others
        → numbers_of texts ≡ Some ns → listed texts ≡ Some (Bytes ns)
    listed_some [] first others ns e f = cc e
    listed_some (x ∷ texts) first others ns e f = ap (option_map Bytes) f
