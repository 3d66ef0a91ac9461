-- Operands that are numbers, one after the other.
use Rattle.std.proofs.Common.{◌≡◌, ◌++◌, ℕ, List, [], ◌∷◌, Option, Some, None, true, false, option_map, option_and_then, refl, ap, subst, sym, ◌∙◌, map, append_assoc, append-nil, ◌<◌, ◌&&◌, arith, length, suc, ℤ, pos, unsigned_abs, IfSome, IfNone, IsSome}
use Rattle.std.specs.List.{list_all}
use Rattle.std.proofs.lemmas.Bool.Decides.{nat_tests}
use Rattle.std.proofs.lemmas.Bool.{and_parts}
use Rattle.asm_text.specs.Numbers.{number_of}
use Rattle.guest_asm.specs.Meanings.{is_byte}
use Rattle.asm_text.specs.Statements.{numbers_of}

-- a list of numbers that has a first
pub record Front (text : List ℕ) (texts : List (List ℕ)) (numbers : List ℤ) : Type 0 where
  pub first : ℤ
  pub rest : List ℤ
  pub is_first : number_of text ≡ Some first
  pub is_rest : numbers_of texts ≡ Some rest
  pub whole : numbers ≡ first ∷ rest

pub front : (text : List ℕ) (texts : List (List ℕ)) (numbers : List ℤ) → numbers_of (text ∷ texts) ≡ Some numbers → Front text texts numbers
front text texts numbers e =
    elim (number_of text) as (λ o. number_of text ≡ o → option_and_then (λ n. option_map (λ ns. n ∷ ns) (numbers_of texts)) o ≡ Some numbers → Front text texts numbers) [
      | None ↦ λ _ e. cc
      | Some n ↦ λ f e.
          elim (numbers_of texts) as (λ o. numbers_of texts ≡ o → option_map (λ ns. n ∷ ns) o ≡ Some numbers → Front text texts numbers) [
            | None ↦ λ _ e. cc
            | Some ns ↦ λ r e. record { first = n; rest = ns; is_first = f; is_rest = r; whole = cc }
          ] refl e
    ] refl e

-- of the numbers these are left, and those that are gone are bytes
pub record BytesLeft (numbers : List ℤ) (texts : List (List ℕ)) : Type 0 where
  pub rest : List ℤ
  pub is_rest : numbers_of texts ≡ Some rest
  pub same : list_all is_byte numbers ≡ list_all is_byte rest

-- of the numbers these are left, and those that are gone stand behind the bytes
pub record BytesPushed (old new : List ℕ) (numbers : List ℤ) (texts : List (List ℕ)) : Type 0 where
  pub rest : List ℤ
  pub is_rest : numbers_of texts ≡ Some rest
  pub whole : new ++ map unsigned_abs rest ≡ old ++ map unsigned_abs numbers

pub byte_is : (b : ℕ) → b < 256 → is_byte (pos b) ≡ true
byte_is b h = grind (arith, nat_tests)

pub bytes_left_more : (text : List ℕ) (texts : List (List ℕ)) (numbers : List ℤ) (b : ℕ) → b < 256 → number_of text ≡ Some (pos b) →
    BytesLeft numbers (text ∷ texts) → BytesLeft numbers texts
bytes_left_more text texts numbers b h e left = grind (arith, front text texts left.rest left.is_rest, byte_is b h)

pub bytes_left_stop : (text : List ℕ) (texts : List (List ℕ)) (numbers : List ℤ) → ((n : ℤ) → number_of text ≡ Some n → is_byte n ≡ false) →
    BytesLeft numbers (text ∷ texts) → false ≡ list_all is_byte numbers
bytes_left_stop text texts numbers none left = grind (arith, front text texts left.rest left.is_rest)

pub bytes_left_end : (numbers : List ℤ) → BytesLeft numbers [] → true ≡ list_all is_byte numbers
bytes_left_end numbers left = cc

-- the same, for what an iteration knows
pub bytes_pushed_more : (old new pushed text : List ℕ) (texts : List (List ℕ)) (numbers : List ℤ) (b : ℕ) → number_of text ≡ Some (pos b) → pushed ≡ new ++ b ∷ [] →
    BytesPushed old new numbers (text ∷ texts) → BytesPushed old pushed numbers texts
bytes_pushed_more old new pushed text texts numbers b e p so_far = grind (arith, append_assoc new (b ∷ []) (map unsigned_abs (front text texts so_far.rest so_far.is_rest).rest))

pub bytes_pushed_end : (old new : List ℕ) (numbers : List ℤ) → BytesPushed old new numbers [] → new ≡ old ++ map unsigned_abs numbers
bytes_pushed_end old new numbers so_far = cc (append-nil new)

-- the operands that are left spell bytes
abbrev pub AreBytesLeft : List (List ℕ) → Type 0
AreBytesLeft texts = (numbers : List ℤ) × (numbers_of texts ≡ Some numbers) × (list_all is_byte numbers ≡ true)

pub are_bytes_first : (text : List ℕ) (texts : List (List ℕ)) → AreBytesLeft (text ∷ texts) → (n : ℤ) × (number_of text ≡ Some n) × (is_byte n ≡ true)
are_bytes_first text texts left =
    let f = front text texts left.0 left.1 in
    let all : (is_byte f.first && list_all is_byte f.rest) ≡ true = rw f.whole at left.2 in
    (f.first, f.is_first, (and_parts (is_byte f.first) (list_all is_byte f.rest) all).0)

pub are_bytes_rest : (text : List ℕ) (texts : List (List ℕ)) → AreBytesLeft (text ∷ texts) → AreBytesLeft texts
are_bytes_rest text texts left = grind (arith, front text texts left.0 left.1)

pub some_byte : (text : List ℕ) (texts : List (List ℕ)) (o : Option ℕ) → IfNone o ((n : ℤ) → number_of text ≡ Some n → is_byte n ≡ false) → AreBytesLeft (text ∷ texts) → IsSome o
some_byte text texts (Some b) none left = refl
some_byte text texts None none left = grind (arith, nat_tests, are_bytes_first text texts left)

pub told_byte : (text : List ℕ) (o : Option ℕ) (b : ℕ) → o ≡ Some b → IfSome o (λ byte. number_of text ≡ Some (pos byte)) → number_of text ≡ Some (pos b)
told_byte text o b e told = subst (λ (o : Option ℕ). IfSome o (λ byte. number_of text ≡ Some (pos byte))) e told

pub length_numbers : (texts : List (List ℕ)) (numbers : List ℤ) → numbers_of texts ≡ Some numbers → length texts ≡ length numbers
length_numbers [] numbers e = let none : numbers ≡ [] = cc in ap length (sym none)
length_numbers (text ∷ texts) numbers e =
    let f = front text texts numbers e in
    ap suc (length_numbers texts f.rest f.is_rest) ∙ ap length (sym f.whole)
