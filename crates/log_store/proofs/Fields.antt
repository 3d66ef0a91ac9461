-- Bytes that stand behind their length.
use Rattle.std.proofs.lemmas.Bool.Decides.{nat_tests}
use Rattle.std.proofs.Common.{◌≡◌, ◌≢◌, ℕ, ◌+◌, ◌<◌, ◌^◌, List, [], ◌∷◌, ◌++◌, length, drop, refl, ap, append_assoc, length-append, arith}
use Rattle.std.proofs.lemmas.List.{append_cancel_left}
use Rattle.byteorder.specs.Numbers.{length-bytes_low_first}
use Rattle.result_log.specs.Spelling.{field, counted, IsCounted}
use Rattle.log_store.specs.Refused.{HoldsPayload}

-- a record of two facts, since a pair's parts are not found by name
pub record Same {X Y : Type 0} (a b : X) (s t : Y) : Type 0 where
  pub front : a ≡ b
  pub back : s ≡ t

-- lists of one length stand in front of the same
pub append-same : (a b s t : List ℕ) → length a ≡ length b → a ++ s ≡ b ++ t → Same a b s t
append-same [] [] s t l e = record { front = refl; back = e }
append-same (x ∷ a) (y ∷ b) s t l e = grind (arith, nat_tests, append-same a b s t (omega arith) (ap (drop 1) e))
append-same _ _ s t l e = absurd (omega arith)

pub length-field : (n : ℕ) → length (field 4 n) ≡ 4
length-field n = length-bytes_low_first 0 4 n

-- the number of a field
pub field-number : (m n : ℕ) (s t : List ℕ) → m < 2 ^ 32 → n < 2 ^ 32 → field 4 m ++ s ≡ field 4 n ++ t → m ≡ n
field-number m n s t h1 h2 h3 = grind (arith, nat_tests)

-- one list of bytes stands behind its length
pub counted-same : (a b s t : List ℕ) → IsCounted a → IsCounted b → counted a ++ s ≡ counted b ++ t → Same a b s t
counted-same a b s t h1 h2 h3 = grind (arith, nat_tests, append_assoc, field-number, append_cancel_left, append-same)

pub length-counted : (a : List ℕ) → length (counted a) ≡ 4 + length a
length-counted a = omega (arith, length-append (field 4 (length a)) a, length-field (length a))

pub not_empty : (xs : List ℕ) → xs ≢ [] → 0 < length xs
not_empty [] h = absurd (h refl)
not_empty (x ∷ xs) h = omega arith

-- a payload and what stands behind it are as long as its length says, and longer
pub holds_more : (n : ℕ) (tail behind payload next : List ℕ) → n < 2 ^ 32 → behind ≡ field 4 n ++ tail → HoldsPayload behind payload next → n < length tail
holds_more n tail behind payload next h1 h2 h3 = grind (arith, nat_tests, append_assoc, field-number, append_cancel_left, length-append, not_empty)
