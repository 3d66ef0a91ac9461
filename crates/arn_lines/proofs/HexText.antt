-- Bytes written in hex.
use Rattle.std.proofs.Common.{◌≡◌, ℕ, true, List, [], ◌∷◌, refl, nat_lt, IsAscii}
use Rattle.std.specs.List.{list_all}
use Rattle.std.proofs.lemmas.Bool.{and_parts, ltb-true}
use Rattle.std.proofs.lemmas.Str.Ascii.{IsAscii-cons, IsAscii-nil}
use Rattle.hex.specs.Hex.{encode_lower, lower_digits}
use Rattle.hex.proofs.HexLemmas.{IsAscii-encode_with}
use Rattle.arn_lines.specs.Printed.{IsPlain}

ascii_from_test : (xs : List ℕ) → list_all (λ c. nat_lt c 128) xs ≡ true → IsAscii xs
ascii_from_test [] test = IsAscii-nil
ascii_from_test (c ∷ xs) test =
    let parts = and_parts (nat_lt c 128) (list_all (λ d. nat_lt d 128) xs) test in
    IsAscii-cons c xs (ltb-true c 128 parts.0) (ascii_from_test xs parts.1)

IsAscii-lower_digits : IsAscii lower_digits
IsAscii-lower_digits = ascii_from_test lower_digits refl

pub hex_is_plain : (bytes : List ℕ) → IsPlain (encode_lower bytes)
hex_is_plain bytes = IsAscii-encode_with lower_digits bytes IsAscii-lower_digits 0
