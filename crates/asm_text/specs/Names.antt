-- The names of registers and labels.
use Rattle.std.specs.Prelude.{ℕ, ◌+◌, ◌==◌, ◌&&◌, ◌||◌, not, nat_le, Bool, false, List, [], ◌∷◌, ◌++◌, length, map, Option, option_map, codes, decimal, bytes_eq}
use Rattle.std.specs.List.{find, list_all, range_with_len}
use Rattle.asm_text.specs.Characters.{is_digit, is_letter}

-- a name, and the number for which it stands
pub record Named : Type 0 where
  pub name : List ℕ
  pub number : ℕ

-- the number of the first of these names that a text is
abbrev pub number_by : List Named → List ℕ → Option ℕ
number_by names text = option_map (λ n. n.number) (find (λ n. bytes_eq n.name text) names)

-- names of a letter and a number, as a2, from a2 on for so many registers
abbrev pub numbered : List ℕ → ℕ → ℕ → ℕ → List Named
numbered letter from register count =
    map (λ k. record { name = letter ++ decimal (from + k); number = register + k }) (range_with_len 0 count)

-- the registers: x0 to x31, and their names in the calling convention
abbrev pub register_names : List Named
register_names =
    numbered (codes "x") 0 0 32
    ++ record { name = codes "zero"; number = 0 }
    ∷ record { name = codes "ra"; number = 1 }
    ∷ record { name = codes "sp"; number = 2 }
    ∷ record { name = codes "gp"; number = 3 }
    ∷ record { name = codes "tp"; number = 4 }
    ∷ record { name = codes "fp"; number = 8 }
    ∷ numbered (codes "t") 0 5 3
    ++ numbered (codes "s") 0 8 2
    ++ numbered (codes "a") 0 10 8
    ++ numbered (codes "s") 2 18 10
    ++ numbered (codes "t") 3 28 4

-- the register that a text names
abbrev pub register_of : List ℕ → Option ℕ
register_of text = number_by register_names text

-- a byte of a label
abbrev pub is_label_byte : ℕ → Bool
is_label_byte c = is_letter c || (is_digit c || (c == 95))

abbrev pub begins_with_digit : List ℕ → Bool
begins_with_digit [] = false
begins_with_digit (c ∷ text) = is_digit c

-- a label: 1 to 32 letters, digits and `_`, of which the first is no digit
abbrev pub is_label : List ℕ → Bool
is_label text = (nat_le 1 (length text) && nat_le (length text) 32) && (list_all is_label_byte text && not (begins_with_digit text))
