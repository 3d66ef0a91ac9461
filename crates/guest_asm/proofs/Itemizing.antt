-- The statements of a line, one behind the other.
use Rattle.std.proofs.lemmas.Bool.Decides.{nat_tests}
use Rattle.std.proofs.Common.{◌≡◌, ◌++◌, ℕ, List, [], ◌∷◌, map, append_assoc, arith}
use Rattle.asm_text.specs.Characters.{trimmed}
use Rattle.asm_text.specs.Statements.{reading}
use Rattle.guest_asm.specs.Assembled.{Item}

-- a text of a line, as it is read
abbrev pub item_on : ℕ → List ℕ → Item
item_on line text = record { line = line; reading = reading text }

-- one more part of a line
pub item_more : (line : ℕ) (part text : List ℕ) (parts rest : List (List ℕ)) (so_far all : List Item) → parts ≡ part ∷ rest → text ≡ trimmed part →
    so_far ++ map (item_on line) (map trimmed parts) ≡ all → (so_far ++ item_on line text ∷ []) ++ map (item_on line) (map trimmed rest) ≡ all
item_more line part text parts rest so_far all h1 h2 h3 = grind (arith, nat_tests, append_assoc)
