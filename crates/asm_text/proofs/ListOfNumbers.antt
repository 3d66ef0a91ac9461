-- Numbers, one behind another.
use Rattle.std.proofs.Common.{◌≡◌, ℕ, Bool, true, false, List, [], ◌∷◌, map, Option, Some, None, is_some, ℤ, refl, ap, ◌∙◌, option_map, option_and_then, All, ◌≢◌}
use Rattle.asm_text.specs.Characters.{parts, trimmed}
use Rattle.asm_text.specs.Numbers.{number_of}
use Rattle.asm_text.specs.Pieces.{IsCut}
use Rattle.asm_text.specs.Statements.{numbers_of}
use Rattle.asm_text.proofs.Cuts.{parts-cut, parts-whole}

joined : (first : Option ℤ) (others : Option (List ℤ)) → is_some first ≡ true
    → is_some (option_and_then (λ n. option_map (λ ns. n ∷ ns) others) first) ≡ is_some others
joined None others e = cc e
joined (Some n) None e = refl
joined (Some n) (Some ns) e = refl

broken : (first : Option ℤ) (others : Option (List ℤ)) → is_some first ≡ false
    → is_some (option_and_then (λ n. option_map (λ ns. n ∷ ns) others) first) ≡ false
broken None others e = refl
broken (Some n) others e = cc e

alone : (first : Option ℤ) → is_some (option_and_then (λ n. option_map (λ ns. n ∷ ns) (Some [])) first) ≡ is_some first
alone None = refl
alone (Some n) = refl

-- whether each part of a text is a number
abbrev pub all_numbers : List ℕ → Bool
all_numbers text = is_some (numbers_of (map trimmed (parts 44 text)))

pub all_numbers-cut : (text first rest : List ℕ) → IsCut 44 text first rest → is_some (number_of (trimmed first)) ≡ true
    → all_numbers text ≡ all_numbers rest
all_numbers-cut text first rest cut e =
    ap (λ ps. is_some (numbers_of (map trimmed ps))) (parts-cut 44 text first rest cut)
    ∙ joined (number_of (trimmed first)) (numbers_of (map trimmed (parts 44 rest))) e

pub all_numbers-stop : (text first rest : List ℕ) → IsCut 44 text first rest → is_some (number_of (trimmed first)) ≡ false
    → all_numbers text ≡ false
all_numbers-stop text first rest cut e =
    ap (λ ps. is_some (numbers_of (map trimmed ps))) (parts-cut 44 text first rest cut)
    ∙ broken (number_of (trimmed first)) (numbers_of (map trimmed (parts 44 rest))) e

pub all_numbers-whole : (text : List ℕ) → All (λ c. c ≢ 44) text → all_numbers text ≡ is_some (number_of (trimmed text))
all_numbers-whole text clear =
    ap (λ ps. is_some (numbers_of (map trimmed ps))) (parts-whole 44 text clear) ∙ alone (number_of (trimmed text))
