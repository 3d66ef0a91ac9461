-- Texts that are cut into parts.
use Rattle.std.proofs.Common.{◌≡◌, ◌≢◌, ℕ, ◌<◌, ◌==◌, Bool, true, false, cond, List, [], ◌∷◌, ◌++◌, length, take, map, refl, sym, ap, ◌∙◌, arith, eq-eqb, ne_eqb, length-append, All}
use Rattle.std.proofs.lemmas.List.Elements.{All-head, All-tail}
use Rattle.asm_text.specs.Characters.{before, onto_first, parts, trimmed}
use Rattle.asm_text.specs.Pieces.{IsCut}
use Rattle.asm_text.specs.Statements.{operands}

-- what stands in front of the first such byte begins the text
pub take-before : (stops : ℕ → Bool) (text : List ℕ) → take (length (before stops text)) text ≡ before stops text
take-before stops [] = refl
take-before stops (c ∷ text) =
    elim (stops c) as (λ b. take (length (cond b [] (c ∷ before stops text))) (c ∷ text) ≡ cond b [] (c ∷ before stops text)) [
      | true ↦ refl
      | false ↦ ap (λ xs. c ∷ xs) (take-before stops text)
    ]

parts-at : (separator : ℕ) (first rest : List ℕ) → All (λ c. c ≢ separator) first
    → parts separator (first ++ separator ∷ rest) ≡ first ∷ parts separator rest
parts-at separator [] rest clear =
    let here : (separator == separator) ≡ true = eq-eqb separator separator refl in
    rw here refl
parts-at separator (c ∷ first) rest clear =
    let other : (c == separator) ≡ false = ne_eqb c separator (All-head (λ d. d ≢ separator) c first clear) in
    rw (other, parts-at separator first rest (All-tail (λ d. d ≢ separator) c first clear)) refl

-- the parts of a text that is cut
pub parts-cut : (separator : ℕ) (text first rest : List ℕ) → IsCut separator text first rest
    → parts separator text ≡ first ∷ parts separator rest
parts-cut separator text first rest cut = rw cut.is_text (parts-at separator first rest cut.no_separator)

-- a text without separators is one part
pub parts-whole : (separator : ℕ) (text : List ℕ) → All (λ c. c ≢ separator) text → parts separator text ≡ text ∷ []
parts-whole separator [] clear = refl
parts-whole separator (c ∷ text) clear =
    let other : (c == separator) ≡ false = ne_eqb c separator (All-head (λ d. d ≢ separator) c text clear) in
    rw (other, parts-whole separator text (All-tail (λ d. d ≢ separator) c text clear)) refl

-- a text has some part
pub parts-some : (separator : ℕ) (text : List ℕ)
    → (first : List ℕ) × (others : List (List ℕ)) × (parts separator text ≡ first ∷ others)
parts-some separator [] = ([], [], refl)
parts-some separator (c ∷ text) =
    elim (c == separator) as (λ b. (first : List ℕ) × (others : List (List ℕ)) × (cond b ([] ∷ parts separator text) (onto_first c (parts separator text)) ≡ first ∷ others)) [
      | true ↦ ([], parts separator text, refl)
      | false ↦
          let some = parts-some separator text in
          (c ∷ some.0, some.1, ap (onto_first c) some.2)
    ]

-- the rest of a text that is cut is shorter
pub shorter : (separator : ℕ) (text first rest : List ℕ) → IsCut separator text first rest → length rest < length text
shorter separator text first rest cut =
    rw cut.is_text (simp length-append (omega arith))

-- the parts of a text that has some byte are its operands
pub operands-parts : (text : List ℕ) → 0 < length text → operands text ≡ map trimmed (parts 44 text)
operands-parts [] some = absurd (omega arith)
operands-parts (c ∷ text) some = refl

-- two operands are two parts
pub two_parts : (texts : List (List ℕ)) (a b : List ℕ) → map trimmed texts ≡ a ∷ b ∷ []
    → (first : List ℕ) × (second : List ℕ) × (texts ≡ first ∷ second ∷ [])
two_parts (x ∷ y ∷ []) a b e = (x, y, refl)
two_parts _ a b e = cc e

pub two_operands : (text a b : List ℕ) → operands text ≡ a ∷ b ∷ [] → map trimmed (parts 44 text) ≡ a ∷ b ∷ []
two_operands [] a b e = cc e
two_operands (c ∷ text) a b e = e

pub operands-two : (text a b : List ℕ) → map trimmed (parts 44 text) ≡ a ∷ b ∷ [] → operands text ≡ a ∷ b ∷ []
operands-two [] a b e = cc e
operands-two (c ∷ text) a b e = e

-- a text that is cut has operands
pub operands-cut : (text first rest : List ℕ) → IsCut 44 text first rest
    → operands text ≡ trimmed first ∷ map trimmed (parts 44 rest)
operands-cut text first rest cut =
    operands-parts text (some text) ∙ ap (map trimmed) (parts-cut 44 text first rest cut)
  where
    some : (all : List ℕ) → 0 < length text
    some all = omega (arith, shorter 44 text first rest cut)

-- one that isn't cut has one at most
pub operands-whole : (text a b : List ℕ) (others : List (List ℕ)) → All (λ c. c ≢ 44) text → operands text ≢ a ∷ b ∷ others
operands-whole [] a b others clear e = cc e
operands-whole (c ∷ text) a b others clear e =
    cc (ap (map trimmed) (parts-whole 44 (c ∷ text) clear), e)

-- one part, or three, are not two
pub whole_is_not_two : (separator : ℕ) (text a b : List ℕ) → All (λ c. c ≢ separator) text → parts separator text ≢ a ∷ b ∷ []
whole_is_not_two separator text a b clear e = cc (sym (parts-whole separator text clear) ∙ e)

pub more_is_not_two : (separator : ℕ) (text first second third rest a b : List ℕ) → IsCut separator text first second
    → IsCut separator second third rest → parts separator text ≢ a ∷ b ∷ []
more_is_not_two separator text first second third rest a b cut again e =
    let some = parts-some separator rest in
    let three : parts separator text ≡ first ∷ third ∷ some.0 ∷ some.1 =
    parts-cut separator text first second cut ∙ ap (λ ps. first ∷ ps) (parts-cut separator second third rest again ∙ ap (λ ps. third ∷ ps) some.2) in
    cc (sym three ∙ e)

pub no_two_parts : (text a b : List ℕ) → ((x y : List ℕ) → parts 44 text ≢ x ∷ y ∷ []) → operands text ≢ a ∷ b ∷ []
no_two_parts text a b none e =
    let two = two_parts (parts 44 text) a b (two_operands text a b e) in
    none two.0 two.1 two.2

-- a text without a comma has one operand
pub operands-one : (text : List ℕ) → 0 < length text → All (λ c. c ≢ 44) text → operands text ≡ trimmed text ∷ []
operands-one text some clear = operands-parts text some ∙ ap (map trimmed) (parts-whole 44 text clear)

pub cut_is_not_one : (text first rest a : List ℕ) → IsCut 44 text first rest → operands text ≢ a ∷ []
cut_is_not_one text first rest a cut e =
    let some = parts-some 44 rest in
    let two : operands text ≡ trimmed first ∷ trimmed some.0 ∷ map trimmed some.1 =
    operands-cut text first rest cut ∙ ap (λ ps. trimmed first ∷ map trimmed ps) some.2 in
    cc (sym two ∙ e)

-- three operands are one and two
pub operands-three : (text first rest second third : List ℕ) → IsCut 44 text first rest → operands rest ≡ second ∷ third ∷ []
    → operands text ≡ trimmed first ∷ second ∷ third ∷ []
operands-three text first rest second third cut e =
    operands-cut text first rest cut ∙ ap (λ os. trimmed first ∷ os) (two_operands rest second third e)

pub no_three_operands : (text first rest a b c : List ℕ) → IsCut 44 text first rest
    → ((x y : List ℕ) → operands rest ≢ x ∷ y ∷ []) → operands text ≢ a ∷ b ∷ c ∷ []
no_three_operands text first rest a b c cut none e =
    let both : trimmed first ∷ map trimmed (parts 44 rest) ≡ a ∷ b ∷ c ∷ [] = sym (operands-cut text first rest cut) ∙ e in
    let tail : map trimmed (parts 44 rest) ≡ b ∷ c ∷ [] = cc both in
    none b c (operands-two rest b c tail)

-- a text that isn't empty has some byte
pub some_byte : (text : List ℕ) (empty : Bool) → empty ≡ (length text == 0) → empty ≡ false → 0 < length text
some_byte [] empty e not_empty = cc (sym e ∙ not_empty)
some_byte (c ∷ text) empty e not_empty = omega arith
