-- What a statement says by its last byte.
use Rattle.std.proofs.Common.{◌≡◌, ℕ, ◌==◌, ◌&&◌, true, false, List, [], ◌∷◌, ◌++◌, length, drop, reverse, Some, refl, ap, ◌∙◌}
use Rattle.std.proofs.lemmas.List.{reverse-append, reverse-reverse}
use Rattle.asm_text.specs.declared.form.Form.{Form}
use Rattle.asm_text.specs.Characters.{before, is_blank, skip_blanks}
use Rattle.asm_text.specs.Names.{is_label}
use Rattle.asm_text.specs.Statements.{Label, Says, Statement, defined, form_of, formed, operands, reading, worded}

reading_by_end : (text back : List ℕ) (c : ℕ) → reverse text ≡ c ∷ back → reading text ≡ defined (c ∷ back) text
reading_by_end [] back c e = cc e
reading_by_end (x ∷ text) back c e = ap (λ r. defined r (x ∷ text)) e

by_end : (front : List ℕ) (c : ℕ) → reading (front ++ c ∷ []) ≡ defined (c ∷ reverse front) (front ++ c ∷ [])
by_end front c = reading_by_end (front ++ c ∷ []) (reverse front) c (reverse-append front (c ∷ []))

-- a label with a colon behind it
pub reading-labelled : (name : List ℕ) → is_label name ≡ true → reading (name ++ 58 ∷ []) ≡ Says (Label name)
reading-labelled name valid = by_end name 58 ∙ rw (reverse-reverse name, valid) refl

-- what ends otherwise begins with a word
pub reading-worded : (text front : List ℕ) (c : ℕ) → text ≡ front ++ c ∷ [] → ((c == 58) && is_label front) ≡ false → reading text ≡ worded text
reading-worded text front c e other =
    let ended : reading text ≡ defined (c ∷ reverse front) text = rw e (by_end front c) in
    ended ∙ rw (reverse-reverse front, other) refl

-- what a word says with its operands
pub reading-formed : (text : List ℕ) (f : Form) (s : Statement) → form_of (before is_blank text) ≡ Some f
    → formed f (operands (skip_blanks (drop (length (before is_blank text)) text))) ≡ Some s → worded text ≡ Says s
reading-formed text f s known said = rw (known, said) refl
