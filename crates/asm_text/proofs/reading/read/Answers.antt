use Rattle.std.proofs.Common.{◌≡◌, ◌≢◌, ◌==◌, ◌&&◌, ◌++◌, ◌∙◌, ℕ, Bool, true, false, [], ◌∷◌, ap, refl, sym, ne_eqb}
use Rattle.std.proofs.lemmas.Bool.{and_right}
use Rattle.asm_text.specs.Names.{is_label}
use Rattle.asm_text.specs.Statements.{Label, reading}
use Rattle.asm_text.proofs.Readings.{reading-labelled, reading-worded}
use Rattle.asm_text.proofs.reading.read.Goals.{else-last-eq58-via-then-last-eq58+else-is_label, else-last-eq58-via-else-last-eq58}
use Rattle.asm_text.proofs.reading.read.Goals as goal

-- the last byte is no colon, or stands behind no label
other-byte : (c : ℕ) (valid : Bool) → c ≢ 58 → ((c == 58) && valid) ≡ false
other-byte c valid other = rw (ne_eqb c 58 other) refl

pub returns-then-is_label : goal.returns-then-is_label
returns-then-is_label c =
    let name = c.in-Some.name.now in
    let ends : c.args.text.now ≡ name ++ 58 ∷ [] = c.in-Some.ensures.cases.0 ∙ ap (λ (last : ℕ). name ++ last ∷ []) c.if-last-eq58.true in
    (Label name, refl, ap reading ends ∙ reading-labelled name (sym c.is_label.ensures ∙ c.if-is_label.true))

pub returns-else-last-eq58 : goal.returns-else-last-eq58
returns-else-last-eq58 c =
    let other : ((c.in-Some.last.now == 58) && is_label c.in-Some.name.now) ≡ false = elim c.else-last-eq58.branch [
      | else-last-eq58-via-then-last-eq58+else-is_label w ↦ and_right (c.in-Some.last.now == 58) (is_label c.in-Some.name.now) (sym w.is_label.ensures ∙ w.if-is_label.false)
      | else-last-eq58-via-else-last-eq58 w ↦ other-byte c.in-Some.last.now (is_label c.in-Some.name.now) w.if-last-eq58.false
    ] in
    rw (reading-worded c.args.text.now c.in-Some.name.now c.in-Some.last.now c.in-Some.ensures.cases.0 other) c.worded.ensures
