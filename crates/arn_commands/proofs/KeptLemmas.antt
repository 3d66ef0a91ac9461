-- What is kept of a line tells what the whole line does.
use Rattle.std.proofs.Common.{◌≡◌, ℕ, ◌<◌, ◌++◌, false, List, [], ◌∷◌, length, refl, sym, ap, subst, ◌∙◌, append-nil, arith, inl, inr, codes, length-append}
use Rattle.std.specs.Prelude.{◌⊎◌}
use Rattle.std.proofs.lemmas.Bool.{false_from_ne_true, lt-ltb}
use Rattle.std.proofs.lemmas.Slice.Eq.{bytes_eq-Decides}
use Rattle.arn_lines.specs.declared.line.TheConstants.{MOST_LINE}
use Rattle.arn_lines.specs.declared.line.LineReading.{LineReading}
use Rattle.arn_lines.specs.Grammar.{Reads}
use Rattle.arn_commands.specs.Commands.{no_statement, program_line}
use Rattle.arn_commands.specs.Lines.{line_feed}
use Rattle.arn_commands.specs.Parts.{is_end}
use Rattle.arn_commands.specs.Pieces.{IsKept}

-- all of a line is kept, or both are too long
kept_cases : (line kept : List ℕ) → IsKept line kept → (line ≡ kept) ⊎ ((MOST_LINE < length line) × (MOST_LINE < length kept))
kept_cases line kept k = elim k.enough [
  | inl none ↦ inl (k.is_line ∙ ap (λ (x : List ℕ). kept ++ x) none ∙ append-nil kept)
  | inr long ↦ inr (omega (arith, long, ap length k.is_line, length-append kept k.dropped), long)
]

-- a line that is too long doesn't end a block
is_end-long : (line : List ℕ) → MOST_LINE < length line → is_end line ≡ false
is_end-long line long =
    false_from_ne_true (is_end line) (λ e. let same : length line ≡ 3 = ap length ((bytes_eq-Decides line (codes "end")).0 e) in absurd (omega (arith, same, long)))

pub is_end-kept : (line kept : List ℕ) → IsKept line kept → is_end line ≡ is_end kept
is_end-kept line kept k = elim (kept_cases line kept k) [
  | inl same ↦ ap is_end same
  | inr long ↦ is_end-long line long.0 ∙ sym (is_end-long kept long.1)
]

-- a line that is too long stands in the program as any other such line does
program_line-long : (line : List ℕ) → MOST_LINE < length line → program_line line ≡ no_statement ++ line_feed ∷ []
program_line-long line long = rw (lt-ltb MOST_LINE (length line) long) refl

pub program_line-kept : (line kept : List ℕ) → IsKept line kept → program_line line ≡ program_line kept
program_line-kept line kept k = elim (kept_cases line kept k) [
  | inl same ↦ ap program_line same
  | inr long ↦ program_line-long line long.0 ∙ sym (program_line-long kept long.1)
]

-- nothing is kept of an empty line alone
pub kept-empty : (line kept : List ℕ) → IsKept line kept → kept ≡ [] → line ≡ []
kept-empty line kept k none = elim (kept_cases line kept k) [
  | inl same ↦ same ∙ none
  | inr long ↦ absurd (omega (arith, long.1, ap length none))
]

pub kept-nonempty : (line kept : List ℕ) → IsKept line kept → line ≡ [] → kept ≡ []
kept-nonempty line [] k e = refl
kept-nonempty line (byte ∷ kept) k e = absurd (omega (arith, ap length e, ap length k.is_line, length-append (byte ∷ kept) k.dropped))

-- the whole line reads as what is kept of it does
pub Reads-kept : (line kept : List ℕ) (reading : LineReading) → IsKept line kept → Reads kept reading
    → ((rest : List ℕ) → MOST_LINE < length kept → Reads (kept ++ rest) reading) → Reads line reading
Reads-kept line kept reading k short long = elim k.enough [
  | inl none ↦ subst (λ (text : List ℕ). Reads text reading) (sym (k.is_line ∙ ap (λ (x : List ℕ). kept ++ x) none ∙ append-nil kept)) short
  | inr above ↦ subst (λ (text : List ℕ). Reads text reading) (sym k.is_line) (long k.dropped above)
]
