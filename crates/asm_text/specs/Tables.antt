-- The rows of tables.
use Rattle.std.specs.Prelude.{ℕ, List, Option, option_map, bytes_eq}
use Rattle.std.specs.List.{find}
use denote.Ref.{Bor}
use Rattle.asm_text.specs.declared.form.Form.{Form}
use Rattle.asm_text.specs.Names.{Named}
use Rattle.asm_text.specs.Statements.{Word, word}

-- a row of the registers' table
abbrev pub named : Bor (List ℕ) × ℕ → Named
named row = record { name = row.0.now; number = row.1 }

-- a row of the words' table
abbrev pub worded : Bor (List ℕ) × Form → Word
worded row = word row.0.now row.1

-- the form of the first of these words that a text is
abbrev pub form_by : List Word → List ℕ → Option Form
form_by all text = option_map (λ w. w.form) (find (λ w. bytes_eq w.word text) all)
