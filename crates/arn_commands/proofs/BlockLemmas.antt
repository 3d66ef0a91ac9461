-- A block that grows line by line, and how it ends.
use Rattle.std.proofs.Common.{◌≡◌, ◌≢◌, ℕ, ◌+◌, ◌++◌, true, false, List, [], ◌∷◌, None, Some, length, refl, sym, ap, ◌∙◌, append_assoc, append-nil, arith, length-append}
use Rattle.std.specs.Prelude.{option_map, Option, nat_lt, if◌then◌else◌}
use Rattle.std.proofs.lemmas.Bool.{false≢true}
use Rattle.std.proofs.lemmas.Grind.{flat_map-append}
use Rattle.arn_lines.specs.declared.line.TheConstants.{MOST_LINE}
use Rattle.arn_lines.specs.Grammar.{block_name}
use Rattle.arn_commands.specs.declared.command.Command.{Command}
use Rattle.arn_commands.specs.Blocks.{BlockState, HoldsLines, IsLastPart, NoneEnds, fresh_block}
use Rattle.arn_commands.specs.Commands.{Asks, no_statement, program_line, program_text}
use Rattle.arn_commands.specs.Lines.{line_feed, lines_of}
use Rattle.arn_commands.specs.Parts.{Alone, Block, is_end, parts_in}
use Rattle.arn_commands.specs.Pieces.{IsKept, IsOneLine}
use Rattle.arn_commands.proofs.KeptLemmas.{is_end-kept, program_line-kept}
use Rattle.arn_commands.proofs.PartLemmas.{NoneEnds-push, lines_of-only, parts_in-alone, parts_in-ended, parts_in-opened, parts_in-unended}

-- a block without lines
pub HoldsLines-fresh : (name : List ℕ) → HoldsLines (fresh_block name) []
HoldsLines-fresh name = record { none_ends = tt; is_text = refl; is_count = refl }

-- one more line
program_text-push : (lines : List (List ℕ)) (line : List ℕ) → program_text (lines ++ line ∷ []) ≡ program_text lines ++ program_line line
program_text-push lines line = flat_map-append program_line lines (line ∷ []) ∙ ap (λ (x : List ℕ). program_text lines ++ x) (append-nil (program_line line))

pub grown_text : (old middle new statement kept : List ℕ) → statement ≡ (if nat_lt MOST_LINE (length kept) then no_statement else kept) → middle ≡ old ++ statement → new ≡ middle ++ line_feed ∷ [] → new ≡ old ++ program_line kept
grown_text old middle new statement kept is more feed =
    feed ∙ ap (λ (x : List ℕ). x ++ line_feed ∷ []) more ∙ append_assoc old statement (line_feed ∷ []) ∙ ap (λ (x : List ℕ). old ++ (x ++ line_feed ∷ [])) is

pub HoldsLines-push : (old new : BlockState) (lines : List (List ℕ)) (line kept : List ℕ) → HoldsLines old lines → IsKept line kept → is_end kept ≡ false → new.text ≡ old.text ++ program_line kept → new.lines ≡ old.lines + 1 → HoldsLines new (lines ++ line ∷ [])
HoldsLines-push old new lines line kept held k none text count = record {
  none_ends = NoneEnds-push lines line held.none_ends (is_end-kept line kept k ∙ none);
  is_text = text ∙ ap (λ (x : List ℕ). x ++ program_line kept) held.is_text ∙ ap (λ (x : List ℕ). program_text lines ++ x) (sym (program_line-kept line kept k)) ∙ sym (program_text-push lines line);
  is_count = count ∙ omega (arith, held.is_count, length-append lines (line ∷ []));
}

-- the last line is the block's `end`
pub IsLastPart-ended : (name : List ℕ) (lines : List (List ℕ)) (line kept : List ℕ) (command : Command) → NoneEnds lines → IsOneLine line → IsKept line kept → is_end kept ≡ true → Asks (Block name lines true) command → IsLastPart (Some name) (lines ++ lines_of line) command
IsLastPart-ended name lines line kept command none one k end asks =
    let ends : is_end line ≡ true = is_end-kept line kept k ∙ end in
    let some : line ≢ [] = λ e. absurd (false≢true (ap is_end (sym e) ∙ ends)) in
    record {
      part = Block name lines true;
      is_last = ap (λ (x : List (List ℕ)). parts_in (Some name) (lines ++ x)) (lines_of-only line one some) ∙ parts_in-ended name line lines [] none ends;
      asks = asks;
    }

-- no line stands behind the last LF
pub IsLastPart-unended : (name : List ℕ) (lines : List (List ℕ)) (line : List ℕ) (command : Command) → NoneEnds lines → line ≡ [] → Asks (Block name lines false) command → IsLastPart (Some name) (lines ++ lines_of line) command
IsLastPart-unended name lines line command none empty asks = record {
  part = Block name lines false;
  is_last = ap (λ (x : List ℕ). parts_in (Some name) (lines ++ lines_of x)) empty ∙ ap (λ (x : List (List ℕ)). parts_in (Some name) x) (append-nil lines) ∙ parts_in-unended name lines none;
  asks = asks;
}

-- the last line is one of the block's
pub IsLastPart-pushed : (name : List ℕ) (lines : List (List ℕ)) (line : List ℕ) (command : Command) → NoneEnds (lines ++ line ∷ []) → IsOneLine line → line ≢ [] → Asks (Block name (lines ++ line ∷ []) false) command → IsLastPart (Some name) (lines ++ lines_of line) command
IsLastPart-pushed name lines line command none one some asks = record {
  part = Block name (lines ++ line ∷ []) false;
  is_last = ap (λ (x : List (List ℕ)). parts_in (Some name) (lines ++ x)) (lines_of-only line one some) ∙ parts_in-unended name (lines ++ line ∷ []) none;
  asks = asks;
}

-- the line that opens a block
pub opened-name : (line : List ℕ) (block : BlockState) → Some block ≡ option_map fresh_block (block_name line) → (block_name line ≡ Some block.name) × (block ≡ fresh_block block.name)
opened-name line block opened = by_name (block_name line) opened
  where
    by_name : (name : Option (List ℕ)) → Some block ≡ option_map fresh_block name → (name ≡ Some block.name) × (block ≡ fresh_block block.name)
    by_name None e = absurd (clash e)
      where
        clash : Some block ≡ None → ⊥
        clash e = cc
    by_name (Some name) e =
        let same : block ≡ fresh_block name = cc in
        let named : block.name ≡ name = ap (λ (b : BlockState). b.name) same in
        (ap (λ (x : List ℕ). Some x) (sym named), same ∙ ap fresh_block (sym named))

pub opened-none : (line : List ℕ) → None ≡ option_map fresh_block (block_name line) → block_name line ≡ None
opened-none line opened = by_name (block_name line) opened
  where
    by_name : (name : Option (List ℕ)) → None ≡ option_map fresh_block name → name ≡ None
    by_name None e = refl
    by_name (Some name) e = absurd (clash e)
      where
        clash : None ≡ Some (fresh_block name) → ⊥
        clash e = cc

-- the last line opens a block
pub IsLastPart-opened : (name line : List ℕ) (command : Command) → IsOneLine line → line ≢ [] → block_name line ≡ Some name → Asks (Block name [] false) command → IsLastPart None (lines_of line) command
IsLastPart-opened name line command one some opened asks = record {
  part = Block name [] false;
  is_last = ap (λ (x : List (List ℕ)). parts_in None x) (lines_of-only line one some) ∙ parts_in-opened name line [] opened;
  asks = asks;
}

-- the last line stands by itself
pub IsLastPart-alone : (line : List ℕ) (command : Command) → IsOneLine line → line ≢ [] → block_name line ≡ None → Asks (Alone line) command → IsLastPart None (lines_of line) command
IsLastPart-alone line command one some none asks = record {
  part = Alone line;
  is_last = ap (λ (x : List (List ℕ)). parts_in None x) (lines_of-only line one some) ∙ parts_in-alone line [] none;
  asks = asks;
}
