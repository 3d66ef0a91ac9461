-- Commands that are read line by line.
use Rattle.std.proofs.Common.{◌≡◌, ℕ, ◌++◌, true, List, [], ◌∷◌, Option, None, Some, sym, ap, subst, ◌∙◌, append_assoc, append-nil}
use Rattle.std.specs.Prelude.{filter}
use Rattle.arn_lines.specs.Grammar.{block_name}
use Rattle.arn_commands.specs.declared.command.Command.{Command}
use Rattle.arn_commands.specs.declared.next.Next.{Next}
use Rattle.arn_commands.specs.declared.next.Next.TheVariants.{More, Last, End}
use Rattle.arn_commands.specs.Blocks.{BlockState, EndsText, HoldsLines, IsLastPart, ReadsBlock, ReadsLastBlock, ReadsNoBlock, ReadsWholeBlock}
use Rattle.arn_commands.specs.Commands.{Asks}
use Rattle.arn_commands.specs.Lines.{line_feed, lines_of, whole_lines_of}
use Rattle.arn_commands.specs.Nexts.{ReadsMore, ReadsNext, ReadsPart}
use Rattle.arn_commands.specs.Parts.{Alone, Block, is_end, is_whole, parts_in, parts_of, text_parts, whole_parts}
use Rattle.arn_commands.specs.Pieces.{IsKept, IsOneLine, ReadsLine}
use Rattle.arn_commands.specs.Reader.{IsAtEnd, ReaderState, Uses, UsesSome}
use Rattle.arn_commands.proofs.KeptLemmas.{is_end-kept}
use Rattle.arn_commands.proofs.LineLemmas.{whole_lines_of-part}
use Rattle.arn_commands.proofs.PartLemmas.{lines_of-first, parts_in-alone, parts_in-ended, parts_in-opened, parts_in-unended, whole_lines_of-first}
use Rattle.arn_commands.proofs.ReaderLemmas.{Uses-append}

-- lines of a block were read, each with its LF, and the block holds them
pub record ReadsLines (block : BlockState) (before after : ReaderState) (left_before left_after : Option (List ℕ)) : Type 0 where
  pub bytes : List ℕ
  pub lines : List (List ℕ)
  pub used : Uses bytes before after left_before left_after
  pub lines_are : (rest : List ℕ) → lines_of (bytes ++ rest) ≡ lines ++ lines_of rest
  pub whole_lines_are : (rest : List ℕ) → whole_lines_of (bytes ++ rest) ≡ lines ++ whole_lines_of rest
  pub held : HoldsLines block lines

-- bytes were used behind a line
pub UsesSome-more : (end : List ℕ) (a b c : ReaderState) (l0 l1 l2 : Option (List ℕ)) (kept : List ℕ) → ReadsLine end a b l0 l1 kept → UsesSome b c l1 l2 → UsesSome a c l0 l2
UsesSome-more end a b c l0 l1 l2 kept read more = record { bytes = (read.line ++ end) ++ more.bytes; used = Uses-append (read.line ++ end) more.bytes a b c l0 l1 l2 read.used more.used }

-- the lines of a text whose next line with its LF was read
lines_more : (bytes line rest : List ℕ) (lines : List (List ℕ)) → IsOneLine line → ((rest : List ℕ) → lines_of (bytes ++ rest) ≡ lines ++ lines_of rest) → lines_of ((bytes ++ (line ++ line_feed ∷ [])) ++ rest) ≡ lines ++ line ∷ lines_of rest
lines_more bytes line rest lines one are =
    ap lines_of (append_assoc bytes (line ++ line_feed ∷ []) rest) ∙ are ((line ++ line_feed ∷ []) ++ rest) ∙ ap (λ (x : List (List ℕ)). lines ++ x) (lines_of-first line rest one)

whole_lines_more : (bytes line rest : List ℕ) (lines : List (List ℕ)) → IsOneLine line → ((rest : List ℕ) → whole_lines_of (bytes ++ rest) ≡ lines ++ whole_lines_of rest) → whole_lines_of ((bytes ++ (line ++ line_feed ∷ [])) ++ rest) ≡ lines ++ line ∷ whole_lines_of rest
whole_lines_more bytes line rest lines one are =
    ap whole_lines_of (append_assoc bytes (line ++ line_feed ∷ []) rest) ∙ are ((line ++ line_feed ∷ []) ++ rest) ∙ ap (λ (x : List (List ℕ)). lines ++ x) (whole_lines_of-first line rest one)

-- one more line in front of others
push_first : (lines more : List (List ℕ)) (line : List ℕ) → lines ++ line ∷ more ≡ (lines ++ line ∷ []) ++ more
push_first lines more line = sym (append_assoc lines (line ∷ []) more)

-- one more line was read, and the block took it
pub ReadsLines-push : (old new : BlockState) (a b c : ReaderState) (l0 l1 l2 : Option (List ℕ)) (kept : List ℕ) → ReadsLines old a b l0 l1 → ReadsLine (line_feed ∷ []) b c l1 l2 kept → ((lines : List (List ℕ)) (line : List ℕ) → HoldsLines old lines → IsKept line kept → HoldsLines new (lines ++ line ∷ [])) → ReadsLines new a c l0 l2
ReadsLines-push old new a b c l0 l1 l2 kept p read takes = record {
  bytes = p.bytes ++ (read.line ++ line_feed ∷ []);
  lines = p.lines ++ read.line ∷ [];
  used = Uses-append p.bytes (read.line ++ line_feed ∷ []) a b c l0 l1 l2 p.used read.used;
  lines_are = λ rest. lines_more p.bytes read.line rest p.lines read.is_one p.lines_are ∙ push_first p.lines (lines_of rest) read.line;
  whole_lines_are = λ rest. whole_lines_more p.bytes read.line rest p.lines read.is_one p.whole_lines_are ∙ push_first p.lines (whole_lines_of rest) read.line;
  held = takes p.lines read.line p.held read.is_kept;
}

-- the line `end` was read behind them
pub ReadsWholeBlock-end : (name : List ℕ) (block : BlockState) (command : Command) (a b c : ReaderState) (l0 l1 l2 : Option (List ℕ)) (kept : List ℕ) → ReadsLines block a b l0 l1 → ReadsLine (line_feed ∷ []) b c l1 l2 kept → is_end kept ≡ true → ((lines : List (List ℕ)) → HoldsLines block lines → Asks (Block name lines true) command) → ReadsWholeBlock name command a c l0 l2
ReadsWholeBlock-end name block command a b c l0 l1 l2 kept p read end asks =
    let ends : is_end read.line ≡ true = is_end-kept read.line kept read.is_kept ∙ end in
    record {
      bytes = p.bytes ++ (read.line ++ line_feed ∷ []);
      lines = p.lines;
      used = Uses-append p.bytes (read.line ++ line_feed ∷ []) a b c l0 l1 l2 p.used read.used;
      parts = λ rest. ap (parts_in (Some name)) (lines_more p.bytes read.line rest p.lines read.is_one p.lines_are) ∙ parts_in-ended name read.line p.lines (lines_of rest) p.held.none_ends ends;
      wholes = λ rest. ap (λ (x : List (List ℕ)). filter is_whole (parts_in (Some name) x)) (whole_lines_more p.bytes read.line rest p.lines read.is_one p.whole_lines_are)
          ∙ ap (filter is_whole) (parts_in-ended name read.line p.lines (whole_lines_of rest) p.held.none_ends ends);
      asks = asks p.lines p.held;
    }

-- no part of it is whole where the block isn't
unended_none_whole : (name : List ℕ) (block : BlockState) (a b c : ReaderState) (l0 l1 l2 : Option (List ℕ)) (kept : List ℕ) (p : ReadsLines block a b l0 l1) (read : ReadsLine [] b c l1 l2 kept) → filter is_whole (parts_in (Some name) (whole_lines_of (p.bytes ++ (read.line ++ [])))) ≡ []
unended_none_whole name block a b c l0 l1 l2 kept p read =
    let are : whole_lines_of (p.bytes ++ (read.line ++ [])) ≡ p.lines =
    p.whole_lines_are (read.line ++ []) ∙ ap (λ (x : List ℕ). p.lines ++ whole_lines_of x) (append-nil read.line) ∙ ap (λ (x : List (List ℕ)). p.lines ++ x) (whole_lines_of-part read.line read.is_one) ∙ append-nil p.lines in
    ap (λ (x : List (List ℕ)). filter is_whole (parts_in (Some name) x)) are ∙ ap (filter is_whole) (parts_in-unended name p.lines p.held.none_ends)

-- the reading ended in the block
pub ReadsNoBlock-part : (name : List ℕ) (block : BlockState) (a b c : ReaderState) (l0 l1 l2 : Option (List ℕ)) (kept : List ℕ) → ReadsLines block a b l0 l1 → ReadsLine [] b c l1 l2 kept → ReadsNoBlock name a c l0 l2
ReadsNoBlock-part name block a b c l0 l1 l2 kept p read = record {
  bytes = p.bytes ++ (read.line ++ []);
  used = Uses-append p.bytes (read.line ++ []) a b c l0 l1 l2 p.used read.used;
  none_whole = unended_none_whole name block a b c l0 l1 l2 kept p read;
}

-- the text ended in the block
pub ReadsLastBlock-end : (name : List ℕ) (block : BlockState) (command : Command) (a b c : ReaderState) (l0 l1 l2 : Option (List ℕ)) (kept : List ℕ) → ReadsLines block a b l0 l1 → ReadsLine [] b c l1 l2 kept → IsAtEnd c l2 → ((lines : List (List ℕ)) (line : List ℕ) → HoldsLines block lines → IsOneLine line → IsKept line kept → IsLastPart (Some name) (lines ++ lines_of line) command) → ReadsLastBlock name command a c l0 l2
ReadsLastBlock-end name block command a b c l0 l1 l2 kept p read end asks =
    let are : lines_of (p.bytes ++ (read.line ++ [])) ≡ p.lines ++ lines_of read.line = p.lines_are (read.line ++ []) ∙ ap (λ (x : List ℕ). p.lines ++ lines_of x) (append-nil read.line) in
    record {
      bytes = p.bytes ++ (read.line ++ []);
      used = Uses-append p.bytes (read.line ++ []) a b c l0 l1 l2 p.used read.used;
      last = subst (λ (x : List (List ℕ)). IsLastPart (Some name) x command) (sym are) (asks p.lines read.line p.held read.is_one read.is_kept);
      none_whole = unended_none_whole name block a b c l0 l1 l2 kept p read;
      at_end = end;
    }

-- more bytes were used behind them
pub UsesSome-lines : (block : BlockState) (a b c : ReaderState) (l0 l1 l2 : Option (List ℕ)) → ReadsLines block a b l0 l1 → UsesSome b c l1 l2 → UsesSome a c l0 l2
UsesSome-lines block a b c l0 l1 l2 p more = record { bytes = p.bytes ++ more.bytes; used = Uses-append p.bytes more.bytes a b c l0 l1 l2 p.used more.used }

-- a line without its LF isn't whole
line_none_whole : (line : List ℕ) → IsOneLine line → whole_parts (line ++ []) ≡ []
line_none_whole line one = ap whole_parts (append-nil line) ∙ ap (λ (x : List (List ℕ)). filter is_whole (parts_of x)) (whole_lines_of-part line one)

-- a part of a line was read
pub ReadsPart-line : (a b : ReaderState) (l0 l1 : Option (List ℕ)) (kept : List ℕ) → ReadsLine [] a b l0 l1 kept → ReadsPart a b l0 l1
ReadsPart-line a b l0 l1 kept read = record {
  bytes = read.line ++ [];
  used = read.used;
  none_whole = line_none_whole read.line read.is_one;
}

-- the text ended with a line, or behind one
pub ReadsNext-last : (next : Next) (a b : ReaderState) (l0 l1 : Option (List ℕ)) (kept : List ℕ) → ReadsLine [] a b l0 l1 kept → IsAtEnd b l1 → ((line : List ℕ) → IsOneLine line → IsKept line kept → EndsText line next) → ReadsNext next a b l0 l1
ReadsNext-last (More command) a b l0 l1 kept read end ends = absurd (ends read.line read.is_one read.is_kept)
ReadsNext-last (Last command) a b l0 l1 kept read end ends =
    let last = ends read.line read.is_one read.is_kept in
    record {
      bytes = read.line ++ [];
      part = last.part;
      used = read.used;
      is_last = ap text_parts (append-nil read.line) ∙ last.is_last;
      none_whole = line_none_whole read.line read.is_one;
      at_end = end;
      asks = last.asks;
    }
ReadsNext-last End a b l0 l1 kept read end ends = record {
  used = subst (λ (x : List ℕ). Uses x a b l0 l1) (append-nil read.line ∙ ends read.line read.is_one read.is_kept) read.used;
  at_end = end;
}

-- a line that opens no block was read
pub ReadsMore-line : (command : Command) (a b : ReaderState) (l0 l1 : Option (List ℕ)) (kept : List ℕ) → ReadsLine (line_feed ∷ []) a b l0 l1 kept → ((line : List ℕ) → IsKept line kept → block_name line ≡ None) → ((line : List ℕ) → IsKept line kept → Asks (Alone line) command) → ReadsMore command a b l0 l1
ReadsMore-line command a b l0 l1 kept read none asks =
    let unopened : block_name read.line ≡ None = none read.line read.is_kept in
    record {
      bytes = read.line ++ line_feed ∷ [];
      part = Alone read.line;
      used = read.used;
      is_whole = record {
        parts = λ rest. ap parts_of (lines_of-first read.line rest read.is_one) ∙ parts_in-alone read.line (lines_of rest) unopened;
        wholes = λ rest. ap (λ (x : List (List ℕ)). filter is_whole (parts_of x)) (whole_lines_of-first read.line rest read.is_one) ∙ ap (filter is_whole) (parts_in-alone read.line (whole_lines_of rest) unopened);
      };
      asks = asks read.line read.is_kept;
    }

-- the text goes on behind a line that opens a block
opened_parts : (name line bytes rest : List ℕ) → IsOneLine line → block_name line ≡ Some name → text_parts (((line ++ line_feed ∷ []) ++ bytes) ++ rest) ≡ parts_in (Some name) (lines_of (bytes ++ rest))
opened_parts name line bytes rest one opened =
    ap text_parts (append_assoc (line ++ line_feed ∷ []) bytes rest) ∙ ap parts_of (lines_of-first line (bytes ++ rest) one) ∙ parts_in-opened name line (lines_of (bytes ++ rest)) opened

opened_wholes : (name line bytes rest : List ℕ) → IsOneLine line → block_name line ≡ Some name → whole_parts (((line ++ line_feed ∷ []) ++ bytes) ++ rest) ≡ filter is_whole (parts_in (Some name) (whole_lines_of (bytes ++ rest)))
opened_wholes name line bytes rest one opened =
    ap whole_parts (append_assoc (line ++ line_feed ∷ []) bytes rest) ∙ ap (λ (x : List (List ℕ)). filter is_whole (parts_of x)) (whole_lines_of-first line (bytes ++ rest) one) ∙ ap (filter is_whole) (parts_in-opened name line (whole_lines_of (bytes ++ rest)) opened)

-- no part of both is whole where none of the block is
opened_none_whole : (name line bytes : List ℕ) → IsOneLine line → block_name line ≡ Some name → filter is_whole (parts_in (Some name) (whole_lines_of bytes)) ≡ [] → whole_parts ((line ++ line_feed ∷ []) ++ bytes) ≡ []
opened_none_whole name line bytes one opened none =
    ap whole_parts (sym (append-nil ((line ++ line_feed ∷ []) ++ bytes))) ∙ opened_wholes name line bytes [] one opened ∙ ap (λ (x : List ℕ). filter is_whole (parts_in (Some name) (whole_lines_of x))) (append-nil bytes) ∙ none

-- a block was read
pub ReadsNext-block : (name : List ℕ) (next : Next) (a b c : ReaderState) (l0 l1 l2 : Option (List ℕ)) (kept : List ℕ) → ReadsLine (line_feed ∷ []) a b l0 l1 kept → ((line : List ℕ) → IsKept line kept → block_name line ≡ Some name) → ReadsBlock name next b c l1 l2 → ReadsNext next a c l0 l2
ReadsNext-block name (More command) a b c l0 l1 l2 kept read opens block =
    let first : List ℕ = read.line ++ line_feed ∷ [] in
    let opened : block_name read.line ≡ Some name = opens read.line read.is_kept in
    record {
      bytes = first ++ block.bytes;
      part = Block name block.lines true;
      used = Uses-append first block.bytes a b c l0 l1 l2 read.used block.used;
      is_whole = record {
        parts = λ rest. opened_parts name read.line block.bytes rest read.is_one opened ∙ block.parts rest;
        wholes = λ rest. opened_wholes name read.line block.bytes rest read.is_one opened ∙ block.wholes rest;
      };
      asks = block.asks;
    }
ReadsNext-block name (Last command) a b c l0 l1 l2 kept read opens block =
    let first : List ℕ = read.line ++ line_feed ∷ [] in
    let opened : block_name read.line ≡ Some name = opens read.line read.is_kept in
    record {
      bytes = first ++ block.bytes;
      part = block.last.part;
      used = Uses-append first block.bytes a b c l0 l1 l2 read.used block.used;
      is_last = ap text_parts (sym (append-nil (first ++ block.bytes))) ∙ opened_parts name read.line block.bytes [] read.is_one opened ∙ ap (λ (x : List ℕ). parts_in (Some name) (lines_of x)) (append-nil block.bytes) ∙ block.last.is_last;
      none_whole = opened_none_whole name read.line block.bytes read.is_one opened block.none_whole;
      at_end = block.at_end;
      asks = block.last.asks;
    }
ReadsNext-block name End a b c l0 l1 l2 kept read opens block = absurd block

-- a part of a block was read
pub ReadsPart-block : (name : List ℕ) (a b c : ReaderState) (l0 l1 l2 : Option (List ℕ)) (kept : List ℕ) → ReadsLine (line_feed ∷ []) a b l0 l1 kept → ((line : List ℕ) → IsKept line kept → block_name line ≡ Some name) → ReadsNoBlock name b c l1 l2 → ReadsPart a c l0 l2
ReadsPart-block name a b c l0 l1 l2 kept read opens block =
    let first : List ℕ = read.line ++ line_feed ∷ [] in
    record {
      bytes = first ++ block.bytes;
      used = Uses-append first block.bytes a b c l0 l1 l2 read.used block.used;
      none_whole = opened_none_whole name read.line block.bytes read.is_one (opens read.line read.is_kept) block.none_whole;
    }
