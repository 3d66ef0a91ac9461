-- Texts, and what they ask for.
use Rattle.std.proofs.Common.{◌≡◌, ℕ, Bool, List, [], ◌∷◌, ◌++◌, flat_map, true, false, option_map, None, Some, refl, codes}
use Rattle.std.specs.Fmt.{digits}
use Rattle.arn_lines.specs.declared.line.Line.TheVariants as line
use Rattle.generator.specs.Program as generator
use Rattle.generator.specs.Program.{rest}
use Rattle.guest_asm.specs.Assembled.{fault_of, image_of_text}
use Rattle.arn_commands.specs.declared.command.Command.{Command}
use Rattle.arn_commands.specs.declared.command.Command.TheVariants.{Says, Faulty}
use Rattle.arn_commands.specs.Lines.{line_feed, lines_of, whole_lines_of}
use Rattle.arn_commands.specs.Parts.{Alone, Block, text_parts, whole_parts}
use Rattle.arn_commands.specs.Commands.{block_command, faulty_line, no_statement, program_text}

-- lines, each with its LF
abbrev whole : List (List ℕ) → List ℕ
whole lines = flat_map (λ line. line ++ line_feed ∷ []) lines

-- an empty line is one, and a last LF has no line behind it
lines-fed : lines_of (whole (codes "run 1" ∷ [] ∷ codes "run 2" ∷ [])) ≡ codes "run 1" ∷ [] ∷ codes "run 2" ∷ []
lines-fed = refl

-- what follows the last LF is a line, and no whole one
lines-cut : lines_of (whole (codes "run 1" ∷ []) ++ codes "run 2") ≡ codes "run 1" ∷ codes "run 2" ∷ []
lines-cut = refl

lines-cut-whole : whole_lines_of (whole (codes "run 1" ∷ []) ++ codes "run 2") ≡ codes "run 1" ∷ []
lines-cut-whole = refl

-- a block between lines
abbrev block_among : List ℕ
block_among = whole (codes "#" ∷ codes "asm p" ∷ codes "ecall" ∷ [] ∷ codes "end" ∷ codes "boot p" ∷ [])

parts-block : text_parts block_among ≡ Alone (codes "#") ∷ Block (codes "p") (codes "ecall" ∷ [] ∷ []) true ∷ Alone (codes "boot p") ∷ []
parts-block = refl

whole-block : whole_parts block_among ≡ Alone (codes "#") ∷ Block (codes "p") (codes "ecall" ∷ [] ∷ []) true ∷ Alone (codes "boot p") ∷ []
whole-block = refl

-- `end` may end with the text, and its block isn't whole then
parts-end_cut : text_parts (whole (codes "asm p" ∷ codes "ecall" ∷ []) ++ codes "end") ≡ Block (codes "p") (codes "ecall" ∷ []) true ∷ []
parts-end_cut = refl

whole-end_cut : whole_parts (whole (codes "boot p" ∷ codes "asm p" ∷ codes "ecall" ∷ []) ++ codes "end") ≡ Alone (codes "boot p") ∷ []
whole-end_cut = refl

-- a block without an `end`
parts-endless : text_parts (whole (codes "asm p" ∷ codes "ecall" ∷ [])) ≡ Block (codes "p") (codes "ecall" ∷ []) false ∷ []
parts-endless = refl

whole-endless : whole_parts (whole (codes "asm p" ∷ codes "ecall" ∷ [])) ≡ []
whole-endless = refl

-- only a line that is `end` and nothing else ends a block, and blocks don't nest
parts-end_alone : text_parts (whole (codes "asm p" ∷ codes " end" ∷ codes "end " ∷ codes "asm q" ∷ codes "end" ∷ codes "end" ∷ [])) ≡ Block (codes "p") (codes " end" ∷ codes "end " ∷ codes "asm q" ∷ []) true ∷ Alone (codes "end") ∷ []
parts-end_alone = refl

-- a line with a wrong name opens no block
parts-no_name : text_parts (whole (codes "asm p q" ∷ codes "end" ∷ [])) ≡ Alone (codes "asm p q") ∷ Alone (codes "end") ∷ []
parts-no_name = refl

-- a block's lines are the program's text, each with its LF
text-block : program_text (codes "ecall" ∷ [] ∷ []) ≡ whole (codes "ecall" ∷ [] ∷ [])
text-block = refl

-- what stands for a line that is too long is a fault, of the first kind
fault-no_statement : option_map (λ f. f.line) (fault_of (whole (codes "ecall" ∷ no_statement ∷ []))) ≡ Some 2
fault-no_statement = refl

-- blocks, by the lines behind `asm p`
abbrev asked : List (List ℕ) → Bool → Command
asked lines is_ended = block_command (codes "p") lines (faulty_line lines is_ended (fault_of (program_text lines)))

asks-program : asked (codes "ecall" ∷ []) true ≡ Says (line.File (codes "p") (image_of_text (whole (codes "ecall" ∷ []))))
asks-program = refl

asks-faulty : asked (codes "ecall" ∷ codes "# no fault" ∷ codes "mv a0" ∷ codes "what" ∷ []) true ≡ Faulty 3
asks-faulty = refl

asks-endless : asked (codes "ecall" ∷ codes "" ∷ []) false ≡ Faulty 3
asks-endless = refl

asks-endless_faulty : asked (codes "what" ∷ codes "ecall" ∷ []) false ≡ Faulty 1
asks-endless_faulty = refl

asks-nothing : asked [] true ≡ Says (line.File (codes "p") (image_of_text []))
asks-nothing = refl

asks-nothing_endless : asked [] false ≡ Faulty 1
asks-nothing_endless = refl

-- the program of the generator has no fault
generator-faultless : fault_of (generator.program_text 12) ≡ None
unfolding digits rest
generator-faultless = refl
