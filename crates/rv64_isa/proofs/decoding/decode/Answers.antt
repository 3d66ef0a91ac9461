use Rattle.std.proofs.Common.{◌≡◌, ℕ, ◌^◌, ◌<◌, Option, Some, None, IfSome, IfNone, ap, subst, sym, ◌∙◌, arith}
use Rattle.std.proofs.lemmas.Option.{IfSome_then}
use Rattle.rv64_isa.specs.Decoded.{decoded, decoded_by}
use Rattle.rv64_isa.specs.Encoded.{HasNoRow}
use Rattle.rv64_isa.specs.declared.instruction.Instr.{Instr}
use Rattle.rv64_isa.proofs.ReadBack.{decoded-word_of}
use Rattle.rv64_isa.proofs.WrittenBack.{IsSpelled, IsSpelled-decoded}
use Rattle.rv64_isa.proofs.decoding.decode.Goals as goal

-- what is decoded has this word
spelled : (result : Option Instr) (word : ℕ) → result ≡ decoded word → word < 2 ^ 32
    → IfSome result (IsSpelled word)
spelled result word is fits =
    subst (λ (o : Option Instr). IfSome o (IsSpelled word)) (sym is) (IsSpelled-decoded word fits)

-- where nothing is decoded, no instruction has this word
HasNoRow-decoded : (result : Option Instr) (word : ℕ) → result ≡ decoded word
    → IfNone result (HasNoRow word)
HasNoRow-decoded (Some i) word is = tt
HasNoRow-decoded None word is =
    λ i registers range same.
    let read = decoded-word_of i registers range in
    let read_word : decoded word ≡ Some i = ap decoded (sym same) ∙ read in
    absurd (cc)

is_decoded : (c : goal.After-decode_by) → c.decode_by.result ≡ decoded c.args.word
is_decoded c = c.decode_by.ensures ∙ ap (λ (opcode : ℕ). decoded_by opcode c.args.word) c.bits.ensures

IfSome-spelled : (c : goal.After-decode_by) → IfSome c.decode_by.result (IsSpelled c.args.word)
IfSome-spelled c = spelled c.decode_by.result c.args.word (is_decoded c) (omega arith)

pub returns-clause-in_range : goal.returns-clause-in_range
returns-clause-in_range c =
    IfSome_then c.decode_by.result (IfSome-spelled c) (λ i is. is.in_range)

pub returns-clause-word : goal.returns-clause-word
returns-clause-word c = IfSome_then c.decode_by.result (IfSome-spelled c) (λ i is. is.word_is)

pub returns-clause-no_row : goal.returns-clause-no_row
returns-clause-no_row c = HasNoRow-decoded c.decode_by.result c.args.word (is_decoded c)
