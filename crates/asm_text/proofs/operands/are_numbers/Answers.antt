use Rattle.std.proofs.Common.{sym, ◌∙◌}
use Rattle.asm_text.proofs.Cuts.{shorter}
use Rattle.asm_text.proofs.ListOfNumbers.{all_numbers-cut, all_numbers-stop, all_numbers-whole}
use Rattle.asm_text.proofs.operands.are_numbers.Goals as goal

pub returns-then-not-is_number : goal.returns-then-not-is_number
returns-then-not-is_number c =
    let first = rw c.trimmed.ensures at c.is_number.ensures in
    sym (c.loop-first.invariant ∙ all_numbers-stop c.loop-first.rest.now c.in-Some.first.now c.in-Some.others.now c.in-Some.ensures.some (sym first ∙ c.if-not-is_number.true))

pub loop-first-preserved : goal.loop-first-preserved
loop-first-preserved c =
    let first = rw c.trimmed.ensures at c.is_number.ensures in
    c.loop-first.invariant ∙ all_numbers-cut c.loop-first.rest.now c.in-Some.first.now c.in-Some.others.now c.in-Some.ensures.some (sym first ∙ c.if-not-is_number.false)

pub loop-first-smaller : goal.loop-first-smaller
loop-first-smaller c = shorter 44 c.loop-first.rest.now c.in-Some.first.now c.in-Some.others.now c.in-Some.ensures.some

pub returns : goal.returns
returns c =
    let last = rw c.trimmed-2.ensures at c.is_number-2.ensures in
    last ∙ sym (c.loop-first.invariant ∙ all_numbers-whole c.loop-first.rest.now c.in_default.ensures.none)
