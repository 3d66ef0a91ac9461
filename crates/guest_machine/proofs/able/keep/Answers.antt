use Rattle.std.proofs.Common.{[], ◌∷◌, ◌∙◌, sym, arith, length-append}
use Rattle.std.proofs.lemmas.List.{take-append-le}
use Rattle.guest_machine.specs.declared.able.TheConstants.{MOST_KEPT}
use Rattle.guest_machine.proofs.AbleLemmas.{first-all}
use Rattle.guest_machine.proofs.able.keep.Goals as goal

pub returns-then-len-lt-MOST_KEPT : goal.returns-then-len-lt-MOST_KEPT
returns-then-len-lt-MOST_KEPT c =
    let old = c.args.first.now.items in
    let one = c.args.pid ∷ [] in
    c.push.ensures.items ∙ sym (first-all MOST_KEPT _ (omega (arith, c.if-len-lt-MOST_KEPT.true, c.len.ensures.value, length-append old one)))

pub returns-else-len-lt-MOST_KEPT : goal.returns-else-len-lt-MOST_KEPT
returns-else-len-lt-MOST_KEPT c =
    let old = c.args.first.now.items in
    sym (take-append-le MOST_KEPT old (c.args.pid ∷ []) (omega (arith, c.if-len-lt-MOST_KEPT.false, c.len.ensures.value)) ∙ first-all MOST_KEPT old (omega (arith, c.len.ensures.value, c.len.ensures.fits)))
