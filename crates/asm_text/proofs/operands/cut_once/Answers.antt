use Rattle.std.proofs.Common.{◌∷◌, ap, ◌∙◌}
use Rattle.asm_text.proofs.Cuts.{more_is_not_two, parts-cut, parts-whole, whole_is_not_two}
use Rattle.asm_text.proofs.operands.cut_once.Goals as goal

pub returns-in_err-first-clause-none : goal.returns-in_err-first-clause-none
returns-in_err-first-clause-none c =
    rw c.from_residual.ensures (λ a b. whole_is_not_two c.args.separator c.args.text.now a b c.in_err-first.ensures.none)

pub returns-in-None-clause-some : goal.returns-in-None-clause-some
returns-in-None-clause-some c =
    parts-cut c.args.separator c.args.text.now c.in_ok-first.first.now c.in_ok-first.second.now c.in_ok-first.ensures.some
    ∙ ap (λ ps. c.in_ok-first.first.now ∷ ps) (parts-whole c.args.separator c.in_ok-first.second.now c.in-None.ensures.none)

pub returns-in-Some-clause-none : goal.returns-in-Some-clause-none
returns-in-Some-clause-none c a b =
    more_is_not_two c.args.separator c.args.text.now c.in_ok-first.first.now c.in_ok-first.second.now _ _ a b c.in_ok-first.ensures.some c.in-Some.ensures.some
