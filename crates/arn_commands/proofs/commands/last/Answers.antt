-- There is no last line, or it opens a block, or stands by itself.
use Rattle.std.proofs.Common.{◌∙◌, [], length, sym, ap, subst}
use Rattle.std.proofs.lemmas.Bool.{eqb-false, eqb-true}
use Rattle.std.proofs.lemmas.List.{nil_from_length}
use Rattle.arn_commands.specs.Blocks.{BlockState, HoldsLines}
use Rattle.arn_commands.proofs.BlockLemmas.{HoldsLines-fresh, IsLastPart-alone, IsLastPart-opened, opened-name, opened-none}
use Rattle.arn_commands.proofs.KeptLemmas.{kept-empty, kept-nonempty}
use Rattle.arn_commands.proofs.commands.last.Goals as goal

pub returns-then-is_empty-clause-next : goal.returns-then-is_empty-clause-next
returns-then-is_empty-clause-next c = λ whole one k.
    let line = c.args.line.now in
    kept-empty whole line k (nil_from_length line (eqb-true (length line) 0 (sym c.is_empty.ensures ∙ c.if-is_empty.true)))

pub returns-in_ok-command-in-Some-clause-next : goal.returns-in_ok-command-in-Some-clause-next
returns-in_ok-command-in-Some-clause-next c = λ whole one k.
    let line = c.args.line.now in
    let some = eqb-false (length line) 0 (sym c.is_empty.ensures ∙ c.if-is_empty.false) in
    let block = c.in-Some.block in
    let opened = opened-name whole block (sym c.in-Some.is ∙ c.in_ok-block.ensures whole k) in
    let fresh = subst (λ (b : BlockState). HoldsLines b []) (sym opened.1) (HoldsLines-fresh block.name) in
    IsLastPart-opened block.name whole c.in_ok-command-in-Some.command one (λ e. some (ap length (kept-nonempty whole line k e))) opened.0 (c.in_ok-command-in-Some.ensures.asks [] fresh)

pub returns-in_ok-command-in-None-clause-next : goal.returns-in_ok-command-in-None-clause-next
returns-in_ok-command-in-None-clause-next c = λ whole one k.
    let line = c.args.line.now in
    let some = eqb-false (length line) 0 (sym c.is_empty.ensures ∙ c.if-is_empty.false) in
    let none = opened-none whole (sym c.in-None.is ∙ c.in_ok-block.ensures whole k) in
    IsLastPart-alone whole c.in_ok-command-in-None.command one (λ e. some (ap length (kept-nonempty whole line k e))) none (c.in_ok-command-in-None.ensures.asks whole k)
