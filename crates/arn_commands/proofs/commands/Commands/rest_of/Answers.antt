-- Each line goes on with what was read of the block, and an end of the block, of the text or of the reading ends it.
use Rattle.std.proofs.Common.{◌≡◌, ◌∙◌, ◌++◌, true, Err, Some, sym, subst, List, ℕ}
use Rattle.std.proofs.lemmas.Result.{err_from_is_err_and}
use Rattle.arn_commands.specs.Blocks.{IsLastPart}
use Rattle.arn_commands.specs.Commands.{Asks}
use Rattle.arn_commands.specs.Lines.{lines_of}
use Rattle.arn_commands.specs.Parts.{Block}
use Rattle.arn_commands.proofs.FaultLemmas.{NeverFalls-append}
use Rattle.arn_commands.proofs.ReadLemmas.{ReadsLastBlock-end, ReadsLines-push, ReadsNoBlock-part, ReadsWholeBlock-end, UsesSome-lines}
use Rattle.arn_commands.proofs.ResultLemmas.{IfErr-is}
use Rattle.arn_commands.proofs.commands.Commands.rest_of.Goals as goal

pub loop-block-preserved : goal.loop-block-preserved
loop-block-preserved g c =
    let read = rw c.if-branch.true at c.in_ok-next_line.ensures.line in
    let takes = rw c.as_slice-line.ensures.value at c.in_ok-push.ensures.lines in
    let none = rw c.as_slice-line.ensures.value at c.is_end.ensures in
    record {
      read = ReadsLines-push _ _ _ _ _ _ _ _ _ c.loop-block.invariant.read read (λ lines line held kept. takes lines line held kept (sym none ∙ c.if-is_end.false));
      name = c.in_ok-push.ensures.name ∙ c.loop-block.invariant.name;
      within = c.next_line.ensures.still_within;
      faults = NeverFalls-append _ _ _ c.loop-block.invariant.faults c.next_line.ensures.faults;
    }

pub returns-then-is_end-clause-block : goal.returns-then-is_end-clause-block
returns-then-is_end-clause-block g c =
    let read = rw c.if-branch.true at c.in_ok-next_line.ensures.line in
    let end = rw c.as_slice-line.ensures.value at c.is_end.ensures in
    let command = c.in_ok-command.command in
    ReadsWholeBlock-end _ _ _ _ _ _ _ _ _ _ c.loop-block.invariant.read read (sym end ∙ c.if-is_end.true) (λ lines held.
    subst (λ (name : List ℕ). Asks (Block name lines true) command) c.loop-block.invariant.name (c.in_ok-command.ensures.asks lines held))

pub returns-clause-block : goal.returns-clause-block
returns-clause-block g c =
    let read = rw c.if-branch.false at c.in_ok-next_line.ensures.line in
    let asks = rw c.as_slice.ensures.value at c.in_ok-command-2.ensures.asks in
    let command = c.in_ok-command-2.command in
    ReadsLastBlock-end _ _ _ _ _ _ _ _ _ _ c.loop-block.invariant.read read (c.in_ok-next_line.ensures.end c.if-branch.false) (λ lines line held one kept.
    subst (λ (name : List ℕ). IsLastPart (Some name) (lines ++ lines_of line) command) c.loop-block.invariant.name (asks lines line held one kept))

pub returns-in_err-next_line-clause-part : goal.returns-in_err-next_line-clause-part
returns-in_err-next_line-clause-part g c =
    let p = err_from_is_err_and c.from_residual.result c.from_residual.ensures.1 in
    let is : c.from_residual.result ≡ Err c.in_err-next_line.field-0.0 = cc (p.1, p.2) in
    IfErr-is c.from_residual.result _ c.in_err-next_line.field-0.0 is (λ other. ReadsNoBlock-part c.args.block.name _ _ _ _ _ _ _ _ c.loop-block.invariant.read (c.in_err-next_line.ensures.part other))

pub returns-in_err-next_line-clause-used : goal.returns-in_err-next_line-clause-used
returns-in_err-next_line-clause-used g c = UsesSome-lines _ _ _ _ _ _ _ c.loop-block.invariant.read c.next_line.ensures.used

pub returns-in_err-command-clause-used : goal.returns-in_err-command-clause-used
returns-in_err-command-clause-used g c = UsesSome-lines _ _ _ _ _ _ _ c.loop-block.invariant.read c.next_line.ensures.used

pub returns-then-is_end-clause-used : goal.returns-then-is_end-clause-used
returns-then-is_end-clause-used g c = UsesSome-lines _ _ _ _ _ _ _ c.loop-block.invariant.read c.next_line.ensures.used

pub returns-in_err-push-clause-used : goal.returns-in_err-push-clause-used
returns-in_err-push-clause-used g c = UsesSome-lines _ _ _ _ _ _ _ c.loop-block.invariant.read c.next_line.ensures.used

pub returns-in_err-command-2-clause-used : goal.returns-in_err-command-2-clause-used
returns-in_err-command-2-clause-used g c = UsesSome-lines _ _ _ _ _ _ _ c.loop-block.invariant.read c.next_line.ensures.used

pub returns-clause-used : goal.returns-clause-used
returns-clause-used g c = UsesSome-lines _ _ _ _ _ _ _ c.loop-block.invariant.read c.next_line.ensures.used
