-- The last line ends the block, or is one more of its lines, or there is none.
use Rattle.std.proofs.Common.{◌∙◌, ℕ, List, [], ◌∷◌, ◌++◌, false, length, sym, ap, subst}
use Rattle.std.proofs.lemmas.Bool.{eqb-false, eqb-true}
use Rattle.std.proofs.lemmas.List.{nil_from_length}
use Rattle.arn_commands.specs.Commands.{Asks}
use Rattle.arn_commands.specs.Parts.{Block}
use Rattle.arn_commands.proofs.BlockLemmas.{IsLastPart-ended, IsLastPart-pushed, IsLastPart-unended}
use Rattle.arn_commands.proofs.KeptLemmas.{kept-empty, kept-nonempty}
use Rattle.std.proofs.lemmas.Result.{IfOk-weaker}
use Rattle.arn_commands.proofs.block.Block.last.Goals as goal

pub returns-then-is_end-clause-asks : goal.returns-then-is_end-clause-asks
returns-then-is_end-clause-asks c = IfOk-weaker c.command.result _ _ (λ command asks lines whole held one k.
    IsLastPart-ended c.args.self.name lines whole c.args.line.now command held.none_ends one k (sym c.is_end.ensures ∙ c.if-is_end.true) (asks lines held)) c.command.ensures.asks

pub returns-then-is_empty-clause-asks : goal.returns-then-is_empty-clause-asks
returns-then-is_empty-clause-asks c = IfOk-weaker c.command-then-is_empty.result _ _ (λ command asks lines whole held one k.
    let line = c.args.line.now in
    let none = nil_from_length line (eqb-true (length line) 0 (sym c.is_empty.ensures ∙ c.if-is_empty.true)) in
    IsLastPart-unended c.args.self.name lines whole command held.none_ends (kept-empty whole line k none) (asks lines held)) c.command-then-is_empty.ensures.asks

pub returns-clause-asks : goal.returns-clause-asks
returns-clause-asks c = IfOk-weaker c.command-2.result _ _ (λ command asks lines whole held one k.
    let line = c.args.line.now in
    let some = eqb-false (length line) 0 (sym c.is_empty.ensures ∙ c.if-is_empty.false) in
    let more = c.in_ok-push.ensures.lines lines whole held k (sym c.is_end.ensures ∙ c.if-is_end.false) in
    let asked = subst (λ (name : List ℕ). Asks (Block name (lines ++ whole ∷ []) false) command) c.in_ok-push.ensures.name (asks (lines ++ whole ∷ []) more) in
    IsLastPart-pushed c.args.self.name lines whole command more.none_ends one (λ e. some (ap length (kept-nonempty whole line k e))) asked) c.command-2.ensures.asks
