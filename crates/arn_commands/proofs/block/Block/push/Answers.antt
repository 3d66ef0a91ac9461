-- The text grows by the line.
use Rattle.std.proofs.Common.{◌+◌, ◌++◌, ap, ◌∙◌}
use Rattle.arn_commands.specs.Blocks.{BlockState}
use Rattle.arn_commands.specs.Commands.{program_line}
use Rattle.arn_commands.proofs.BlockLemmas.{HoldsLines-push, grown_text}
use Rattle.arn_commands.proofs.block.Block.push.Goals as goal

pub returns-clause-lines : goal.returns-clause-lines
returns-clause-lines c = λ lines whole held k none.
    let line = c.args.line.now in
    let inside = c.self.inside in
    let text = grown_text inside.text.items c.extend_from_slice.new.self.items c.push.new.self.items c.statement.result.now line c.statement.ensures c.in_ok-extend_from_slice.ensures.items c.in_ok-push.ensures.items in
    HoldsLines-push c.args.self.now _ lines whole line held k none
    (text ∙ ap (λ (b : BlockState). b.text ++ program_line line) c.self.view_is)
    (ap (λ (b : BlockState). b.lines + 1) c.self.view_is)
