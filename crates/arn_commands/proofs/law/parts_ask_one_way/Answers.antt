-- A line reads one way, and so does a block.
use Rattle.std.proofs.Common.{◌≡◌, ap, sym, ◌∙◌}
use Rattle.arn_lines.specs.Grammar.{ReadsOneWay}
use Rattle.arn_commands.specs.declared.command.Command.{Command}
use Rattle.arn_commands.specs.Commands.{Asks, line_command}
use Rattle.arn_commands.specs.Parts.{Part, Alone, Block}
use Rattle.arn_commands.proofs.law.parts_ask_one_way.Goals as goal

asks-same : ReadsOneWay → (part : Part) (a b : Command) → Asks part a → Asks part b → a ≡ b
asks-same one_way (Alone line) a b p q = p.2 ∙ ap line_command (one_way line p.0 q.0 p.1 q.1) ∙ sym q.2
asks-same one_way (Block name lines is_ended) a b p q = p ∙ sym q

pub returns : goal.returns
returns c = asks-same c.lines_read_one_way.ensures
