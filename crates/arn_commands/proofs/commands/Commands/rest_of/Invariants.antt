-- The block holds the lines that were read. What is left to read falls.
use Rattle.std.proofs.Common.{◌≡◌, ◌≤◌, ◌+◌, ◌-◌, length}
use Rattle.arn_base.specs.Faults.{NeverFalls}
use Rattle.arn_commands.specs.declared.reader.TheConstants.{MOST_TAKEN}
use Rattle.arn_commands.proofs.ReadLemmas.{ReadsLines}
use Rattle.arn_commands.proofs.commands.Commands.rest_of.Given as goal

abbrev pub invariant-loop-block : goal.invariant-loop-block
invariant-loop-block g l =
    record {
      read : ReadsLines l.block l.fn.self l.self-inside.lines (g.S.Source.left l.initial.source) (g.S.Source.left l.source);
      name : l.block.name ≡ l.fn.block.name;
      within : l.self-inside.lines.taken ≤ MOST_TAKEN;
      faults : NeverFalls (g.S.Source.faults l.initial.source) (g.S.Source.faults l.source);
    }

abbrev pub decreases-loop-block : goal.decreases-loop-block
decreases-loop-block g l = (MOST_TAKEN + length l.self-inside.lines.ahead) - l.self-inside.lines.taken
