-- A part of the line was read. What is left to read falls.
use Rattle.std.proofs.Common.{◌≤◌, ◌+◌, ◌-◌, [], length, vec_len}
use Rattle.arn_lines.specs.declared.line.TheConstants.{MOST_LINE}
use Rattle.arn_base.specs.Faults.{NeverFalls}
use Rattle.arn_commands.specs.declared.reader.TheConstants.{MOST_TAKEN}
use Rattle.arn_commands.specs.Pieces.{ReadsLine}
use Rattle.arn_commands.proofs.reader.Reader.next_line.Given as goal

abbrev pub invariant-loop-self : goal.invariant-loop-self
invariant-loop-self g l =
    record {
      read : ReadsLine [] l.initial.self l.self (g.S.Source.left l.initial.source) (g.S.Source.left l.source) l.line.items;
      bound : vec_len l.line ≤ MOST_LINE + 1;
      within : l.self.taken ≤ MOST_TAKEN;
      faults : NeverFalls (g.S.Source.faults l.initial.source) (g.S.Source.faults l.source);
    }

abbrev pub decreases-loop-self : goal.decreases-loop-self
decreases-loop-self g l = (MOST_TAKEN + length l.self.ahead) - l.self.taken
