-- A part of the line was read, and the reader moved more of it.
use Rattle.std.proofs.Common.{arith}
use Rattle.arn_commands.proofs.FaultLemmas.{NeverFalls-append}
use Rattle.arn_commands.proofs.ReaderLemmas.{ReadsLine-look, ReadsLine-more, UsesSome-line}
use Rattle.arn_commands.proofs.reader.Reader.next_line.Goals as goal

pub returns-then-branch-2-clause-line : goal.returns-then-branch-2-clause-line
returns-then-branch-2-clause-line g c =
    let moves = rw c.if-branch-2.true at c.in_ok-end_line.ensures.ok in
    ReadsLine-more _ _ _ _ _ _ _ _ (ReadsLine-look _ _ _ _ _ _ _ c.loop-self.invariant.read c.look_ahead.ensures.used) moves c.end_line.ensures.taken

pub loop-self-preserved : goal.loop-self-preserved
loop-self-preserved g c =
    let moves = rw c.if-branch-2.false at c.in_ok-end_line.ensures.ok in
    record {
      read = ReadsLine-more _ _ _ _ _ _ _ _ (ReadsLine-look _ _ _ _ _ _ _ c.loop-self.invariant.read c.look_ahead.ensures.used) moves c.end_line.ensures.taken;
      bound = omega arith;
      within = omega arith;
      faults = NeverFalls-append _ _ _ c.loop-self.invariant.faults c.look_ahead.ensures.faults;
    }

pub returns-then-branch-2-clause-used : goal.returns-then-branch-2-clause-used
returns-then-branch-2-clause-used g c = UsesSome-line _ _ _ _ _ _ (returns-then-branch-2-clause-line g c)
