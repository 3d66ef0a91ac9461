use Rattle.std.proofs.Common.{sym}
use Rattle.replayer.proofs.Founders.{founded}
use Rattle.replayer.proofs.founding.founder.Goals as goal

pub returns-clause-begins : goal.returns-clause-begins
returns-clause-begins c =
    (founded c.args.entries.now c.args.group c.in_ok-event.event c.in_ok-entry.entry.now c.requires.indexed.stands (sym (c.in_ok-event.ensures c.args.entries.now c.requires.indexed)) (sym c.in_ok-entry.ensures)).begins

pub returns-clause-member : goal.returns-clause-member
returns-clause-member c =
    (founded c.args.entries.now c.args.group c.in_ok-event.event c.in_ok-entry.entry.now c.requires.indexed.stands (sym (c.in_ok-event.ensures c.args.entries.now c.requires.indexed)) (sym c.in_ok-entry.ensures)).member
