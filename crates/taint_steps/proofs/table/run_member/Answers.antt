use Rattle.std.proofs.Common.{refl, slice_set}
use Rattle.std.proofs.lemmas.List.{length-set}
use Rattle.taint_steps.proofs.Entries.{runs-entry, runs-none}
use Rattle.taint_steps.proofs.Stepping.{still}
use Rattle.taint_steps.proofs.table.run_member.Goals as goal

pub returns-then-place-members-clause-runs : goal.returns-then-place-members-clause-runs
returns-then-place-members-clause-runs c =
    runs-entry c.run_entry.result c.args.pid c.args.linkage c.args.instr.now c.args.before.now c.index-members-place.result c.run_entry.new.entry
    (record { members = c.args.members.now; memories = c.args.memories.now; sets = c.args.sets.now })
    (record { members = slice_set c.args.members.now c.args.pid c.run_entry.new.entry; memories = c.run_entry.new.memories; sets = c.run_entry.new.sets })
    c.if-place-members.true refl c.run_entry.ensures.runs

pub returns-else-place-members-clause-runs : goal.returns-else-place-members-clause-runs
returns-else-place-members-clause-runs c =
    runs-none c.args.pid c.args.linkage c.args.instr.now c.args.before.now (record { members = c.args.members.now; memories = c.args.memories.now; sets = c.args.sets.now }) c.if-place-members.false

pub returns-then-place-members-clause-before : goal.returns-then-place-members-clause-before
returns-then-place-members-clause-before c = c.run_entry.ensures.before

pub returns-then-place-members-clause-keys : goal.returns-then-place-members-clause-keys
returns-then-place-members-clause-keys c = c.run_entry.ensures.keys

pub returns-then-place-members-clause-members : goal.returns-then-place-members-clause-members
returns-then-place-members-clause-members c = length-set c.args.members.now c.args.pid c.run_entry.new.entry

pub returns-else-place-members-clause-before : goal.returns-else-place-members-clause-before
returns-else-place-members-clause-before c = still c.args.sets.now

pub returns-else-place-members-clause-keys : goal.returns-else-place-members-clause-keys
returns-else-place-members-clause-keys c = refl

pub returns-else-place-members-clause-members : goal.returns-else-place-members-clause-members
returns-else-place-members-clause-members c = refl

pub bounds-members-place : goal.bounds-members-place
bounds-members-place c = c.if-place-members.true
