use Rattle.taint_group.proofs.Sharing.{next-free}
use Rattle.taint_group.proofs.memories.free_key.Goals as goal

pub returns-clause-free : goal.returns-clause-free
returns-clause-free c = next-free c.args.count c.args.members.now c.requires.once
