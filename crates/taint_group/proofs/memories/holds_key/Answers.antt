use Rattle.std.proofs.Common.{refl}
use Rattle.taint_group.specs.declared.memories.MemoryKind.TheVariants.{Segment, Window}
use Rattle.taint_group.proofs.Releasing.{holds-other}
use Rattle.taint_group.proofs.memories.holds_key.Goals as goal

pub returns-then-member-key-clause-holds : goal.returns-then-member-key-clause-holds
returns-then-member-key-clause-holds c none = holds-other c.args.key c.args.entry.now c.in-Some.member Window c.in-Some.member.window c.in-Some.is refl none

pub returns-else-member-key-clause-holds : goal.returns-else-member-key-clause-holds
returns-else-member-key-clause-holds c none = holds-other c.args.key c.args.entry.now c.in-Some.member Segment c.in-Some-segment.held c.in-Some.is c.in-Some-segment.is none

pub returns-in-None-segment-clause-holds : goal.returns-in-None-segment-clause-holds
returns-in-None-segment-clause-holds c none = holds-other c.args.key c.args.entry.now c.in-Some.member Window c.in-Some.member.window c.in-Some.is refl none
