use Rattle.std.proofs.Common.{◌-◌, length}
use Rattle.log_store.proofs.ReadRecords.{IsRead}
use Rattle.log_store.proofs.payloads.read_payload.Given as goal

abbrev pub invariant-loop-at : goal.invariant-loop-at
invariant-loop-at l = IsRead l.payload l.initial.entries.items l.entries.items l.at

abbrev pub decreases-loop-at : goal.decreases-loop-at
decreases-loop-at l = length l.payload - l.at
