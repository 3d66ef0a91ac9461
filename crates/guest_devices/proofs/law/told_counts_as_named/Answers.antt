use Rattle.guest_devices.proofs.Counts.{counts_here, counts_reads, counts_writes}
use Rattle.guest_devices.proofs.law.told_counts_as_named.Goals as goal

pub returns-clause-here : goal.returns-clause-here
returns-clause-here c = counts_here

pub returns-clause-read : goal.returns-clause-read
returns-clause-read c = counts_reads

pub returns-clause-write : goal.returns-clause-write
returns-clause-write c = counts_writes
