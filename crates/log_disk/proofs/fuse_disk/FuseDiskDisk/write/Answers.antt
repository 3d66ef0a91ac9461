use Rattle.std.proofs.Common.{subst, sym, IsErr}
use Rattle.log_disk.specs.InMemory.{IsListed}
use Rattle.log_disk.proofs.fuse_disk.FuseDiskDisk.write.Goals as goal

pub returns-in_err-write-clause-counted : goal.returns-in_err-write-clause-counted
returns-in_err-write-clause-counted c =
    let passed = c.pass-passed.ensures in
    rw (sym c.self.view_is) record { fails = passed.same; calls = passed.calls; fault = passed.fault; no_fault = passed.no_fault; faults = passed.faults }

pub returns-then-is_err-clause-failed : goal.returns-then-is_err-clause-failed
returns-then-is_err-clause-failed c =
    let blew : IsErr c.pass-passed.result = cc in
    λ failed. subst IsListed c.self.view_is (c.pass-passed.ensures.fails.0 blew)

pub returns-then-is_err-clause-counted : goal.returns-then-is_err-clause-counted
returns-then-is_err-clause-counted c =
    let passed = c.pass-passed.ensures in
    rw (sym c.self.view_is) record { fails = passed.same; calls = passed.calls; fault = passed.fault; no_fault = passed.no_fault; faults = passed.faults }
