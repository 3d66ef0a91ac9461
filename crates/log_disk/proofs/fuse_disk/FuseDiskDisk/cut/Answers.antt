use Rattle.std.proofs.Common.{subst, refl, sym}
use Rattle.log_disk.specs.InMemory.{IsListed}
use Rattle.log_disk.proofs.fuse_disk.FuseDiskDisk.cut.Goals as goal

pub returns-in_err-cut-clause-counted : goal.returns-in_err-cut-clause-counted
returns-in_err-cut-clause-counted c =
    let passed = c.pass-passed.ensures in
    rw (sym c.self.view_is) record { fails = passed.same; calls = passed.calls; fault = passed.fault; no_fault = passed.no_fault; faults = passed.faults }

pub returns-in_err-passed-clause-failed : goal.returns-in_err-passed-clause-failed
returns-in_err-passed-clause-failed c =
    λ failed. subst IsListed c.self.view_is (c.in_err-passed.ensures.fails.0 refl)

pub returns-in_err-passed-clause-counted : goal.returns-in_err-passed-clause-counted
returns-in_err-passed-clause-counted c =
    let passed = c.pass-passed.ensures in
    rw (sym c.self.view_is) record { fails = passed.same; calls = passed.calls; fault = passed.fault; no_fault = passed.no_fault; faults = passed.faults }
