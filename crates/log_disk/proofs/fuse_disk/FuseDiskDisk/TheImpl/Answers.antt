use Rattle.std.proofs.Common.{ℕ, length, rules, arith}
use Rattle.std.proofs.Math.Nat.{le_refl}
use Rattle.std.proofs.lemmas.List.{length-take}
use Rattle.log_disk.specs.Crash.{durable}
use Rattle.log_disk.specs.Steps.{span, first_half, written_to, cut_to}
use Rattle.log_disk.proofs.Calls.{Cut-makes, Elapses-fused, Elapses-made, Elapses-makes, Follows-write_makes, Follows-cut_makes, Torn-makes, NoLess-makes, NoMore-sync, Only-sync}
use Rattle.log_disk.proofs.CrashLemmas.{NoLess-cut, NoLess-written}
use Rattle.log_disk.proofs.fuse_disk.FuseDiskDisk.TheImpl.Goals as goal

pub write-tells : goal.write-tells
write-tells c =
    let old = c.args.self.now.disk in
    let new = c.new.self.now.disk in
    let piece = c.args.bytes.now in
    let half = first_half piece in
    let n = length piece in
    record {
      written = search rules;
      err = Torn-makes c.result old new c.args.at n piece half c.requires (omega (arith, length-take {A = ℕ})) c.ensures.makes;
      no_memory = search rules;
      crash = Follows-write_makes c.result old new c.args.at n piece half c.requires (le_refl _) (omega (arith, length-take {A = ℕ})) c.ensures.makes;
      keeps = NoLess-makes c.result (written_to (span c.args.at n) piece old.held) (written_to (span c.args.at n) half old.held) old new c.ensures.makes (NoLess-written old.held c.args.at n piece c.requires (le_refl _)) (NoLess-written old.held c.args.at n half c.requires (omega (arith, length-take {A = ℕ})));
      no_memory_crash = search rules;
      time = Elapses-fused c.args.self.now c.new.self.now (Elapses-makes c.result (written_to (span c.args.at n) piece old.held) (written_to (span c.args.at n) half old.held) old new c.ensures.makes);
      cause = search rules;
      wanted = search rules;
      faults = search rules;
      memory = search rules;
    }

pub cut-tells : goal.cut-tells
cut-tells c =
    let old = c.args.self.now.disk in
    let new = c.new.self.now.disk in
    record {
      cut = search rules;
      err = Cut-makes c.result old new c.args.len c.ensures.makes;
      no_memory = search rules;
      crash = Follows-cut_makes c.result old new c.args.len c.ensures.makes;
      keeps = NoLess-makes c.result (cut_to c.args.len old.held) (cut_to c.args.len old.held) old new c.ensures.makes (NoLess-cut old.held c.args.len) (NoLess-cut old.held c.args.len);
      no_memory_crash = search rules;
      time = Elapses-fused c.args.self.now c.new.self.now (Elapses-makes c.result (cut_to c.args.len old.held) (cut_to c.args.len old.held) old new c.ensures.makes);
      cause = search rules;
      wanted = search rules;
      faults = search rules;
      memory = search rules;
    }

pub sync-tells : goal.sync-tells
sync-tells c =
    let old = c.args.self.now.disk in
    let new = c.new.self.now.disk in
    record {
      durable = Only-sync c.result old new record { ok = c.ensures.ok; err = c.ensures.err };
      image = search rules;
      crash = NoMore-sync c.result old new record { ok = c.ensures.ok; err = c.ensures.err };
      keeps = search rules;
      time = Elapses-fused c.args.self.now c.new.self.now (Elapses-made c.result (durable old.held.image) old new record { ok = c.ensures.ok; err = c.ensures.err });
      cause = search rules;
      wanted = search rules;
      faults = search rules;
      memory = search rules;
    }
