use Rattle.std.proofs.Common.{length, rules}
use Rattle.std.proofs.Math.Nat.{le_refl}
use Rattle.log_disk.specs.Steps.{span, written_to, cut_to}
use Rattle.log_disk.specs.Crash.{durable}
use Rattle.log_disk.proofs.Calls.{Elapses-made, Follows-write, Follows-cuts, NoLess-made, NoMore-sync, Only-sync}
use Rattle.log_disk.proofs.CrashLemmas.{NoLess-cut, NoLess-written}
use Rattle.log_disk.proofs.mem_disk.MemDiskDisk.TheImpl.Goals as goal

pub write-tells : goal.write-tells
write-tells c =
    let old = c.args.self.now in
    let piece = c.args.bytes.now in
    record {
      written = search rules;
      err = search rules;
      no_memory = search rules;
      crash = Follows-write c.result old c.new.self.now c.args.at (length piece) piece c.requires (le_refl _) record { ok = c.ensures.ok; err = c.ensures.err };
      keeps = NoLess-made c.result (written_to (span c.args.at (length piece)) piece old.held) old c.new.self.now record { ok = c.ensures.ok; err = c.ensures.err } (NoLess-written old.held c.args.at (length piece) piece c.requires (le_refl _));
      no_memory_crash = search rules;
      time = Elapses-made c.result (written_to (span c.args.at (length piece)) piece old.held) old c.new.self.now record { ok = c.ensures.ok; err = c.ensures.err };
      cause = search rules;
      wanted = search rules;
      faults = search rules;
      memory = search rules;
    }

pub cut-tells : goal.cut-tells
cut-tells c =
    let old = c.args.self.now in
    record {
      cut = search rules;
      err = search rules;
      no_memory = search rules;
      crash = Follows-cuts c.result old c.new.self.now c.args.len record { ok = c.ensures.ok; err = c.ensures.err };
      keeps = NoLess-made c.result (cut_to c.args.len old.held) old c.new.self.now record { ok = c.ensures.ok; err = c.ensures.err } (NoLess-cut old.held c.args.len);
      no_memory_crash = search rules;
      time = Elapses-made c.result (cut_to c.args.len old.held) old c.new.self.now record { ok = c.ensures.ok; err = c.ensures.err };
      cause = search rules;
      wanted = search rules;
      faults = search rules;
      memory = search rules;
    }

pub sync-tells : goal.sync-tells
sync-tells c =
    let old = c.args.self.now in
    record {
      durable = Only-sync c.result old c.new.self.now record { ok = c.ensures.ok; err = c.ensures.err };
      image = search rules;
      crash = NoMore-sync c.result old c.new.self.now record { ok = c.ensures.ok; err = c.ensures.err };
      keeps = search rules;
      time = Elapses-made c.result (durable old.held.image) old c.new.self.now record { ok = c.ensures.ok; err = c.ensures.err };
      cause = search rules;
      wanted = search rules;
      faults = search rules;
      memory = search rules;
    }
