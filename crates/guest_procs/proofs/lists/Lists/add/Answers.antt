use Rattle.std.proofs.Common.{◌≡◌, ◌+◌, length, arith}
use Rattle.guest_procs.specs.Shown.{process_of}
use Rattle.guest_procs.proofs.Ends.{added-sound}
use Rattle.guest_procs.proofs.lists.Lists.add.Goals as goal

pub returns-clause-sound : goal.returns-clause-sound
returns-clause-sound c =
    let next : c.len.result + 1 ≡ length c.args.self.now.table + 1 = omega arith in
    added-sound c.args.self.now.table c.push.new.self (process_of c.args.process) (c.len.result + 1) c.args.self.now.present.items c.args.self.now.live.items c.push-2.new.self.items c.push-3.new.self.items c.requires.sound c.requires.lives next c.in_ok-push.ensures.ok (rw c.reserve.ensures.items at c.in_ok-push-2.ensures.items) (rw c.reserve-2.ensures.items at c.in_ok-push-3.ensures.items)
