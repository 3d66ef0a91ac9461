use Rattle.guest_resources.proofs.Opening.{changes-then, opened-taken_back}
use Rattle.arn_model.specs.Kernel.{with_new}
use Rattle.guest_resources.proofs.resources.Resources.open_two.Goals as goal

pub returns-in-Ok-clause-opened : goal.returns-in-Ok-clause-opened
returns-in-Ok-clause-opened c = changes-then c.args.self.now c.open_channel.new.self c.open_channel-2.new.self (with_new c.args.first) (with_new c.args.second) c.in_ok-number.ensures.opened c.in-Ok.ensures.opened

pub returns-in-Err-clause-err : goal.returns-in-Err-clause-err
returns-in-Err-clause-err c = opened-taken_back c.args.self.now c.open_channel.new.self c.open_channel-2.new.self c.remove_last.new.self c.args.first c.in_ok-number.ensures.opened c.in-Err.ensures.err c.remove_last.ensures
