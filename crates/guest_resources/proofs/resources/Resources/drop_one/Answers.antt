use Rattle.std.proofs.Common.{sym, refl, Some, None}
use Rattle.guest_resources.proofs.Changed.{last-holds, after-sound}
use Rattle.guest_resources.proofs.resources.Resources.drop_one.Goals as goal

pub close-requires : goal.close-requires
close-requires c = last-holds (record { files = c.self.inside.files; descriptions = c.self.inside.descriptions }) c.args.number c.in_ok-what.what c.self.invariant (sym c.in_ok-what.ensures.last)

pub invariant_of-self : goal.invariant_of-self
invariant_of-self c = after-sound (record { files = c.self.inside.files; descriptions = c.self.inside.descriptions }) c.args.number None c.self.inside.files c.drop_one.new.self (sym c.in_err-what.ensures.last) c.drop_one.ensures.fewer refl c.self.invariant

pub invariant_of-self-in-File : goal.invariant_of-self-in-File
invariant_of-self-in-File c = after-sound (record { files = c.self.inside.files; descriptions = c.self.inside.descriptions }) c.args.number (Some c.in_ok-what.what) c.close.new.files c.drop_one.new.self (sym c.in_ok-what.ensures.last) c.drop_one.ensures.fewer c.close.ensures c.self.invariant

pub invariant_of-self-2 : goal.invariant_of-self-2
invariant_of-self-2 c = after-sound (record { files = c.self.inside.files; descriptions = c.self.inside.descriptions }) c.args.number (Some c.in_ok-what.what) c.close.new.files c.drop_one.new.self (sym c.in_ok-what.ensures.last) c.drop_one.ensures.fewer c.close.ensures c.self.invariant
