use Rattle.std.proofs.Common.{refl, subst}
use Rattle.arn_base.specs.declared.records.Extra.TheVariants as extra
use Rattle.parts_model.specs.declared.open.Description.TheVariants.{File}
use Rattle.acts_model.specs.Acts.{Returns}
use Rattle.arn_model.specs.FileCalls.{seek_in}
use Rattle.guest_calls.specs.Acted.{Carried}
use Rattle.guest_calls.specs.Kept.{state_of}
use Rattle.guest_calls.specs.State.{State, OfProcess}
use Rattle.guest_calls.proofs.Carries.{acted-across, carried-by}
use Rattle.guest_calls.proofs.Opening.{seek-is}
use Rattle.guest_calls.proofs.Stands.{machine_with}
use Rattle.guest_calls.proofs.Room.{live-sound}
use Rattle.guest_calls.proofs.Returned.{has-room, lives}
use Rattle.guest_calls.proofs.kernel.Kernel.seek_file.Goals as goal

pub returns-clause-carried : goal.returns-clause-carried
returns-clause-carried c place =
    let old : State = state_of c.self.inside in
    let mid : State = state_of (record c.self.inside { resources = c.move_to.new.self }) in
    subst (λ (s : State). OfProcess s c.args.pid (λ m v. Carried (seek_in m c.args.number c.args.position (File c.args.file place)) (record { result = c.args.position; extra = extra.Nothing }) m c.args.pid v c.returns.new.self)) c.self.view_is
    (carried-by c.args.pid c.args.position extra.Nothing mid.kernel old c.returns.new.self (λ m v. seek_in m c.args.number c.args.position (File c.args.file place))
    (acted-across c.args.pid (Returns c.args.position) mid.kernel mid.kernel old mid c.returns.new.self refl (c.returns.ensures (Returns c.args.position) refl))
    (λ b v sees. seek-is (machine_with b old) c.args.number c.args.file place c.args.position c.file_length.result mid.kernel c.file_length.ensures.length c.if-position-file_length.false (c.move_to.ensures.kernel old.kernel)))

pub invariant_of-self : goal.invariant_of-self
invariant_of-self c = live-sound c.self.inside c.args.self.now c.args.pid c.self.view_is c.self.invariant c.requires.live

pub returns-requires-clause-live : goal.returns-requires-clause-live
returns-requires-clause-live c = lives c.self.inside c.args.self.now c.args.pid c.self.view_is c.requires.live

pub returns-requires-clause-room : goal.returns-requires-clause-room
returns-requires-clause-room c = has-room c.self.inside c.args.self.now c.self.view_is c.requires.room
