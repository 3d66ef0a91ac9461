use Rattle.std.proofs.Common.{◌≡◌, ◌∙◌, ℕ, List, IfSome, subst, refl, sym}
use Rattle.parts_model.specs.Replies.{Failed, IsAbsent}
use Rattle.acts_model.specs.Bodies.{View}
use Rattle.acts_model.specs.Views.{read}
use Rattle.arn_model.specs.Doing.{Writes}
use Rattle.arn_model.specs.TransferCalls.{absent, device_failed}
use Rattle.guest_bodies.specs.Shown.{seen_in}
use Rattle.guest_devices.specs.Answers as devices
use Rattle.guest_calls.specs.State.{State}
use Rattle.guest_calls.proofs.Asks.{took, write-absent, write-fails, replied}
use Rattle.guest_calls.proofs.Stands.{at-seen}
use Rattle.guest_calls.proofs.Returned.{no-ok, on-err}
use Rattle.guest_calls.specs.Fits.{IsShort}
use Rattle.guest_calls.proofs.kernel.Kernel.write_device.Goals as goal

pub returns-in-Gave-clause-replied : goal.returns-in-Gave-clause-replied
returns-in-Gave-clause-replied g c =
    let told : IfSome (seen_in c.args.self.now.guests c.args.pid) (λ v. c.in_ok-bytes.bytes ≡ read v c.args.at c.args.count) =
    subst (λ (s : State). IfSome (seen_in s.guests c.args.pid) (λ v. c.in_ok-bytes.bytes ≡ read v c.args.at c.args.count)) c.self.view_is c.in_ok-bytes.ensures.read in
    took g.A.Answers.answers c.args.answers.now c.put.new.self c.args.pid c.args.self.now c.returns.new.self c.args.device c.args.at c.args.count c.in-Gave.taken c.in_ok-bytes.bytes c.as_slice.result.now c.truncate.new.self c.as_slice.ensures c.in_ok-bytes.ensures.count c.in-Gave.ensures.within c.truncate.ensures told c.in-Gave.ensures.answers c.returns.ensures

pub returns-in-Fault-clause-replied : goal.returns-in-Fault-clause-replied
returns-in-Fault-clause-replied g c =
    let told : IfSome (seen_in c.args.self.now.guests c.args.pid) (λ v. c.in_ok-bytes.bytes ≡ read v c.args.at c.args.count) =
    subst (λ (s : State). IfSome (seen_in s.guests c.args.pid) (λ v. c.in_ok-bytes.bytes ≡ read v c.args.at c.args.count)) c.self.view_is c.in_ok-bytes.ensures.read in
    replied g.A.Answers.answers c.args.answers.now c.put.new.self c.args.pid c.args.self.now c.fails.new.self (Writes c.args.device c.args.at c.args.count) Failed c.fails.result (λ m. device_failed m.kernel) (λ m v. write-fails m c.args.pid v c.args.device c.args.at c.args.count)
    (λ v sees. subst (λ (x : List ℕ). g.A.Answers.answers c.args.answers.now (devices.Writes c.args.device x) Failed c.put.new.self)
    (c.as_slice.ensures ∙ at-seen (seen_in c.args.self.now.guests c.args.pid) v (λ (w : View). c.in_ok-bytes.bytes ≡ read w c.args.at c.args.count) sees told) c.in-Fault.ensures.answers) c.fails.ensures.carried

pub returns-in-Absent-clause-replied : goal.returns-in-Absent-clause-replied
returns-in-Absent-clause-replied g c =
    let told : IfSome (seen_in c.args.self.now.guests c.args.pid) (λ v. c.in_ok-bytes.bytes ≡ read v c.args.at c.args.count) =
    subst (λ (s : State). IfSome (seen_in s.guests c.args.pid) (λ v. c.in_ok-bytes.bytes ≡ read v c.args.at c.args.count)) c.self.view_is c.in_ok-bytes.ensures.read in
    replied g.A.Answers.answers c.args.answers.now c.put.new.self c.args.pid c.args.self.now c.fails-in-Absent.new.self (Writes c.args.device c.args.at c.args.count) IsAbsent c.fails-in-Absent.result (λ m. absent m.kernel) (λ m v. write-absent m c.args.pid v c.args.device c.args.at c.args.count)
    (λ v sees. subst (λ (x : List ℕ). g.A.Answers.answers c.args.answers.now (devices.Writes c.args.device x) IsAbsent c.put.new.self)
    (c.as_slice.ensures ∙ at-seen (seen_in c.args.self.now.guests c.args.pid) v (λ (w : View). c.in_ok-bytes.bytes ≡ read w c.args.at c.args.count) sees told) c.in-Absent.ensures.answers) c.fails-in-Absent.ensures.carried

pub returns-in_err-bytes-clause-replied : goal.returns-in_err-bytes-clause-replied
returns-in_err-bytes-clause-replied g c = no-ok _ c.from_residual.result c.from_residual.ensures.0

pub returns-in_err-bytes-clause-short : goal.returns-in_err-bytes-clause-short
returns-in_err-bytes-clause-short g c = no-ok _ c.from_residual.result c.from_residual.ensures.0

pub returns-in_err-bytes-clause-err : goal.returns-in_err-bytes-clause-err
returns-in_err-bytes-clause-err g c = on-err c.from_residual.result refl

pub returns-in_err-bytes-clause-unasked : goal.returns-in_err-bytes-clause-unasked
returns-in_err-bytes-clause-unasked g c = on-err c.from_residual.result refl

pub returns-in-Fault-clause-short : goal.returns-in-Fault-clause-short
returns-in-Fault-clause-short g c = subst IsShort (sym c.fails.ensures.extra) tt

pub returns-in-Absent-clause-short : goal.returns-in-Absent-clause-short
returns-in-Absent-clause-short g c = subst IsShort (sym c.fails-in-Absent.ensures.extra) tt
