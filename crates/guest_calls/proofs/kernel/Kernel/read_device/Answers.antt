use Rattle.std.proofs.Common.{◌≡◌, ◌∙◌, ℕ, List, length, subst, arith, refl, sym}
use Rattle.parts_model.specs.Replies.{Failed, IsAbsent}
use Rattle.acts_model.specs.Acts.{Receives}
use Rattle.arn_model.specs.Doing.{Reads}
use Rattle.arn_model.specs.TransferCalls.{absent, device_failed}
use Rattle.guest_devices.specs.Answers as devices
use Rattle.guest_calls.specs.Acted.{Acted}
use Rattle.guest_calls.proofs.Asks.{few-given, front-of, gave, read-absent, read-fails, replied}
use Rattle.guest_calls.proofs.Returned.{no-ok, on-err, still-enough}
use Rattle.guest_calls.specs.Fits.{IsShort}
use Rattle.guest_calls.proofs.kernel.Kernel.read_device.Goals as goal

pub returns-in-Gave-clause-replied : goal.returns-in-Gave-clause-replied
returns-in-Gave-clause-replied g c =
    let whole : length c.as_mut_slice.result.now ≡ c.args.most = c.as_mut_slice.ensures.len ∙ c.in_ok-buffer.ensures.len in
    let held : length c.ask.new.buf ≡ length c.as_mut_slice.result.now = omega arith in
    let room : length c.ask.new.buf ≡ c.in_ok-buffer.buffer.len = omega arith in
    gave g.A.Answers.answers c.args.answers.now c.ask.new.self c.args.pid c.args.self.now c.receives.new.self c.args.device c.args.at c.args.most (length c.as_mut_slice.result.now) c.in-Gave.count c.ask.new.buf c.front_of-bytes.result whole held c.in-Gave.ensures.within
    (c.front_of-bytes.ensures ∙ front-of c.in-Gave.count c.in_ok-buffer.buffer.len c.ask.new.buf _ room) c.in-Gave.ensures.answers
    (subst (λ (x : List ℕ). Acted c.args.pid (Receives c.args.at x c.in-Gave.count) c.args.self.now.kernel c.args.self.now c.receives.new.self) c.as_slice.ensures c.receives.ensures)

pub returns-in-Fault-clause-replied : goal.returns-in-Fault-clause-replied
returns-in-Fault-clause-replied g c =
    let whole : length c.as_mut_slice.result.now ≡ c.args.most = c.as_mut_slice.ensures.len ∙ c.in_ok-buffer.ensures.len in
    replied g.A.Answers.answers c.args.answers.now c.ask.new.self c.args.pid c.args.self.now c.fails.new.self (Reads c.args.device c.args.at c.args.most) Failed c.fails.result (λ m. device_failed m.kernel) (λ m v. read-fails m c.args.pid v c.args.device c.args.at c.args.most)
    (λ v sees. subst (λ (n : ℕ). g.A.Answers.answers c.args.answers.now (devices.Reads c.args.device n) Failed c.ask.new.self) whole c.in-Fault.ensures.answers) c.fails.ensures.carried

pub returns-in-Absent-clause-replied : goal.returns-in-Absent-clause-replied
returns-in-Absent-clause-replied g c =
    let whole : length c.as_mut_slice.result.now ≡ c.args.most = c.as_mut_slice.ensures.len ∙ c.in_ok-buffer.ensures.len in
    replied g.A.Answers.answers c.args.answers.now c.ask.new.self c.args.pid c.args.self.now c.fails-in-Absent.new.self (Reads c.args.device c.args.at c.args.most) IsAbsent c.fails-in-Absent.result (λ m. absent m.kernel) (λ m v. read-absent m c.args.pid v c.args.device c.args.at c.args.most)
    (λ v sees. subst (λ (n : ℕ). g.A.Answers.answers c.args.answers.now (devices.Reads c.args.device n) IsAbsent c.ask.new.self) whole c.in-Absent.ensures.answers) c.fails-in-Absent.ensures.carried

pub returns-in_err-spare-clause-replied : goal.returns-in_err-spare-clause-replied
returns-in_err-spare-clause-replied g c = no-ok _ c.from_residual.result c.from_residual.ensures.0

pub returns-in_err-spare-clause-short : goal.returns-in_err-spare-clause-short
returns-in_err-spare-clause-short g c = no-ok _ c.from_residual.result c.from_residual.ensures.0

pub returns-in_err-spare-clause-err : goal.returns-in_err-spare-clause-err
returns-in_err-spare-clause-err g c = on-err c.from_residual.result refl

pub returns-in_err-spare-clause-unasked : goal.returns-in_err-spare-clause-unasked
returns-in_err-spare-clause-unasked g c = on-err c.from_residual.result refl

pub returns-in_err-buffer-clause-replied : goal.returns-in_err-buffer-clause-replied
returns-in_err-buffer-clause-replied g c = no-ok _ c.from_residual-in_err-buffer.result c.from_residual-in_err-buffer.ensures.0

pub returns-in_err-buffer-clause-short : goal.returns-in_err-buffer-clause-short
returns-in_err-buffer-clause-short g c = no-ok _ c.from_residual-in_err-buffer.result c.from_residual-in_err-buffer.ensures.0

pub returns-in_err-buffer-clause-err : goal.returns-in_err-buffer-clause-err
returns-in_err-buffer-clause-err g c = on-err c.from_residual-in_err-buffer.result refl

pub returns-in_err-buffer-clause-unasked : goal.returns-in_err-buffer-clause-unasked
returns-in_err-buffer-clause-unasked g c = on-err c.from_residual-in_err-buffer.result refl

pub returns-in-Fault-clause-short : goal.returns-in-Fault-clause-short
returns-in-Fault-clause-short g c = subst IsShort (sym c.fails.ensures.extra) tt

pub returns-in-Absent-clause-short : goal.returns-in-Absent-clause-short
returns-in-Absent-clause-short g c = subst IsShort (sym c.fails-in-Absent.ensures.extra) tt

pub receives-requires-clause-enough : goal.receives-requires-clause-enough
receives-requires-clause-enough g c =
    still-enough (length c.as_slice.result.now) c.args.most c.in_ok-spare.spare
    (few-given c.in-Gave.count (length c.as_mut_slice.result.now) c.args.most c.front_of-bytes.result c.as_slice.result.now _ c.as_slice.ensures c.front_of-bytes.ensures c.in-Gave.ensures.within (c.as_mut_slice.ensures.len ∙ c.in_ok-buffer.ensures.len)) c.in_ok-spare.ensures
