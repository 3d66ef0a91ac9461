use Rattle.std.proofs.Common.{◌≡◌, ℕ, false, refl, sym, subst, arith}
use Rattle.arn_model.specs.ChannelCalls.{accept_row}
use Rattle.arn_model.specs.ProcessCalls.{wait_row}
use Rattle.guest_requests.specs.Standing.{can_wait}
use Rattle.guest_calls.specs.Tried.{Tried}
use Rattle.guest_calls.proofs.Called.{called, ready-number}
use Rattle.guest_calls.proofs.Requests.{ended-ready, errs-otherwise}
use Rattle.guest_calls.proofs.Tries.{called-by, unasking}
use Rattle.guest_calls.proofs.kernel.Kernel.carry_out.Goals as goal

pub returns-in-11 : goal.returns-in-11
returns-in-11 g c =
    let t = called-by c.read.result c.read.ensures c.call_number.result 11 c.call_number.ensures c.in-11.is c.calls_come_to_rows.ensures.read in
    record { ended = t.ended; short = t.short; waits = t.waits; err = t.err; unasked = t.unasked }

pub returns-in-12 : goal.returns-in-12
returns-in-12 g c =
    let t = called-by c.write.result c.write.ensures c.call_number.result 12 c.call_number.ensures c.in-12.is c.calls_come_to_rows.ensures.write in
    record { ended = t.ended; short = t.short; waits = t.waits; err = t.err; unasked = t.unasked }

pub returns-in-21 : goal.returns-in-21
returns-in-21 g c =
    let t = called-by c.device.result c.device.ensures c.call_number.result 21 c.call_number.ensures c.in-21.is c.calls_come_to_rows.ensures.device in
    record { ended = t.ended; short = t.short; waits = t.waits; err = t.err; unasked = t.unasked }

pub returns-in-4 : goal.returns-in-4
returns-in-4 g c =
    let tried : Tried g.A.Answers.answers c.args.answers.now c.args.answers.now wait_row c.args.pid c.wait.result c.args.self.now c.wait.new.self =
    unasking c.wait.result refl c.wait.ensures.carried c.wait.ensures.short c.wait.ensures.waits c.wait.ensures.err in
    let t = called-by c.wait.result tried c.call_number.result 4 c.call_number.ensures c.in-4.is c.calls_come_to_rows.ensures.wait in
    record { ended = t.ended; short = t.short; waits = t.waits; err = t.err; unasked = t.unasked }

pub returns-in-20 : goal.returns-in-20
returns-in-20 g c =
    let tried : Tried g.A.Answers.answers c.args.answers.now c.args.answers.now accept_row c.args.pid c.accept.result c.args.self.now c.accept.new.self =
    unasking c.accept.result refl c.accept.ensures.carried c.accept.ensures.short c.accept.ensures.waits c.accept.ensures.err in
    let t = called-by c.accept.result tried c.call_number.result 20 c.call_number.ensures c.in-20.is c.calls_come_to_rows.ensures.accept in
    record { ended = t.ended; short = t.short; waits = t.waits; err = t.err; unasked = t.unasked }

pub returns-in_err-carry_out_ready-in_default-clause-waits : goal.returns-in_err-carry_out_ready-in_default-clause-waits
returns-in_err-carry_out_ready-in_default-clause-waits g c m v stands sees =
    ended-ready _ _ (λ e. errs-otherwise _ _ c.from_residual.ensures.1 (λ p. cc) e)
    (c.others_are_ready.ensures.ready m c.args.pid v
    (subst (λ (n : ℕ). can_wait n ≡ false) (sym (called c.args.self.now c.args.pid c.call_number.result c.call_number.result m v stands sees c.call_number.ensures refl))
    (ready-number c.call_number.result (λ (e : c.call_number.result ≡ 11). omega arith) (λ (e : c.call_number.result ≡ 12). omega arith) (λ (e : c.call_number.result ≡ 4). omega arith) (λ (e : c.call_number.result ≡ 20). omega arith))))
