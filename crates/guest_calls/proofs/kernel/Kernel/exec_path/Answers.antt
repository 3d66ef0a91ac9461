use Rattle.std.proofs.Common.{◌≡◌, ◌∙◌, ℕ, List, Some, option_map, true, false, ap, sym, subst, arith, refl}
use Rattle.parts_model.specs.Files.{file_bytes, find_file}
use Rattle.parts_model.specs.Image.{is_image}
use Rattle.parts_model.specs.Signals.{no_handlers}
use Rattle.parts_model.specs.Tagged.{given}
use Rattle.acts_model.specs.Acts.{Starts}
use Rattle.arn_model.specs.Doing.{returns}
use Rattle.arn_model.specs.Kernel.{with_handling}
use Rattle.arn_model.specs.ProcessCalls.{exec_file}
use Rattle.guest_calls.specs.Acted.{Acted}
use Rattle.guest_calls.specs.State.{State}
use Rattle.guest_calls.proofs.Carries.{carried-same}
use Rattle.guest_calls.proofs.Restarts.{exec-carried, not-image}
use Rattle.guest_calls.proofs.Returned.{no-ok, nothing-short, on-err}
use Rattle.guest_calls.proofs.kernel.Kernel.exec_path.Goals as goal

pub returns-then-not-is_image-clause-carried : goal.returns-then-not-is_image-clause-carried
returns-then-not-is_image-clause-carried c =
    let found : find_file c.args.self.now.kernel.files c.args.path.now ≡ Some c.in-Some.file = ap (λ (s : State). find_file s.kernel.files c.args.path.now) (sym c.self.view_is) ∙ (sym c.find_file.ensures.found ∙ c.in-Some.is) in
    let read : Some c.in_ok-give.give ≡ option_map given (file_bytes c.args.self.now.kernel.files c.in-Some.file) = subst (λ (s : State). Some c.in_ok-give.give ≡ option_map given (file_bytes s.kernel.files c.in-Some.file)) c.self.view_is c.in_ok-give.ensures.given in
    let tested : c.is_image.result ≡ false = first_of (cc, grind arith) in
    let none : is_image c.in_ok-give.give.bytes ≡ false = ap is_image (sym c.as_slice.ensures) ∙ (sym c.is_image.ensures ∙ tested) in
    carried-same c.args.pid c.answers-then-not-is_image.result c.args.self.now c.answers-then-not-is_image.new.self (λ m v. returns c.error-then-not-is_image.result m.kernel) (λ m v. exec_file m c.args.pid v (find_file m.kernel.files c.args.path.now)) c.answers-then-not-is_image.ensures.carried
    (λ b v sees. ap (λ (a : ℕ). returns a c.args.self.now.kernel) c.error-then-not-is_image.ensures ∙ sym (not-image c.args.self.now c.args.pid c.in-Some.file c.args.path.now c.in_ok-give.give found read b v none))

pub returns-clause-carried : goal.returns-clause-carried
returns-clause-carried c =
    let found : find_file c.args.self.now.kernel.files c.args.path.now ≡ Some c.in-Some.file = ap (λ (s : State). find_file s.kernel.files c.args.path.now) (sym c.self.view_is) ∙ (sym c.find_file.ensures.found ∙ c.in-Some.is) in
    let read : Some c.in_ok-give.give ≡ option_map given (file_bytes c.args.self.now.kernel.files c.in-Some.file) = subst (λ (s : State). Some c.in_ok-give.give ≡ option_map given (file_bytes s.kernel.files c.in-Some.file)) c.self.view_is c.in_ok-give.ensures.given in
    let tested : c.is_image.result ≡ true = first_of (cc, grind arith) in
    let image : is_image c.in_ok-give.give.bytes ≡ true = ap is_image (sym c.as_slice.ensures) ∙ (sym c.is_image.ensures ∙ tested) in
    exec-carried c.args.self.now c.args.pid c.in-Some.file c.args.path.now c.in_ok-give.give found read c.restart.new.self c.args.block c.args.block_len image c.requires.block c.requires.block_len
    (subst (λ (x : List ℕ). Acted c.args.pid (Starts x c.args.block c.args.block_len) (with_handling c.args.pid (λ h. record h { handlers = no_handlers }) c.args.self.now.kernel) c.args.self.now c.restart.new.self) c.as_slice-2.ensures c.in_ok-restart.ensures.started)

pub returns-in-None-clause-short : goal.returns-in-None-clause-short
returns-in-None-clause-short c = nothing-short c.answers.ensures.nothing

pub returns-in_err-give-clause-carried : goal.returns-in_err-give-clause-carried
returns-in_err-give-clause-carried c = no-ok _ c.from_residual.result c.from_residual.ensures.0

pub returns-in_err-give-clause-short : goal.returns-in_err-give-clause-short
returns-in_err-give-clause-short c = no-ok _ c.from_residual.result c.from_residual.ensures.0

pub returns-in_err-give-clause-err : goal.returns-in_err-give-clause-err
returns-in_err-give-clause-err c = on-err c.from_residual.result refl

pub returns-then-not-is_image-clause-short : goal.returns-then-not-is_image-clause-short
returns-then-not-is_image-clause-short c = nothing-short c.answers-then-not-is_image.ensures.nothing

pub returns-in_err-restart-clause-carried : goal.returns-in_err-restart-clause-carried
returns-in_err-restart-clause-carried c = no-ok _ c.from_residual-in_err-restart.result c.from_residual-in_err-restart.ensures.0

pub returns-in_err-restart-clause-short : goal.returns-in_err-restart-clause-short
returns-in_err-restart-clause-short c = no-ok _ c.from_residual-in_err-restart.result c.from_residual-in_err-restart.ensures.0

pub answers-requires-clause-live : goal.answers-requires-clause-live
answers-requires-clause-live c = c.requires.live

pub answers-requires-clause-room : goal.answers-requires-clause-room
answers-requires-clause-room c = c.requires.room

pub returns-in-None-clause-err : goal.returns-in-None-clause-err
returns-in-None-clause-err c = tt

pub answers-requires-then-not-is_image-clause-live : goal.answers-requires-then-not-is_image-clause-live
answers-requires-then-not-is_image-clause-live c = c.requires.live

pub answers-requires-then-not-is_image-clause-room : goal.answers-requires-then-not-is_image-clause-room
answers-requires-then-not-is_image-clause-room c = c.requires.room

pub returns-then-not-is_image-clause-err : goal.returns-then-not-is_image-clause-err
returns-then-not-is_image-clause-err c = tt

pub restart-requires-clause-live : goal.restart-requires-clause-live
restart-requires-clause-live c = c.requires.live

pub restart-requires-clause-room : goal.restart-requires-clause-room
restart-requires-clause-room c = c.requires.room

pub restart-requires-clause-few : goal.restart-requires-clause-few
restart-requires-clause-few c = c.requires.few

pub returns-clause-err : goal.returns-clause-err
returns-clause-err c = tt
