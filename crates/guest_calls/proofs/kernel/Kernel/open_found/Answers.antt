use Rattle.std.proofs.Common.{refl, sym, ap, ◌∙◌, ◌≡◌, subst, Some, List, ℕ}
use Rattle.arn_base.specs.declared.records.Extra.TheVariants as extra
use Rattle.acts_model.specs.Acts.{Returns}
use Rattle.parts_model.specs.Files.{find_file}
use Rattle.arn_model.specs.FileCalls.{has_no_room, open_found}
use Rattle.arn_model.specs.Kernel.{placed}
use Rattle.guest_calls.specs.Acted.{Carried}
use Rattle.guest_calls.specs.Kept.{state_of}
use Rattle.guest_calls.specs.State.{State, OfProcess}
use Rattle.guest_calls.proofs.Carries.{acted-across, carried-by}
use Rattle.guest_calls.proofs.Opening.{found-is}
use Rattle.guest_calls.proofs.Stands.{machine_with}
use Rattle.guest_calls.proofs.Room.{live-sound}
use Rattle.guest_calls.proofs.Returned.{has-room, lives, no-ok, nothing-short}
use Rattle.guest_calls.proofs.kernel.Kernel.open_found.Goals as goal

pub returns-clause-carried : goal.returns-clause-carried
returns-clause-carried c =
    let old : State = state_of c.self.inside in
    let mid : State = state_of (record c.self.inside { resources = c.open_file.new.self }) in
    let path : List ℕ = c.args.path in
    let found : find_file old.kernel.files path ≡ Some c.in-Some.file = ap (find_file old.kernel.files) (sym c.as_slice.ensures) ∙ (sym c.find_file.ensures.found ∙ c.in-Some.is) in
    subst (λ (s : State). OfProcess s c.args.pid (λ m v. Carried (open_found m c.args.pid path (find_file m.kernel.files path)) c.opened_as.result m c.args.pid v c.opened_as.new.self)) c.self.view_is
    (carried-by c.args.pid c.opened_as.result.result c.opened_as.result.extra (placed c.args.pid c.in_ok-opened.opened.description mid.kernel) old c.opened_as.new.self (λ m v. open_found m c.args.pid path (find_file m.kernel.files path))
    (acted-across c.args.pid (Returns c.opened_as.result.result) (placed c.args.pid c.in_ok-opened.opened.description mid.kernel) mid.kernel old mid c.opened_as.new.self refl c.opened_as.ensures.acted)
    (λ b v sees. found-is (machine_with b old) c.args.pid c.in-Some.file c.in_ok-opened.opened.description c.opened_as.result.result path c.opened_as.result.extra mid.kernel found
    (ap (λ (s : State). has_no_room s.kernel c.args.pid) c.self.view_is ∙ (sym c.has_no_room.ensures ∙ c.if-has_no_room.false))
    (c.in_ok-opened.ensures.opened.kernel old.kernel) c.in_ok-opened.ensures.number c.opened_as.ensures.result (c.opened_as.ensures.extra ∙ ap (λ (i : ℕ). extra.Name i path) c.in_ok-opened.ensures.file)))

pub invariant_of-self : goal.invariant_of-self
invariant_of-self c = live-sound c.self.inside c.args.self.now c.args.pid c.self.view_is c.self.invariant c.requires.live

pub invariant_of-self-2 : goal.invariant_of-self-2
invariant_of-self-2 c = live-sound c.self.inside c.args.self.now c.args.pid c.self.view_is c.self.invariant c.requires.live

pub returns-in-None-clause-short : goal.returns-in-None-clause-short
returns-in-None-clause-short c = nothing-short c.answers.ensures.nothing

pub returns-then-has_no_room-clause-short : goal.returns-then-has_no_room-clause-short
returns-then-has_no_room-clause-short c = nothing-short c.answers-then-has_no_room.ensures.nothing

pub returns-in_err-opened-clause-carried : goal.returns-in_err-opened-clause-carried
returns-in_err-opened-clause-carried c = no-ok _ c.from_residual.result c.from_residual.ensures.0

pub returns-in_err-opened-clause-short : goal.returns-in_err-opened-clause-short
returns-in_err-opened-clause-short c = no-ok _ c.from_residual.result c.from_residual.ensures.0

pub opened_as-requires-clause-live : goal.opened_as-requires-clause-live
opened_as-requires-clause-live c = lives c.self.inside c.args.self.now c.args.pid c.self.view_is c.requires.live

pub opened_as-requires-clause-room : goal.opened_as-requires-clause-room
opened_as-requires-clause-room c = has-room c.self.inside c.args.self.now c.self.view_is c.requires.room
