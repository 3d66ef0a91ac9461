use Rattle.std.proofs.Common.{refl, sym, ap, ◌∙◌, ◌≡◌, subst, List, [], ℕ, is_some, false}
use Rattle.parts_model.specs.declared.open.Description.TheVariants.{File}
use Rattle.acts_model.specs.Acts.{Returns}
use Rattle.parts_model.specs.Files.{find_file, held, made, next_file}
use Rattle.arn_model.specs.FileCalls.{has_no_room, open_new}
use Rattle.arn_model.specs.Kernel.{placed, with_new}
use Rattle.guest_calls.specs.Acted.{Carried}
use Rattle.guest_calls.specs.Kept.{state_of}
use Rattle.guest_calls.specs.State.{State, OfProcess}
use Rattle.guest_calls.proofs.Carries.{acted-across, carried-by}
use Rattle.guest_calls.proofs.Opening.{new-is}
use Rattle.guest_calls.proofs.Stands.{machine_with}
use Rattle.guest_calls.proofs.Room.{live-sound}
use Rattle.guest_calls.proofs.Returned.{has-room, lives, nothing-short}
use Rattle.guest_calls.proofs.kernel.Kernel.open_new.Goals as goal

pub returns-in-Ok-clause-carried : goal.returns-in-Ok-clause-carried
returns-in-Ok-clause-carried c =
    let old : State = state_of c.self.inside in
    let mid : State = state_of (record c.self.inside { resources = c.make_file.new.self }) in
    let path : List ℕ = c.args.path in
    let free : is_some (find_file old.kernel.files path) ≡ false =
    ap (λ (p : List ℕ). is_some (find_file old.kernel.files p)) (sym c.as_slice.ensures) ∙ (ap is_some (sym c.find_file.ensures.found) ∙ (sym c.is_some.ensures ∙ c.if-is_some.false)) in
    subst (λ (s : State). OfProcess s c.args.pid (λ m v. Carried (open_new m c.args.pid path) c.opened_as.result m c.args.pid v c.opened_as.new.self)) c.self.view_is
    (carried-by c.args.pid c.opened_as.result.result c.opened_as.result.extra (placed c.args.pid c.in-Ok.opened.description mid.kernel) old c.opened_as.new.self (λ m v. open_new m c.args.pid path)
    (acted-across c.args.pid (Returns c.opened_as.result.result) (placed c.args.pid c.in-Ok.opened.description mid.kernel) mid.kernel old mid c.opened_as.new.self refl c.opened_as.ensures.acted)
    (λ b v sees. new-is (machine_with b old) c.args.pid c.in-Ok.opened.file c.in-Ok.opened.description c.opened_as.result.result path c.opened_as.result.extra mid.kernel free
    (ap (λ (s : State). has_no_room s.kernel c.args.pid) c.self.view_is ∙ (sym c.has_no_room.ensures ∙ c.if-has_no_room.false))
    c.in-Ok.ensures.room
    (subst (λ (p : List ℕ). with_new (File (next_file old.kernel.files) 0) (record old.kernel { files = held (made old.kernel.files p []) (next_file old.kernel.files) }) ≡ mid.kernel) c.as_slice-2.ensures (c.in-Ok.ensures.opened.kernel old.kernel))
    c.in-Ok.ensures.file c.in-Ok.ensures.number c.opened_as.ensures.result c.opened_as.ensures.extra))

pub invariant_of-self : goal.invariant_of-self
invariant_of-self c = live-sound c.self.inside c.args.self.now c.args.pid c.self.view_is c.self.invariant c.requires.live

pub invariant_of-self-in-Err-TooMany : goal.invariant_of-self-in-Err-TooMany
invariant_of-self-in-Err-TooMany c = live-sound c.self.inside c.args.self.now c.args.pid c.self.view_is c.self.invariant c.requires.live

pub invariant_of-self-in-Err : goal.invariant_of-self-in-Err
invariant_of-self-in-Err c = live-sound c.self.inside c.args.self.now c.args.pid c.self.view_is c.self.invariant c.requires.live

pub returns-then-is_some-clause-short : goal.returns-then-is_some-clause-short
returns-then-is_some-clause-short c = nothing-short c.answers.ensures.nothing

pub returns-then-has_no_room-clause-short : goal.returns-then-has_no_room-clause-short
returns-then-has_no_room-clause-short c = nothing-short c.answers-then-has_no_room.ensures.nothing

pub opened_as-requires-clause-live : goal.opened_as-requires-clause-live
opened_as-requires-clause-live c = lives c.self.inside c.args.self.now c.args.pid c.self.view_is c.requires.live

pub opened_as-requires-clause-room : goal.opened_as-requires-clause-room
opened_as-requires-clause-room c = has-room c.self.inside c.args.self.now c.self.view_is c.requires.room

pub answers-requires-in-Err-TooMany-clause-live : goal.answers-requires-in-Err-TooMany-clause-live
answers-requires-in-Err-TooMany-clause-live c = lives c.self.inside c.args.self.now c.args.pid c.self.view_is c.requires.live

pub answers-requires-in-Err-TooMany-clause-room : goal.answers-requires-in-Err-TooMany-clause-room
answers-requires-in-Err-TooMany-clause-room c = has-room c.self.inside c.args.self.now c.self.view_is c.requires.room

pub returns-in-Err-TooMany-clause-short : goal.returns-in-Err-TooMany-clause-short
returns-in-Err-TooMany-clause-short c = nothing-short c.answers-in-Err-TooMany.ensures.nothing
