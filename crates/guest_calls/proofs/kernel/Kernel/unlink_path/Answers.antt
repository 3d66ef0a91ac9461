use Rattle.std.proofs.Common.{refl, sym, ap, ◌∙◌, subst, List, ℕ}
use Rattle.arn_base.specs.declared.records.Extra.TheVariants as extra
use Rattle.acts_model.specs.Acts.{Returns}
use Rattle.parts_model.specs.Files.{find_file, unnamed}
use Rattle.arn_model.specs.FileCalls.{unlink_found}
use Rattle.arn_model.specs.Kernel.{Kernel}
use Rattle.guest_resources.specs.Resources.{Resources}
use Rattle.guest_calls.specs.Acted.{Carried}
use Rattle.guest_calls.specs.Kept.{state_of}
use Rattle.guest_calls.specs.State.{State, OfProcess}
use Rattle.guest_calls.proofs.Carries.{acted-after, carried-by}
use Rattle.guest_calls.proofs.Opening.{unlink-is}
use Rattle.guest_calls.proofs.Stands.{machine_with}
use Rattle.guest_calls.proofs.Room.{live-sound}
use Rattle.guest_calls.proofs.Returned.{has-room, lives, nothing-short}
use Rattle.guest_calls.proofs.kernel.Kernel.unlink_path.Goals as goal

pub returns-in-Some-clause-carried : goal.returns-in-Some-clause-carried
returns-in-Some-clause-carried c =
    let old : State = state_of c.self.inside in
    let mid : State = state_of (record c.self.inside { resources = c.unlink.new.self }) in
    let path : List ℕ = c.args.path in
    let k : Kernel = record old.kernel { files = unnamed old.kernel.files path c.in-Some.file } in
    subst (λ (s : State). OfProcess s c.args.pid (λ m v. Carried (unlink_found m path (find_file m.kernel.files path)) (record { result = 0; extra = extra.Name c.in-Some.file path }) m c.args.pid v c.returns.new.self)) c.self.view_is
    (carried-by c.args.pid 0 (extra.Name c.in-Some.file path) k old c.returns.new.self (λ m v. unlink_found m path (find_file m.kernel.files path))
    (acted-after c.args.pid (Returns 0) k old mid c.returns.new.self
    (ap (λ (r : Resources). state_of (record c.self.inside { resources = r })) c.in-Some.ensures.unnamed
    ∙ ap (λ (p : List ℕ). state_of (record c.self.inside { resources = record c.self.inside.resources { files = unnamed c.self.inside.resources.files p c.in-Some.file } })) c.as_slice.ensures)
    (c.returns.ensures (Returns 0) refl))
    (λ b v sees. unlink-is (machine_with b old) c.in-Some.file path (sym c.in-Some.is ∙ (c.unlink.ensures.found ∙ ap (find_file old.kernel.files) c.as_slice.ensures))))

pub invariant_of-self : goal.invariant_of-self
invariant_of-self c = live-sound c.self.inside c.args.self.now c.args.pid c.self.view_is c.self.invariant c.requires.live

pub invariant_of-self-in-Some : goal.invariant_of-self-in-Some
invariant_of-self-in-Some c = live-sound c.self.inside c.args.self.now c.args.pid c.self.view_is c.self.invariant c.requires.live

pub answers-requires-clause-live : goal.answers-requires-clause-live
answers-requires-clause-live c = lives c.self.inside c.args.self.now c.args.pid c.self.view_is c.requires.live

pub answers-requires-clause-room : goal.answers-requires-clause-room
answers-requires-clause-room c = has-room c.self.inside c.args.self.now c.self.view_is c.requires.room

pub returns-requires-clause-live : goal.returns-requires-clause-live
returns-requires-clause-live c = lives c.self.inside c.args.self.now c.args.pid c.self.view_is c.requires.live

pub returns-requires-clause-room : goal.returns-requires-clause-room
returns-requires-clause-room c = has-room c.self.inside c.args.self.now c.self.view_is c.requires.room

pub returns-in-None-clause-short : goal.returns-in-None-clause-short
returns-in-None-clause-short c = nothing-short c.answers.ensures.nothing
