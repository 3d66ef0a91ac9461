use Rattle.std.proofs.Common.{subst, sym, ap, ◌∙◌, ◌+◌, ◌≡◌, min, arith, List, ℕ, length, take, IfSome, refl}
use Rattle.parts_model.specs.declared.open.Description.TheVariants.{File}
use Rattle.parts_model.specs.Files.{written}
use Rattle.acts_model.specs.Views.{read}
use Rattle.arn_model.specs.Doing.{returns}
use Rattle.arn_model.specs.Kernel.{Kernel, with_description}
use Rattle.guest_bodies.specs.Shown.{seen_in}
use Rattle.guest_resources.specs.Resources.{Changes}
use Rattle.guest_calls.specs.Kept.{state_of}
use Rattle.guest_calls.specs.State.{State}
use Rattle.guest_requests.specs.Transfers.{writing_at}
use Rattle.guest_calls.proofs.Carries.{carried-same}
use Rattle.guest_calls.proofs.Filed.{full-write, put-carried, put_at}
use Rattle.guest_calls.proofs.Stands.{machine_with}
use Rattle.guest_calls.proofs.Room.{live-sound}
use Rattle.guest_calls.proofs.Returned.{has-room, lives, no-ok, nothing-short, on-err}
use Rattle.guest_calls.proofs.kernel.Kernel.put.Goals as goal

pub returns-then-room-eq0-clause-carried : goal.returns-then-room-eq0-clause-carried
returns-then-room-eq0-clause-carried c =
    carried-same c.args.pid c.answers.result c.args.self.now c.answers.new.self (λ m v. returns c.error.result m.kernel) (λ m v. writing_at m c.args.at (read v c.args.at c.args.count) c.args.place) c.answers.ensures.carried
    (λ b v sees. full-write (machine_with b c.args.self.now) c.args.at c.error.result (read v c.args.at c.args.count) c.args.place (omega (arith, c.room-room.ensures, c.if-room-eq0.true)) c.error.ensures)

pub returns-clause-carried : goal.returns-clause-carried
returns-clause-carried c =
    let old : State = state_of c.self.inside in
    let mid : State = state_of (record c.self.inside { resources = c.write.new.self }) in
    let bytes : List ℕ = c.in_ok-bytes.bytes in
    let changes : Changes c.self.inside.resources (λ k. with_description c.args.place.number (File c.args.place.file (c.args.place.position + length bytes)) (record k { files = written k.files c.args.place.file c.args.place.position bytes c.self.inside.events })) c.write.new.self =
    subst (λ (x : List ℕ). Changes c.self.inside.resources (λ k. with_description c.args.place.number (File c.args.place.file (c.args.place.position + length x)) (record k { files = written k.files c.args.place.file c.args.place.position x c.self.inside.events })) c.write.new.self) c.as_slice.ensures c.in_ok-write.ensures.written in
    put-carried c.args.self.now mid c.returns.new.self c.args.pid c.args.at c.args.count c.min-fits.result c.args.place bytes
    (subst (λ (s : State). IfSome (seen_in s.guests c.args.pid) (λ v. bytes ≡ take c.min-fits.result (read v c.args.at c.args.count))) c.self.view_is c.in_ok-bytes.ensures.read)
    (subst (λ (s : State). IfSome (seen_in s.guests c.args.pid) (λ v. length (read v c.args.at c.args.count) ≡ c.args.count)) c.self.view_is c.in_ok-bytes.ensures.whole)
    c.in_ok-bytes.ensures.count
    (omega (arith, c.room-room.ensures, c.if-room-eq0.false))
    (c.min-fits.ensures ∙ ap (min c.args.count) (omega (arith, c.room-room.ensures)))
    (ap (λ (k : Kernel). record old { kernel = k }) (sym (changes.kernel old.kernel)) ∙ ap (λ (s : State). record s { kernel = put_at c.args.place bytes s }) c.self.view_is)
    c.returns.ensures

pub invariant_of-self : goal.invariant_of-self
invariant_of-self c = live-sound c.self.inside c.args.self.now c.args.pid c.self.view_is c.self.invariant c.requires.live

pub invariant_of-self-2 : goal.invariant_of-self-2
invariant_of-self-2 c = live-sound c.self.inside c.args.self.now c.args.pid c.self.view_is c.self.invariant c.requires.live

pub returns-then-room-eq0-clause-short : goal.returns-then-room-eq0-clause-short
returns-then-room-eq0-clause-short c = nothing-short c.answers.ensures.nothing

pub first_of-requires-clause-live : goal.first_of-requires-clause-live
first_of-requires-clause-live c = lives c.self.inside c.args.self.now c.args.pid c.self.view_is c.requires.live

pub returns-in_err-bytes-clause-carried : goal.returns-in_err-bytes-clause-carried
returns-in_err-bytes-clause-carried c = no-ok _ c.from_residual.result c.from_residual.ensures.0

pub returns-in_err-bytes-clause-short : goal.returns-in_err-bytes-clause-short
returns-in_err-bytes-clause-short c = no-ok _ c.from_residual.result c.from_residual.ensures.0

pub returns-in_err-bytes-clause-err : goal.returns-in_err-bytes-clause-err
returns-in_err-bytes-clause-err c = on-err c.from_residual.result refl

pub returns-in_err-write-clause-carried : goal.returns-in_err-write-clause-carried
returns-in_err-write-clause-carried c = no-ok _ c.from_residual-in_err-write.result c.from_residual-in_err-write.ensures.0

pub returns-in_err-write-clause-short : goal.returns-in_err-write-clause-short
returns-in_err-write-clause-short c = no-ok _ c.from_residual-in_err-write.result c.from_residual-in_err-write.ensures.0

pub returns-requires-clause-live : goal.returns-requires-clause-live
returns-requires-clause-live c = lives c.self.inside c.args.self.now c.args.pid c.self.view_is c.requires.live

pub returns-requires-clause-room : goal.returns-requires-clause-room
returns-requires-clause-room c = has-room c.self.inside c.args.self.now c.self.view_is c.requires.room
