use Rattle.std.proofs.Common.{◌≡◌, ℕ, List, min, length, take, Option, Some, IfSome, is_some, option_map, sym, ap, subst, refl}
use Rattle.std.specs.Prelude.{IsNone, IsTrue, not}
use Rattle.arn_base.specs.declared.records.Extra.TheVariants as extra
use Rattle.parts_model.specs.Numbered.{nth}
use Rattle.parts_model.specs.Pipes.{room, with_change, with_put}
use Rattle.acts_model.specs.Bodies.{View}
use Rattle.acts_model.specs.Views.{read}
use Rattle.guest_bodies.specs.Shown.{seen_in}
use Rattle.guest_channels.specs.Channels.{Channels}
use Rattle.guest_pipes.specs.Answers.{holds}
use Rattle.guest_calls.specs.Acted.{Carried}
use Rattle.guest_calls.specs.Kept.{state_of}
use Rattle.guest_calls.specs.State.{State, OfProcess}
use Rattle.guest_requests.specs.Transfers.{CanPour, pouring}
use Rattle.guest_calls.proofs.Carries.{carried-same}
use Rattle.guest_calls.proofs.Piped.{poured-carried, pouring-first}
use Rattle.guest_calls.proofs.Stands.{at-seen, machine_with}
use Rattle.guest_calls.proofs.Returned.{has-room, lives, no-ok, nothing-short, on-err}
use Rattle.guest_calls.proofs.kernel.Kernel.pour.Goals as goal

pub returns-clause-carried : goal.returns-clause-carried
returns-clause-carried c =
    let old : State = state_of c.self.inside in
    let mid : State = state_of (record c.self.inside { channels = c.put.new.self }) in
    let bytes : List ℕ = c.in_ok-bytes.bytes in
    let counts : Some c.in-Some.taken ≡ option_map (λ p. min (length bytes) (room p)) (nth c.self.inside.channels.pipes c.args.pipe) =
    subst (λ (x : List ℕ). Some c.in-Some.taken ≡ option_map (λ p. min (length x) (room p)) (nth c.self.inside.channels.pipes c.args.pipe)) c.as_slice.ensures
    (subst (λ (o : Option ℕ). IfSome o (λ n. Some n ≡ option_map (λ p. min (length c.as_slice.result.now) (room p)) (nth c.self.inside.channels.pipes c.args.pipe))) c.in-Some.is c.in_ok-put.ensures.count) in
    let puts : c.put.new.self ≡ record c.self.inside.channels { pipes = with_change c.self.inside.channels.pipes c.args.pipe (λ p. with_put p bytes c.self.inside.events) } =
    subst (λ (x : List ℕ). c.put.new.self ≡ record c.self.inside.channels { pipes = with_change c.self.inside.channels.pipes c.args.pipe (λ p. with_put p x c.self.inside.events) }) c.as_slice.ensures
    (c.in_ok-put.ensures.put (ap is_some c.in-Some.is)) in
    let reads : holds (λ p. IsTrue (not p.has_reader)) (nth c.self.inside.channels.pipes c.args.pipe) → ⊥ =
    λ unread. let none : IsNone (Some c.in-Some.taken) = subst (λ (o : Option ℕ). IsNone o) c.in-Some.is (c.in_ok-put.ensures.broken.1 unread) in cc in
    carried-same c.args.pid (record { result = c.in-Some.taken; extra = extra.Nothing }) c.args.self.now c.returns.new.self (λ m v. pouring m c.args.at bytes c.args.pipe) (λ m v. pouring m c.args.at (read v c.args.at c.args.count) c.args.pipe)
    (subst (λ (s : State). OfProcess s c.args.pid (λ m v. Carried (pouring m c.args.at bytes c.args.pipe) (record { result = c.in-Some.taken; extra = extra.Nothing }) m c.args.pid v c.returns.new.self)) c.self.view_is
    (poured-carried old mid c.returns.new.self c.args.pid c.args.at c.in-Some.taken c.args.pipe bytes (subst (λ (s : State). CanPour s.kernel c.args.pipe) (sym c.self.view_is) c.requires.ready) reads counts
    (ap (λ (x : Channels). state_of (record c.self.inside { channels = x })) puts) c.returns.ensures))
    (λ b v sees. pouring-first (machine_with b c.args.self.now) c.args.at c.args.count c.args.pipe c.min-few.result (read v c.args.at c.args.count) bytes
    (at-seen (seen_in c.args.self.now.guests c.args.pid) v (λ (w : View). length (read w c.args.at c.args.count) ≡ c.args.count) sees (subst (λ (s : State). IfSome (seen_in s.guests c.args.pid) (λ w. length (read w c.args.at c.args.count) ≡ c.args.count)) c.self.view_is c.in_ok-bytes.ensures.whole))
    c.min-few.ensures
    (at-seen (seen_in c.args.self.now.guests c.args.pid) v (λ (w : View). bytes ≡ take c.min-few.result (read w c.args.at c.args.count)) sees (subst (λ (s : State). IfSome (seen_in s.guests c.args.pid) (λ w. bytes ≡ take c.min-few.result (read w c.args.at c.args.count))) c.self.view_is c.in_ok-bytes.ensures.read)))

pub first_of-requires-clause-live : goal.first_of-requires-clause-live
first_of-requires-clause-live c = lives c.self.inside c.args.self.now c.args.pid c.self.view_is c.requires.live

pub returns-in_err-bytes-clause-carried : goal.returns-in_err-bytes-clause-carried
returns-in_err-bytes-clause-carried c = no-ok _ c.from_residual.result c.from_residual.ensures.0

pub returns-in_err-bytes-clause-short : goal.returns-in_err-bytes-clause-short
returns-in_err-bytes-clause-short c = no-ok _ c.from_residual.result c.from_residual.ensures.0

pub returns-in_err-bytes-clause-err : goal.returns-in_err-bytes-clause-err
returns-in_err-bytes-clause-err c = on-err c.from_residual.result refl

pub returns-in_err-put-clause-carried : goal.returns-in_err-put-clause-carried
returns-in_err-put-clause-carried c = no-ok _ c.from_residual-in_err-put.result c.from_residual-in_err-put.ensures.0

pub returns-in_err-put-clause-short : goal.returns-in_err-put-clause-short
returns-in_err-put-clause-short c = no-ok _ c.from_residual-in_err-put.result c.from_residual-in_err-put.ensures.0

pub answers-requires-clause-live : goal.answers-requires-clause-live
answers-requires-clause-live c = lives c.self.inside c.args.self.now c.args.pid c.self.view_is c.requires.live

pub answers-requires-clause-room : goal.answers-requires-clause-room
answers-requires-clause-room c = has-room c.self.inside c.args.self.now c.self.view_is c.requires.room

pub returns-in-None-clause-short : goal.returns-in-None-clause-short
returns-in-None-clause-short c = nothing-short c.answers.ensures.nothing

pub returns-requires-clause-live : goal.returns-requires-clause-live
returns-requires-clause-live c = lives c.self.inside c.args.self.now c.args.pid c.self.view_is c.requires.live

pub returns-requires-clause-room : goal.returns-requires-clause-room
returns-requires-clause-room c = has-room c.self.inside c.args.self.now c.self.view_is c.requires.room
