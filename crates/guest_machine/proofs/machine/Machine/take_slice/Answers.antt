use Rattle.std.proofs.Common.{◌≡◌, ◌+◌, ◌<◌, ◌≤◌, ◌^◌, ◌∙◌, ℕ, All, List, ap, arith, refl, subst, sym}
use Rattle.std.proofs.lemmas.Result.{IfOk-from_err}
use Rattle.arn_base.specs.declared.records.Record.{Record}
use Rattle.result_log.specs.Spelling.{HasSpelling}
use Rattle.guest_bodies.specs.Shown.{IsLive}
use Rattle.guest_calls.specs.State.{State, StandsFor}
use Rattle.guest_legs.specs.Pieces.{spelled_len}
use Rattle.guest_machine.specs.Recorded.{IsReal, OfEach, Recorded}
use Rattle.guest_machine.specs.Slices.{CanTake, IsCut}
use Rattle.guest_machine.specs.View.{recorded_of}
use Rattle.guest_machine.proofs.LegLemmas.{slice-spelled}
use Rattle.guest_machine.proofs.RunsLemmas.{on_err}
use Rattle.guest_machine.proofs.SliceLemmas.{can-lives, cut-unasked, real-of, slice-cut, slice-whole, unbegun}
use Rattle.guest_machine.proofs.machine.Machine.take_slice.Goals as goal

-- its process lives
live : (r : Recorded) (k : State) (i : ℕ) (pid count : ℕ) → record { kernel = k; instructions = i } ≡ r → IsReal k → OfEach r.kernel (λ m. CanTake m pid count) → IsLive r.kernel.guests pid
live r k i pid count same real can = can-lives r.kernel pid count (real-of k i r same real) can

pub take_turn-taken-requires-clause-live : goal.take_turn-taken-requires-clause-live
take_turn-taken-requires-clause-live g c =
    subst (λ (r : Recorded). IsLive r.kernel.guests c.args.pid) (sym c.self.view_is) (live c.args.self.now c.self.inside.kernel c.self.inside.instructions c.args.pid c.args.count c.self.view_is c.self.invariant c.requires.can)

pub returns-in_err-reserve-clause-cut : goal.returns-in_err-reserve-clause-cut
returns-in_err-reserve-clause-cut g c =
    let r = c.args.self.now in
    let cut : OfEach r.kernel (λ m. IsCut m c.args.pid c.args.count r r c.args.out.now.items c.args.out.now.items) = λ m stands. unbegun m c.args.pid c.args.count r c.args.out.now.items stands in
    on_err _ _ c.from_residual.result _ (subst (λ (out : List Record). OfEach r.kernel (λ m. IsCut m c.args.pid c.args.count r r c.args.out.now.items out)) (sym c.in_err-reserve.ensures.items) cut)

pub returns-then-taken-clause-cut : goal.returns-then-taken-clause-cut
returns-then-taken-clause-cut g c =
    let s = c.self.inside in
    let t = c.take_turn-taken.result in
    let after = record s { kernel = c.take_turn-taken.new.kernel; instructions = s.instructions + c.from.result } in
    slice-cut c.turns_have_parts.ensures g.A.Answers.answers c.args.answers.now c.take_turn-taken.new.answers t c.args.pid c.args.count s.kernel s.instructions c.args.self.now (recorded_of after) c.args.out.now.items c.reserve.new.self.items c.take_turn-taken.new.out.items
    c.self.view_is (live c.args.self.now c.self.inside.kernel c.self.inside.instructions c.args.pid c.args.count c.self.view_is c.self.invariant c.requires.can) c.requires.can c.if-taken.true c.take_turn-taken.ensures.takes (ap (λ (n : ℕ). s.instructions + n) c.from.ensures) c.in_ok-reserve.ensures.items

pub returns-then-taken-clause-unasked : goal.returns-then-taken-clause-unasked
returns-then-taken-clause-unasked g c =
    cut-unasked g.A.Answers.answers c.args.answers.now c.take_turn-taken.new.answers c.take_turn-taken.result c.args.pid c.args.count c.self.inside.kernel c.take_turn-taken.new.kernel c.reserve.new.self.items c.take_turn-taken.new.out.items c.self.invariant c.if-taken.true c.take_turn-taken.ensures.takes

pub returns-clause-ran : goal.returns-clause-ran
returns-clause-ran g c =
    let s = c.self.inside in
    let t = c.take_turn-taken.result in
    let after = record s { kernel = c.take_turn-taken.new.kernel; instructions = s.instructions + c.from.result } in
    slice-whole c.turns_have_parts.ensures g.A.Answers.answers c.args.answers.now c.take_turn-taken.new.answers t c.args.pid c.args.count s.kernel s.instructions c.args.self.now (recorded_of after) c.args.out.now.items c.reserve.new.self.items c.take_turn-taken.new.out.items
    c.self.view_is (live c.args.self.now c.self.inside.kernel c.self.inside.instructions c.args.pid c.args.count c.self.view_is c.self.invariant c.requires.can) c.requires.can c.if-taken.false c.take_turn-taken.ensures.takes (ap (λ (n : ℕ). s.instructions + n) c.from.ensures) c.in_ok-reserve.ensures.items

pub returns-clause-some : goal.returns-clause-some
returns-clause-some g c possible some =
    let m = c.self.invariant.machine in
    let stands : StandsFor c.args.self.now.kernel m = subst (λ (r : Recorded). StandsFor r.kernel m) c.self.view_is c.self.invariant.stands in
    let ran = returns-clause-ran g c m stands in
    let t = c.take_turn-taken.result in
    let len : spelled_len c.take_turn-taken.new.out.items ≡ spelled_len c.args.out.now.items + t.len = c.take_turn-taken.ensures.len ∙ ap (λ (xs : List Record). spelled_len xs + t.len) c.in_ok-reserve.ensures.items in
    slice-spelled m c.args.pid c.args.count ran.reply c.args.self.now _ c.args.out.now.items c.take_turn-taken.new.out.items t.len (c.slices_take_steps.ensures m c.args.pid c.args.count ran.reply (possible m stands) some) ran.runs len

pub take_turn-taken-requires-clause-real : goal.take_turn-taken-requires-clause-real
take_turn-taken-requires-clause-real g c = c.self.invariant

pub take_turn-taken-requires-clause-room : goal.take_turn-taken-requires-clause-room
take_turn-taken-requires-clause-room g c = subst (λ (r : Recorded). r.kernel.events + 2 < 2 ^ 64) (sym c.self.view_is) c.requires.room.events

pub take_turn-taken-requires-clause-records : goal.take_turn-taken-requires-clause-records
take_turn-taken-requires-clause-records g c = c.in_ok-reserve.ensures.ok

pub invariant_of-self : goal.invariant_of-self
invariant_of-self g c = c.take_turn-taken.ensures.real

pub invariant_of-self-2 : goal.invariant_of-self-2
invariant_of-self-2 g c = c.take_turn-taken.ensures.real

pub returns-in_err-reserve-clause-ran : goal.returns-in_err-reserve-clause-ran
returns-in_err-reserve-clause-ran g c = IfOk-from_err c.from_residual.result _ c.from_residual.ensures.0

pub returns-in_err-reserve-clause-count : goal.returns-in_err-reserve-clause-count
returns-in_err-reserve-clause-count g c = IfOk-from_err c.from_residual.result _ c.from_residual.ensures.0

pub returns-in_err-reserve-clause-within : goal.returns-in_err-reserve-clause-within
returns-in_err-reserve-clause-within g c = IfOk-from_err c.from_residual.result _ c.from_residual.ensures.0

pub returns-in_err-reserve-clause-len : goal.returns-in_err-reserve-clause-len
returns-in_err-reserve-clause-len g c = IfOk-from_err c.from_residual.result _ c.from_residual.ensures.0

pub returns-in_err-reserve-clause-few : goal.returns-in_err-reserve-clause-few
returns-in_err-reserve-clause-few g c = IfOk-from_err c.from_residual.result _ c.from_residual.ensures.0

pub returns-in_err-reserve-clause-some : goal.returns-in_err-reserve-clause-some
returns-in_err-reserve-clause-some g c = IfOk-from_err c.from_residual.result _ c.from_residual.ensures.0

pub returns-in_err-reserve-clause-events : goal.returns-in_err-reserve-clause-events
returns-in_err-reserve-clause-events g c = omega arith

pub returns-in_err-reserve-clause-unasked : goal.returns-in_err-reserve-clause-unasked
returns-in_err-reserve-clause-unasked g c = on_err _ _ c.from_residual.result _ refl

pub returns-in_err-reserve-clause-steps : goal.returns-in_err-reserve-clause-steps
returns-in_err-reserve-clause-steps g c = omega arith

pub returns-in_err-reserve-clause-at_most : goal.returns-in_err-reserve-clause-at_most
returns-in_err-reserve-clause-at_most g c = omega arith

pub returns-in_err-reserve-clause-spelled : goal.returns-in_err-reserve-clause-spelled
returns-in_err-reserve-clause-spelled g c all = subst (All HasSpelling) (sym c.in_err-reserve.ensures.items) all

pub returns-then-taken-clause-ran : goal.returns-then-taken-clause-ran
returns-then-taken-clause-ran g c = tt

pub returns-then-taken-clause-count : goal.returns-then-taken-clause-count
returns-then-taken-clause-count g c = tt

pub returns-then-taken-clause-within : goal.returns-then-taken-clause-within
returns-then-taken-clause-within g c = tt

pub returns-then-taken-clause-len : goal.returns-then-taken-clause-len
returns-then-taken-clause-len g c = tt

pub returns-then-taken-clause-few : goal.returns-then-taken-clause-few
returns-then-taken-clause-few g c = tt

pub returns-then-taken-clause-some : goal.returns-then-taken-clause-some
returns-then-taken-clause-some g c = tt

pub returns-then-taken-clause-events : goal.returns-then-taken-clause-events
returns-then-taken-clause-events g c = subst (λ (r : Recorded). c.take_turn-taken.new.kernel.events ≤ r.kernel.events + 2) c.self.view_is c.take_turn-taken.ensures.events

pub returns-then-taken-clause-steps : goal.returns-then-taken-clause-steps
returns-then-taken-clause-steps g c = omega (arith, c.take_turn-taken.ensures.steps, c.from.ensures, ap (λ (r : Recorded). r.instructions) c.self.view_is)

pub returns-then-taken-clause-at_most : goal.returns-then-taken-clause-at_most
returns-then-taken-clause-at_most g c = c.take_turn-taken.ensures.at_most

pub returns-then-taken-clause-spelled : goal.returns-then-taken-clause-spelled
returns-then-taken-clause-spelled g c all = c.take_turn-taken.ensures.spelled (subst (All HasSpelling) (sym c.in_ok-reserve.ensures.items) all)

pub returns-clause-count : goal.returns-clause-count
returns-clause-count g c = ap (λ (n : ℕ). c.self.inside.instructions + n) c.from.ensures ∙ ap (λ (r : Recorded). r.instructions + c.take_turn-taken.result.ran) c.self.view_is

pub returns-clause-within : goal.returns-clause-within
returns-clause-within g c = c.take_turn-taken.ensures.within

pub returns-clause-len : goal.returns-clause-len
returns-clause-len g c = c.take_turn-taken.ensures.len ∙ ap (λ (xs : List Record). spelled_len xs + c.take_turn-taken.result.len) c.in_ok-reserve.ensures.items

pub returns-clause-few : goal.returns-clause-few
returns-clause-few g c = c.take_turn-taken.ensures.few

pub returns-clause-events : goal.returns-clause-events
returns-clause-events g c = subst (λ (r : Recorded). c.take_turn-taken.new.kernel.events ≤ r.kernel.events + 2) c.self.view_is c.take_turn-taken.ensures.events

pub returns-clause-cut : goal.returns-clause-cut
returns-clause-cut g c = tt

pub returns-clause-unasked : goal.returns-clause-unasked
returns-clause-unasked g c = tt

pub returns-clause-steps : goal.returns-clause-steps
returns-clause-steps g c = omega (arith, c.take_turn-taken.ensures.steps, c.from.ensures, ap (λ (r : Recorded). r.instructions) c.self.view_is)

pub returns-clause-at_most : goal.returns-clause-at_most
returns-clause-at_most g c = c.take_turn-taken.ensures.at_most

pub returns-clause-spelled : goal.returns-clause-spelled
returns-clause-spelled g c all = c.take_turn-taken.ensures.spelled (subst (All HasSpelling) (sym c.in_ok-reserve.ensures.items) all)
