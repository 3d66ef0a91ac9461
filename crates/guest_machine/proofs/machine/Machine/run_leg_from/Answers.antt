use Rattle.std.proofs.Common.{◌≡◌, inl, ℕ, ◌+◌, ◌≤◌, ◌∙◌, ap, sym, arith}
use Rattle.guest_legs.specs.Legs.{fresh}
use Rattle.guest_machine.proofs.LegLemmas.{Counts-more, Counts-room, Counts-start, SoFar-cut, SoFar-end, SoFar-more, SoFar-start, goes-on}
use Rattle.guest_machine.proofs.machine.Machine.run_leg_from.Goals as goal

pub loop-end-init : goal.loop-end-init
loop-end-init g c = record {
  so_far = λ m stands. SoFar-start g.A.Answers.answers m c.args.budget c.args.self.now (g.C.Chooser.choices c.args.chooser.now) c.args.answers.now c.args.out.now.items c.args.steps.now stands;
  counts = Counts-start c.args.self.now c.args.budget;
  spelled = λ all. all;
}

pub overflow_sub-ran : goal.overflow_sub-ran
overflow_sub-ran g c = c.loop-end.invariant.counts.within

pub returns-in-Some-clause-leg : goal.returns-in-Some-clause-leg
returns-in-Some-clause-leg g c m stands =
    let l = c.loop-end in
    SoFar-end g.A.Answers.answers (fresh m c.args.budget) c.args.self.now l.self (g.C.Chooser.choices c.args.chooser.now) (g.C.Chooser.choices l.chooser) c.args.answers.now l.answers c.args.out.now.items l.out.items c.args.steps.now l.steps
    l.left l.spelled c.standing.result c.standing.ensures (l.invariant.so_far m stands) c.in-Some.end (sym c.leg_end.ensures ∙ c.in-Some.is) l.invariant.counts.within

pub pick_slice-pick-requires-clause-can : goal.pick_slice-pick-requires-clause-can
pick_slice-pick-requires-clause-can g c m stands =
    let goes = goes-on c.standing.result c.loop-end.left c.loop-end.spelled (sym c.leg_end.ensures ∙ c.in_default.is) in
    sym goes.able ∙ c.standing.ensures m stands

pub pick_slice-pick-requires-clause-left : goal.pick_slice-pick-requires-clause-left
pick_slice-pick-requires-clause-left g c = (goes-on c.standing.result c.loop-end.left c.loop-end.spelled (sym c.leg_end.ensures ∙ c.in_default.is)).some

pub take_slice-requires-clause-can : goal.take_slice-requires-clause-can
take_slice-requires-clause-can g c m stands = inl (c.pick_slice-pick.ensures.possible m stands)

pub take_slice-requires-clause-room : goal.take_slice-requires-clause-room
take_slice-requires-clause-room g c =
    let goes = goes-on c.standing.result c.loop-end.left c.loop-end.spelled (sym c.leg_end.ensures ∙ c.in_default.is) in
    Counts-room c.args.self.now c.loop-end.self c.args.budget c.loop-end.left c.loop-end.spelled c.pick_slice-pick.result.count c.loop-end.invariant.counts c.requires.room goes.room c.pick_slice-pick.ensures.within

pub returns-in_default-take_slice-clause-cut : goal.returns-in_default-take_slice-clause-cut
returns-in_default-take_slice-clause-cut g c m stands =
    let l = c.loop-end in
    let picked = c.pick_slice-pick.ensures in
    let n = c.take_slice.new in
    SoFar-cut g.A.Answers.answers (fresh m c.args.budget) c.args.self.now l.self (g.C.Chooser.choices c.args.chooser.now) (g.C.Chooser.choices l.chooser) c.args.answers.now l.answers c.args.out.now.items l.out.items c.args.steps.now l.steps
    l.left l.spelled c.standing.result c.standing.ensures (l.invariant.so_far m stands)
    c.picks_follow.ensures n.self (g.C.Chooser.choices c.pick_slice-pick.new.chooser) n.answers n.out.items n.steps c.pick_slice-pick.result (sym c.leg_end.ensures ∙ c.in_default.is) picked.picked picked.later picked.possible picked.some picked.within c.take_slice.ensures.steps
    c.in_default-take_slice.ensures.cut c.in_default-take_slice.ensures.unasked c.take_slice.ensures.at_most

pub loop-end-smaller : goal.loop-end-smaller
loop-end-smaller g c =
    let goes = goes-on c.standing.result c.loop-end.left c.loop-end.spelled (sym c.leg_end.ensures ∙ c.in_default.is) in
    omega (arith, goes.room, c.in-Ok.ensures.some c.pick_slice-pick.ensures.possible c.pick_slice-pick.ensures.some)

pub loop-end-preserved : goal.loop-end-preserved
loop-end-preserved g c =
    let l = c.loop-end in
    let picked = c.pick_slice-pick.ensures in
    let n = c.take_slice.new in
    let e = c.in-Ok.ensures in
    let ran : n.self.instructions ≡ l.self.instructions + c.from-left.result = e.count ∙ ap (λ (k : ℕ). l.self.instructions + k) (sym c.from-left.ensures) in
    let few : c.from-left.result ≤ l.left = omega (arith, c.from-left.ensures, e.within, picked.within) in
    record {
      so_far = λ m stands.
          SoFar-more g.A.Answers.answers (fresh m c.args.budget) c.args.self.now l.self (g.C.Chooser.choices c.args.chooser.now) (g.C.Chooser.choices l.chooser) c.args.answers.now l.answers c.args.out.now.items l.out.items c.args.steps.now l.steps
          l.left l.spelled c.standing.result c.standing.ensures (l.invariant.so_far m stands)
          c.picks_follow.ensures n.self (g.C.Chooser.choices c.pick_slice-pick.new.chooser) n.answers n.out.items n.steps c.pick_slice-pick.result (sym c.leg_end.ensures ∙ c.in_default.is) picked.picked picked.later picked.possible picked.some picked.within c.take_slice.ensures.steps
          c.from-left.result c.in-Ok.taken.len e.ran ran e.len;
      counts = Counts-more c.args.self.now l.self n.self c.args.budget l.left l.spelled c.from-left.result c.in-Ok.taken.len l.invariant.counts few ran c.take_slice.ensures.events (e.some picked.possible picked.some);
      spelled = λ all. c.take_slice.ensures.spelled (l.invariant.spelled all);
    }

pub returns-in-Some-clause-cut : goal.returns-in-Some-clause-cut
returns-in-Some-clause-cut g c = tt

pub returns-in-Some-clause-spelled : goal.returns-in-Some-clause-spelled
returns-in-Some-clause-spelled g c = c.loop-end.invariant.spelled

pub returns-in_default-take_slice-clause-leg : goal.returns-in_default-take_slice-clause-leg
returns-in_default-take_slice-clause-leg g c = tt

pub returns-in_default-take_slice-clause-count : goal.returns-in_default-take_slice-clause-count
returns-in_default-take_slice-clause-count g c = tt

pub returns-in_default-take_slice-clause-within : goal.returns-in_default-take_slice-clause-within
returns-in_default-take_slice-clause-within g c = tt

pub returns-in_default-take_slice-clause-spelled : goal.returns-in_default-take_slice-clause-spelled
returns-in_default-take_slice-clause-spelled g c all = c.take_slice.ensures.spelled (c.loop-end.invariant.spelled all)
