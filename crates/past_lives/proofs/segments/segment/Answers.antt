use Rattle.std.proofs.Common.{◌≡◌, ℕ, ◌+◌, ◌-◌, ◌∙◌, suc, ap, sym, arith}
use Rattle.history_model.specs.Events.{how_many}
use Rattle.past_lives.specs.declared.segments.Source.TheVariants as source
use Rattle.past_lives.proofs.Until.{held-all, held-traced, held-passed, held_first}
use Rattle.past_lives.proofs.segments.segment.Goals as goal
use Rattle.past_lives.proofs.segments.segment.Goals.{in-Some+in-Process, in_default}

pub loop-back-init : goal.loop-back-init
loop-back-init c =
    let entries = c.args.entries.now in
    let all : how_many entries ≡ c.events-events.result - 0 = let is = c.events-events.ensures entries c.requires.indexed in omega arith in
    held-all entries c.args.moment c.args.pid ∙ ap (λ (k : ℕ). held_first entries c.args.moment k c.args.pid) all

pub returns-in-Holds : goal.returns-in-Holds
returns-in-Holds c =
    let entries = c.args.entries.now in
    let k = c.events-events.result - 1 - c.loop-back.back in
    let next : c.events-events.result - c.loop-back.back ≡ suc k = omega (arith, c.loop-back-test.true) in
    let same : k ≡ c.events-events.result - 1 - c.loop-back.back = omega arith in
    sym (c.loop-back.invariant
    ∙ (ap (λ (i : ℕ). held_first entries c.args.moment i c.loop-back.holder) next
    ∙ held-traced entries c.args.moment c.loop-back.holder k c.in-Some.entry.now (source.Holds c.in-Holds.segment) (sym c.in-Some.ensures) c.in-Holds.ensures))

pub loop-back-preserved : goal.loop-back-preserved
loop-back-preserved c =
    let entries = c.args.entries.now in
    let k = c.events-events.result - 1 - c.loop-back.back in
    let next : c.events-events.result - c.loop-back.back ≡ suc k = omega (arith, c.loop-back-test.true) in
    let less : k ≡ c.events-events.result - (c.loop-back.back + 1) = omega (arith, c.loop-back-test.true) in
    let before = ap (λ (i : ℕ). held_first entries c.args.moment i c.loop-back.holder) next in
    elim c.match-happened.branch [
      | in-Some+in-Process w ↦
          c.loop-back.invariant
          ∙ (before
          ∙ (held-traced entries c.args.moment c.loop-back.holder k w.in-Some.entry.now (source.Process w.in-Process.before) (sym w.in-Some.ensures) w.in-Process.ensures
          ∙ (ap (λ (i : ℕ). held_first entries c.args.moment i w.in-Process.before) less ∙ ap (held_first entries c.args.moment (c.events-events.result - (c.loop-back.back + 1))) (sym w.holder-is))))
      | in_default w ↦
          c.loop-back.invariant
          ∙ (before
          ∙ (held-passed entries c.args.moment c.loop-back.holder k (sym w.in_default.ensures)
          ∙ (ap (λ (i : ℕ). held_first entries c.args.moment i c.loop-back.holder) less ∙ ap (held_first entries c.args.moment (c.events-events.result - (c.loop-back.back + 1))) (sym w.holder-is))))
    ]
