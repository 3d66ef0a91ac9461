use Rattle.std.proofs.Common.{◌≡◌, ◌+◌, ◌-◌, ◌∙◌, suc, ap, sym, arith}
use Rattle.history_model.specs.Events.{how_many}
use Rattle.past_lives.proofs.Until.{lives-all, lives-told, lives-passed, lives_first}
use Rattle.past_lives.proofs.lives.lives.Goals as goal
use Rattle.past_lives.proofs.lives.lives.Goals.{in-Some+in_default-life_after, in_default}

pub loop-back-init : goal.loop-back-init
loop-back-init c =
    let entries = c.args.entries.now in
    let first = lives_first entries c.args.moment c.args.pid in
    let all : how_many entries ≡ c.events-events.result - 0 = let is = c.events-events.ensures entries c.requires.indexed in omega arith in
    lives-all entries c.args.moment c.args.pid ∙ ap first all

pub returns-in-Some-life_after : goal.returns-in-Some-life_after
returns-in-Some-life_after c =
    let k = c.events-events.result - 1 - c.loop-back.back in
    let next : c.events-events.result - c.loop-back.back ≡ suc k = omega (arith, c.loop-back-test.true) in
    let first = lives_first c.args.entries.now c.args.moment c.args.pid in
    sym (c.loop-back.invariant ∙ (ap first next ∙ lives-told c.args.entries.now c.args.moment c.args.pid k c.in-Some.entry.now _ (sym (c.in-Some.ensures)) (sym (c.in-Some-life_after.ensures))))

pub loop-back-preserved : goal.loop-back-preserved
loop-back-preserved c =
    let k = c.events-events.result - 1 - c.loop-back.back in
    let next : c.events-events.result - c.loop-back.back ≡ suc k = omega (arith, c.loop-back-test.true) in
    let less : k ≡ c.events-events.result - (c.loop-back.back + 1) = omega (arith, c.loop-back-test.true) in
    let first = lives_first c.args.entries.now c.args.moment c.args.pid in
    elim c.match-happened.branch [
      | in-Some+in_default-life_after w ↦
          c.loop-back.invariant
          ∙ (ap first next
          ∙ (lives-told c.args.entries.now c.args.moment c.args.pid k w.in-Some.entry.now _ (sym (w.in-Some.ensures)) (sym (w.in_default-life_after.ensures)) ∙ ap first less))
      | in_default w ↦
          c.loop-back.invariant
          ∙ (ap first next
          ∙ (lives-passed c.args.entries.now c.args.moment c.args.pid k (sym (w.in_default.ensures)) ∙ ap first less))
    ]
