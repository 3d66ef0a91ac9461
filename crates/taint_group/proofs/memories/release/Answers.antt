use Rattle.std.proofs.Common.{◌<◌, length, subst, sym, ap, ◌+◌, ◌∙◌, arith}
use Rattle.taint_group.proofs.Releasing.{ReleasesTo, is-empty, released-held, released-more, released-none, released-all, true-false}
use Rattle.taint_group.proofs.memories.release.Goals.{then-not-held+in_ok-nothing, else-not-held}
use Rattle.taint_group.proofs.memories.release.Goals as goal

pub loop-key-preserved : goal.loop-key-preserved
loop-key-preserved c =
    elim c.if-not-held.branch [
      | then-not-held+in_ok-nothing w ↦
          let there : c.loop-key.key < length c.loop-key.memories.items = omega (arith, c.loop-key-test.true, c.len-key-end.ensures, c.loop-key.invariant.count) in
          let none = is-empty w.put.new.place (ap length w.put.ensures ∙ w.in_ok-nothing.ensures.len) in
          subst (λ v. ReleasesTo c.args.members.now c.args.memories.now.items v.items (c.loop-key.key + 1)) (sym w.memories-is)
          (released-more c.args.members.now c.args.memories.now.items c.loop-key.memories.items c.loop-key.key w.put.new.place c.loop-key.invariant (c.is_held-held.ensures.free w.if-not-held.true) there none)
      | else-not-held w ↦
          subst (λ v. ReleasesTo c.args.members.now c.args.memories.now.items v.items (c.loop-key.key + 1)) (sym w.memories-is)
          (released-held c.args.members.now c.args.memories.now.items c.loop-key.memories.items c.loop-key.key c.loop-key.invariant (λ free. true-false (sym w.if-not-held.false ∙ c.is_held-held.ensures.held free)))
    ]

pub loop-key-init : goal.loop-key-init
loop-key-init c = released-none c.args.members.now c.args.memories.now.items

pub returns : goal.returns
returns c = released-all c.args.members.now c.args.memories.now.items c.loop-key.memories.items c.loop-key.key c.loop-key.invariant (omega (arith, c.loop-key-test.false, c.len-key-end.ensures, c.loop-key.invariant.count))
