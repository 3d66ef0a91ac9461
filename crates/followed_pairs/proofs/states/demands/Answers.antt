use Rattle.std.proofs.Common.{ℕ, ◌<◌, ap, arith, subst, ◌∙◌}
use Rattle.std.proofs.lemmas.Result.{IfOk-from_err}
use Rattle.history_model.specs.Groups.{group_of}
use Rattle.taint_state.specs.declared.point.Point.{Point}
use Rattle.followed_groups.specs.Following.{told_by}
use Rattle.followed_pairs.specs.States.{held_demands}
use Rattle.followed_pairs.proofs.HeldPairs.{demands-more}
use Rattle.followed_pairs.proofs.HeldTold.{held-byte, held-placed}
use Rattle.followed_pairs.proofs.states.demands.Goals as goal

pub loop-byte-preserved : goal.loop-byte-preserved
loop-byte-preserved c =
    demands-more c.args.followed.now c.args.held c.loop-byte.byte c.loop-byte.demands.items c.add_items.new.demands.items c.as_slice.result.now c.in_ok-add_items.ensures c.loop-byte.invariant
    (c.as_slice.ensures.value ∙ c.in_ok-items.ensures ∙ (c.held.ensures ∙ ap (λ (p : Point). told_by c.args.followed.now p (group_of c.args.followed.now.entries c.args.held.pid)) c.point.ensures))

pub loop-byte-init : goal.loop-byte-init
loop-byte-init c = c.new-demands.ensures.items

pub point-requires-clause-below : goal.point-requires-clause-below
point-requires-clause-below c = held-byte c.args._entries.now c.args.held c.requires.there c.loop-byte.byte (subst (λ (n : ℕ). c.loop-byte.byte < n) c.len_of-byte-end.ensures c.loop-byte-test.true)

pub point-requires-clause-placed : goal.point-requires-clause-placed
point-requires-clause-placed c = held-placed c.args._entries.now c.args.held c.requires.there

pub returns-in_err-items : goal.returns-in_err-items
returns-in_err-items c = IfOk-from_err c.from_residual.result _ c.from_residual.ensures.0

pub returns-in_err-add_items : goal.returns-in_err-add_items
returns-in_err-add_items c = IfOk-from_err c.from_residual-in_err-add_items.result _ c.from_residual-in_err-add_items.ensures.0

pub returns : goal.returns
returns c = c.loop-byte.invariant ∙ ap (held_demands c.args.followed.now c.args.held) (omega (arith, c.loop-byte-test.false, c.loop-byte.auto.byte-end, c.len_of-byte-end.ensures))
