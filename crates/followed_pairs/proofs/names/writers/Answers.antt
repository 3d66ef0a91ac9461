use Rattle.std.proofs.Common.{None, Some, ap, sym, ◌∙◌}
use Rattle.std.proofs.lemmas.List.{take_all}
use Rattle.std.proofs.lemmas.Result.{IfOk-from_err}
use Rattle.query_model.specs.Names.{writers}
use Rattle.followed_pairs.proofs.Wrote.{none-more, writers-step}
use Rattle.followed_pairs.proofs.names.writers.Goals as goal
use Rattle.followed_pairs.proofs.names.writers.Goals.{in-Some+in_ok-push, in_default}

pub loop-byte-preserved : goal.loop-byte-preserved
loop-byte-preserved c =
    elim c.match-event_group.branch [
      | in-Some+in_ok-push w ↦
          writers-step c.args._entries.now c.args.bytes.now c.loop-byte.byte-index _ c.loop-byte.groups.items c.match-event_group.groups.items (Some w.in-Some.group) c.loop-byte-test.true c.loop-byte.invariant
          (w.in-Some.ensures c.args._entries.now c.requires.indexed) (ap (λ v. v.items) w.groups-is ∙ w.in_ok-push.ensures.items)
      | in_default w ↦
          writers-step c.args._entries.now c.args.bytes.now c.loop-byte.byte-index _ c.loop-byte.groups.items c.match-event_group.groups.items None c.loop-byte-test.true c.loop-byte.invariant
          (sym w.in_default.is ∙ c.event_group.ensures c.args._entries.now c.requires.indexed) (none-more c.loop-byte.groups.items c.match-event_group.groups.items (ap (λ v. v.items) w.groups-is))
    ]

pub loop-byte-init : goal.loop-byte-init
loop-byte-init c = c.new-groups.ensures.items

pub returns-in_err-push : goal.returns-in_err-push
returns-in_err-push c = IfOk-from_err c.from_residual.result _ c.from_residual.ensures.0

pub returns : goal.returns
returns c = c.loop-byte.invariant ∙ ap (writers c.args._entries.now) (take_all c.loop-byte.byte-index c.args.bytes.now c.loop-byte-test.false)
