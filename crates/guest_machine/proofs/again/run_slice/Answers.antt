use Rattle.std.proofs.Common.{◌≤◌, ◌∙◌, Option, ap, arith}
use Rattle.parts_model.specs.Replies.{Answered}
use Rattle.parts_model.specs.declared.limits.TheConstants.{MOST_SLICE}
use Rattle.guest_devices.specs.Told.{told_answer}
use Rattle.log_model.specs.Records.{reply_behind}
use Rattle.guest_machine.proofs.AgainLemmas.{cut-few, told-Runs, told-few}
use Rattle.guest_machine.proofs.again.run_slice.Goals as goal

pub take_slice-requires-clause-room : goal.take_slice-requires-clause-room
take_slice-requires-clause-room g c =
    let most : c.args.count ≤ MOST_SLICE = c.can_take.ensures.most c.if-not-can_take.false in
    record { events = c.requires.room.events; instructions = omega (arith, c.requires.room.instructions, most) }

pub returns-in-Ok-clause-runs : goal.returns-in-Ok-clause-runs
returns-in-Ok-clause-runs g c =
    told-Runs c.requests_bounded.ensures.bounded c.told_counts_as_named.ensures.here c.told_counts_as_named.ensures.read _ (reply_behind c.args.behind.now) _ _ (λ new q answer h. h.0 ∙ ap (λ (r : Option Answered). told_answer r q) c.call_in.ensures) c.args.pid c.args.count c.args.machine.now c.take_slice.new.self c.args.out.now.items c.take_slice.new.out.items c.in-Ok.ensures.ran

pub returns-in-Ok-clause-steps : goal.returns-in-Ok-clause-steps
returns-in-Ok-clause-steps g c =
    told-few c.requests_bounded.ensures.bounded c.told_counts_as_named.ensures.here c.told_counts_as_named.ensures.read _ (reply_behind c.args.behind.now) _ _ (λ new q answer h. h.0 ∙ ap (λ (r : Option Answered). told_answer r q) c.call_in.ensures) c.args.pid c.args.count c.args.machine.now c.take_slice.new.self c.args.out.now.items c.take_slice.new.out.items c.args.steps.now c.take_slice.new.steps c.in-Ok.ensures.ran c.take_slice.ensures.steps

pub returns-in-Err-clause-steps : goal.returns-in-Err-clause-steps
returns-in-Err-clause-steps g c =
    cut-few c.turns_have_parts.ensures c.args.pid c.args.count (reply_behind c.args.behind.now) c.args.machine.now c.take_slice.new.self c.args.out.now.items c.take_slice.new.out.items c.args.steps.now c.take_slice.new.steps (c.can_take.ensures.live c.if-not-can_take.false) (c.can_take.ensures.can c.if-not-can_take.false) c.in-Err.ensures.cut c.take_slice.ensures.steps
