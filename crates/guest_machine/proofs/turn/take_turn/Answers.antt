use Rattle.std.proofs.Common.{rules, ◌+◌, ◌<◌, None, true, false, refl, arith}
use Rattle.guest_bodies.specs.Shown.{IsLive}
use Rattle.guest_machine.proofs.WholeTurns.{stops-call, stops-end, take-dead, take-part, take-whole, within-counted}
use Rattle.guest_machine.proofs.turn.take_turn.Goals as goal

pub returns-then-not-is_live-clause-takes : goal.returns-then-not-is_live-clause-takes
returns-then-not-is_live-clause-takes g c m stands =
    let dead : IsLive c.deliver-delivery.new.kernel.guests c.args.pid → ⊥ = λ live. search rules in
    record {
      parts = record { delivery = c.deliver-delivery.result; ran = 0; last = None; cut = false };
      took = take-dead c.turns_have_parts.ensures g.A.Answers.answers c.args.answers.now c.args.kernel.now c.deliver-delivery.new.kernel c.args.pid c.args.count c.deliver-delivery.result c.requires.live c.deliver-delivery.ensures.delivers dead m stands;
      ran = refl;
      kept = c.keep_turn.ensures.items;
    }

pub finish-requires-clause-at_call : goal.finish-requires-clause-at_call
finish-requires-clause-at_call g c =
    stops-call c.deliver-delivery.new.kernel c.run_plain-stood.new.kernel c.args.pid c.args.count c.run_plain-stood.result c.deliver-delivery.ensures.real c.run_plain-stood.ensures.ran

pub finish-requires-clause-at_end : goal.finish-requires-clause-at_end
finish-requires-clause-at_end g c status =
    stops-end c.deliver-delivery.new.kernel c.run_plain-stood.new.kernel c.args.pid c.args.count c.run_plain-stood.result status c.deliver-delivery.ensures.real c.run_plain-stood.ensures.ran

pub returns-in-Ok-clause-takes : goal.returns-in-Ok-clause-takes
returns-in-Ok-clause-takes g c m stands =
    record {
      parts = record { delivery = c.deliver-delivery.result; ran = c.run_plain-stood.result.ran + c.counted.result; last = c.in-Ok.last; cut = false };
      took =
          take-whole c.turns_have_parts.ensures g.A.Answers.answers c.args.answers.now c.finish.new.answers c.args.kernel.now c.deliver-delivery.new.kernel c.run_plain-stood.new.kernel c.finish.new.kernel c.args.pid c.args.count c.deliver-delivery.result c.in-Ok.last c.run_plain-stood.result c.counted.result
          c.requires.live c.deliver-delivery.ensures.delivers c.run_plain-stood.ensures.ran c.in-Ok.ensures.finishes c.counted.ensures m stands;
      ran = refl;
      kept = c.keep_turn-in-Ok.ensures.items;
    }

pub returns-in-Err-clause-takes : goal.returns-in-Err-clause-takes
returns-in-Err-clause-takes g c m stands =
    let within : c.run_plain-stood.result.ran < c.args.count = c.run_plain-stood.ensures.some c.in-Err.ensures.called in
    record {
      parts = record { delivery = c.deliver-delivery.result; ran = c.run_plain-stood.result.ran; last = None; cut = true };
      took =
          take-part c.turns_have_parts.ensures c.args.answers.now c.finish.new.answers c.args.kernel.now c.deliver-delivery.new.kernel c.run_plain-stood.new.kernel c.finish.new.kernel c.args.pid c.args.count c.deliver-delivery.result c.run_plain-stood.result
          c.requires.live c.deliver-delivery.ensures.delivers c.run_plain-stood.ensures.ran c.in-Err.ensures.err c.in-Err.ensures.unasked within m stands;
      ran = refl;
      kept = c.keep_turn-in-Err.ensures.items;
    }

pub deliver-delivery-requires-clause-live : goal.deliver-delivery-requires-clause-live
deliver-delivery-requires-clause-live g c = c.requires.live

pub deliver-delivery-requires-clause-real : goal.deliver-delivery-requires-clause-real
deliver-delivery-requires-clause-real g c = c.requires.real

pub deliver-delivery-requires-clause-room : goal.deliver-delivery-requires-clause-room
deliver-delivery-requires-clause-room g c = omega (arith, c.requires.room)

pub run_plain-stood-requires-clause-real : goal.run_plain-stood-requires-clause-real
run_plain-stood-requires-clause-real g c = c.deliver-delivery.ensures.real

pub finish-requires-clause-live : goal.finish-requires-clause-live
finish-requires-clause-live g c = c.run_plain-stood.ensures.live

pub finish-requires-clause-real : goal.finish-requires-clause-real
finish-requires-clause-real g c = c.run_plain-stood.ensures.real

pub finish-requires-clause-room : goal.finish-requires-clause-room
finish-requires-clause-room g c = omega (arith, c.run_plain-stood.ensures.events, c.deliver-delivery.ensures.events, c.requires.room)

pub overflow_add-ran : goal.overflow_add-ran
overflow_add-ran g c = omega (arith, within-counted c.run_plain-stood.result.outcome c.run_plain-stood.result.ran c.args.count c.counted.result c.in-Ok.last c.run_plain-stood.ensures.within c.run_plain-stood.ensures.some c.in-Ok.ensures.none c.counted.ensures, c.ranges.count.fits)

pub returns-then-not-is_live-clause-real : goal.returns-then-not-is_live-clause-real
returns-then-not-is_live-clause-real g c = c.deliver-delivery.ensures.real

pub returns-then-not-is_live-clause-events : goal.returns-then-not-is_live-clause-events
returns-then-not-is_live-clause-events g c = omega (arith, c.deliver-delivery.ensures.events)

pub returns-then-not-is_live-clause-within : goal.returns-then-not-is_live-clause-within
returns-then-not-is_live-clause-within g c = omega arith

pub returns-then-not-is_live-clause-spelled : goal.returns-then-not-is_live-clause-spelled
returns-then-not-is_live-clause-spelled g c = c.keep_turn.ensures.spelled

pub returns-then-not-is_live-clause-len : goal.returns-then-not-is_live-clause-len
returns-then-not-is_live-clause-len g c = c.keep_turn.ensures.len

pub returns-then-not-is_live-clause-few : goal.returns-then-not-is_live-clause-few
returns-then-not-is_live-clause-few g c = c.keep_turn.ensures.few

pub returns-then-not-is_live-clause-steps : goal.returns-then-not-is_live-clause-steps
returns-then-not-is_live-clause-steps g c = omega arith

pub returns-then-not-is_live-clause-at_most : goal.returns-then-not-is_live-clause-at_most
returns-then-not-is_live-clause-at_most g c = omega arith

pub returns-in-Ok-clause-real : goal.returns-in-Ok-clause-real
returns-in-Ok-clause-real g c = c.finish.ensures.real

pub returns-in-Ok-clause-events : goal.returns-in-Ok-clause-events
returns-in-Ok-clause-events g c = omega (arith, c.finish.ensures.events, c.run_plain-stood.ensures.events, c.deliver-delivery.ensures.events)

pub returns-in-Ok-clause-within : goal.returns-in-Ok-clause-within
returns-in-Ok-clause-within g c = within-counted c.run_plain-stood.result.outcome c.run_plain-stood.result.ran c.args.count c.counted.result c.in-Ok.last c.run_plain-stood.ensures.within c.run_plain-stood.ensures.some c.in-Ok.ensures.none c.counted.ensures

pub returns-in-Ok-clause-spelled : goal.returns-in-Ok-clause-spelled
returns-in-Ok-clause-spelled g c = c.keep_turn-in-Ok.ensures.spelled

pub returns-in-Ok-clause-len : goal.returns-in-Ok-clause-len
returns-in-Ok-clause-len g c = c.keep_turn-in-Ok.ensures.len

pub returns-in-Ok-clause-few : goal.returns-in-Ok-clause-few
returns-in-Ok-clause-few g c = c.keep_turn-in-Ok.ensures.few

pub returns-in-Ok-clause-steps : goal.returns-in-Ok-clause-steps
returns-in-Ok-clause-steps g c = omega (arith, c.run_plain-stood.ensures.steps)

pub returns-in-Ok-clause-at_most : goal.returns-in-Ok-clause-at_most
returns-in-Ok-clause-at_most g c = c.run_plain-stood.ensures.at_most

pub returns-in-Err-clause-real : goal.returns-in-Err-clause-real
returns-in-Err-clause-real g c = c.finish.ensures.real

pub returns-in-Err-clause-events : goal.returns-in-Err-clause-events
returns-in-Err-clause-events g c = omega (arith, c.finish.ensures.events, c.run_plain-stood.ensures.events, c.deliver-delivery.ensures.events)

pub returns-in-Err-clause-within : goal.returns-in-Err-clause-within
returns-in-Err-clause-within g c = c.run_plain-stood.ensures.within

pub returns-in-Err-clause-spelled : goal.returns-in-Err-clause-spelled
returns-in-Err-clause-spelled g c = c.keep_turn-in-Err.ensures.spelled

pub returns-in-Err-clause-len : goal.returns-in-Err-clause-len
returns-in-Err-clause-len g c = c.keep_turn-in-Err.ensures.len

pub returns-in-Err-clause-few : goal.returns-in-Err-clause-few
returns-in-Err-clause-few g c = c.keep_turn-in-Err.ensures.few

pub returns-in-Err-clause-steps : goal.returns-in-Err-clause-steps
returns-in-Err-clause-steps g c = c.run_plain-stood.ensures.steps

pub returns-in-Err-clause-at_most : goal.returns-in-Err-clause-at_most
returns-in-Err-clause-at_most g c = c.run_plain-stood.ensures.at_most
