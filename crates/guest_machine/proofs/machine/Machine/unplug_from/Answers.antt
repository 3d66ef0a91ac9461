use Rattle.std.proofs.Common.{inl, inr, refl, sym, ◌∙◌}
use Rattle.guest_machine.proofs.Refused.{no-device-also, no-device-booted, not-booted-no-device}
use Rattle.guest_machine.proofs.machine.Machine.unplug_from.Goals as goal

pub returns-then-not-is_booted-clause-not_booted : goal.returns-then-not-is_booted-clause-not_booted
returns-then-not-is_booted-clause-not_booted g c = (λ is. sym c.is_booted.ensures ∙ c.if-not-is_booted.true, λ no. refl)

pub returns-then-not-is_booted-clause-no_device : goal.returns-then-not-is_booted-clause-no_device
returns-then-not-is_booted-clause-no_device g c = not-booted-no-device _ _ _ refl (sym c.is_booted.ensures ∙ c.if-not-is_booted.true)

pub returns-then-not-is_booted-clause-only : goal.returns-then-not-is_booted-clause-only
returns-then-not-is_booted-clause-only g c = inl refl

pub returns-then-not-is_filled-clause-not_booted : goal.returns-then-not-is_filled-clause-not_booted
returns-then-not-is_filled-clause-not_booted g c = no-device-booted _ _ refl (sym c.is_booted.ensures ∙ c.if-not-is_booted.false)

pub returns-then-not-is_filled-clause-no_device : goal.returns-then-not-is_filled-clause-no_device
returns-then-not-is_filled-clause-no_device g c = (λ is. (sym c.is_booted.ensures ∙ c.if-not-is_booted.false, inl (sym c.is_filled.ensures ∙ c.if-not-is_filled.true)), λ why. refl)

pub returns-then-not-is_filled-clause-only : goal.returns-then-not-is_filled-clause-only
returns-then-not-is_filled-clause-only g c = inr (inl refl)

pub returns-in-Ok-clause-event : goal.returns-in-Ok-clause-event
returns-in-Ok-clause-event g c = c.in-Ok.ensures.event

pub returns-in-Ok-clause-next : goal.returns-in-Ok-clause-next
returns-in-Ok-clause-next g c = c.in-Ok.ensures.next

pub returns-in-Ok-clause-runs : goal.returns-in-Ok-clause-runs
returns-in-Ok-clause-runs g c = c.in-Ok.ensures.runs

pub returns-in-Ok-clause-spelled : goal.returns-in-Ok-clause-spelled
returns-in-Ok-clause-spelled g c = c.in-Ok.ensures.spelled

pub returns-in-Ok-clause-not_booted : goal.returns-in-Ok-clause-not_booted
returns-in-Ok-clause-not_booted g c = c.in-Ok.ensures.not_booted

pub returns-in-Ok-clause-no_device : goal.returns-in-Ok-clause-no_device
returns-in-Ok-clause-no_device g c = no-device-also _ _ _ _ c.in-Ok.ensures.no_device (sym c.is_filled.ensures ∙ c.if-not-is_filled.false)

pub returns-in-Err-clause-not_booted : goal.returns-in-Err-clause-not_booted
returns-in-Err-clause-not_booted g c = c.in-Err.ensures.not_booted

pub returns-in-Err-clause-only : goal.returns-in-Err-clause-only
returns-in-Err-clause-only g c = c.in-Err.ensures.only

pub returns-in-Err-clause-err : goal.returns-in-Err-clause-err
returns-in-Err-clause-err g c = c.in-Err.ensures.err

pub returns-in-Err-clause-unrecorded : goal.returns-in-Err-clause-unrecorded
returns-in-Err-clause-unrecorded g c = c.in-Err.ensures.unrecorded

pub returns-in-Err-clause-unasked : goal.returns-in-Err-clause-unasked
returns-in-Err-clause-unasked g c = refl

pub returns-in-Err-clause-no_device : goal.returns-in-Err-clause-no_device
returns-in-Err-clause-no_device g c = no-device-also _ _ _ _ c.in-Err.ensures.no_device (sym c.is_filled.ensures ∙ c.if-not-is_filled.false)
