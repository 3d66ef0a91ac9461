use Rattle.std.proofs.Common.{refl, sym, ap, subst}
use Rattle.arn_model.specs.Doing.{Does, Here, returns}
use Rattle.arn_model.specs.Row.{is_waiting}
use Rattle.arn_model.specs.TransferCalls.{absent}
use Rattle.guest_calls.specs.Fits.{IsShort}
use Rattle.guest_calls.proofs.Tries.{alone, asks, lacks}
use Rattle.guest_calls.proofs.kernel.Kernel.device.Goals as goal

pub returns-in-Answers : goal.returns-in-Answers
returns-in-Answers g c =
    alone c.answers.result (λ m v. returns c.in-Answers.answer m.kernel) c.tables.ensures c.in-Answers.ensures.opening (subst IsShort (sym c.answers.ensures.nothing) tt) refl c.answers.ensures.carried

pub returns-in-Absent : goal.returns-in-Absent
returns-in-Absent g c =
    alone c.fails.result (λ m v. Does (absent m.kernel)) c.tables.ensures c.in-Absent.ensures.opening (subst IsShort (sym c.fails.ensures.extra) tt) refl c.fails.ensures.carried

pub returns-in_ok-open_device-in-Asks : goal.returns-in_ok-open_device-in-Asks
returns-in_ok-open_device-in-Asks g c =
    asks c.in_ok-open_device-in-Asks.field-0 (Here c.in-Asks.device) c.tables.ensures c.in-Asks.ensures.opening c.in_ok-open_device-in-Asks.ensures.short c.in_ok-open_device-in-Asks.ensures.replied

pub returns-in_err-open_device-in-Asks : goal.returns-in_err-open_device-in-Asks
returns-in_err-open_device-in-Asks g c =
    lacks c.from_residual.result c.tables.ensures (λ m v same sees. ap is_waiting (c.in-Asks.ensures.opening m v same sees)) c.from_residual.ensures.1 c.in_err-open_device-in-Asks.ensures.err c.in_err-open_device-in-Asks.ensures.unasked
