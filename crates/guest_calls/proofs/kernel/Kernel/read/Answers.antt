use Rattle.std.proofs.Common.{refl, sym, ap, subst}
use Rattle.arn_model.specs.Doing.{Does, Reads, returns}
use Rattle.arn_model.specs.Row.{is_waiting}
use Rattle.arn_model.specs.TransferCalls.{absent}
use Rattle.guest_requests.specs.Transfers.{draining, reading_at, taking}
use Rattle.guest_calls.specs.Fits.{IsShort}
use Rattle.guest_calls.proofs.Tries.{alone, alone-or, asks-or, waits}
use Rattle.guest_calls.proofs.kernel.Kernel.read.Goals as goal

pub returns-in-Waits : goal.returns-in-Waits
returns-in-Waits g c = waits c.tables.ensures c.in-Waits.ensures.reading refl refl

pub returns-in-Answers : goal.returns-in-Answers
returns-in-Answers g c =
    alone c.answers.result (λ m v. returns c.in-Answers.answer m.kernel) c.tables.ensures c.in-Answers.ensures.reading (subst IsShort (sym c.answers.ensures.nothing) tt) refl c.answers.ensures.carried

pub returns-in-Absent : goal.returns-in-Absent
returns-in-Absent g c =
    alone c.fails.result (λ m v. Does (absent m.kernel)) c.tables.ensures c.in-Absent.ensures.reading (subst IsShort (sym c.fails.ensures.extra) tt) refl c.fails.ensures.carried

pub returns-in-Takes : goal.returns-in-Takes
returns-in-Takes g c =
    alone-or c.take.result c.or_stop.result (λ m v. taking m c.in-Takes.at c.in-Takes.count) c.or_stop.ensures c.tables.ensures c.in-Takes.ensures.reading (λ m v same sees. ap is_waiting (c.in-Takes.ensures.reading m v same sees)) c.take.ensures.short refl c.take.ensures.carried c.take.ensures.err

pub returns-in-Reads : goal.returns-in-Reads
returns-in-Reads g c =
    alone-or c.take_from_file.result c.or_stop-in-Reads.result (λ m v. reading_at m c.in-Reads.at c.in-Reads.most c.in-Reads.place) c.or_stop-in-Reads.ensures c.tables.ensures (λ m v same sees. (c.in-Reads.ensures.reading m v same sees).0) (λ m v same sees. (c.in-Reads.ensures.reading m v same sees).1) c.take_from_file.ensures.short refl c.take_from_file.ensures.carried c.take_from_file.ensures.err

pub returns-in-Drains : goal.returns-in-Drains
returns-in-Drains g c =
    alone-or c.drain.result c.or_stop-in-Drains.result (λ m v. draining m c.in-Drains.at c.in-Drains.most c.in-Drains.pipe) c.or_stop-in-Drains.ensures c.tables.ensures (λ m v same sees. (c.in-Drains.ensures.reading m v same sees).0) (λ m v same sees. (c.in-Drains.ensures.reading m v same sees).1) c.drain.ensures.short refl c.drain.ensures.carried c.drain.ensures.err

pub returns-in-Asks : goal.returns-in-Asks
returns-in-Asks g c =
    asks-or c.read_device.result c.or_stop-in-Asks.result (Reads c.in-Asks.device c.in-Asks.at c.in-Asks.most) c.or_stop-in-Asks.ensures c.tables.ensures c.in-Asks.ensures.reading c.read_device.ensures.short c.read_device.ensures.replied c.read_device.ensures.err c.read_device.ensures.unasked
