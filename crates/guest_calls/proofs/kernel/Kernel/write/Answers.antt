use Rattle.std.proofs.Common.{refl, sym, ap, ◌∙◌, subst}
use Rattle.acts_model.specs.Views.{read}
use Rattle.arn_model.specs.Doing.{Does, Writes, returns}
use Rattle.arn_model.specs.Row.{is_waiting}
use Rattle.arn_model.specs.TransferCalls.{absent, write_console}
use Rattle.guest_requests.specs.Transfers.{pouring, writing_at}
use Rattle.guest_calls.specs.Fits.{IsShort}
use Rattle.guest_calls.proofs.Tries.{alone, alone-or, asks-or, puts-ready, waits}
use Rattle.guest_calls.proofs.kernel.Kernel.write.Goals as goal

pub returns-in-Waits : goal.returns-in-Waits
returns-in-Waits g c = waits c.tables.ensures c.in-Waits.ensures.writing refl refl

pub returns-in-Answers : goal.returns-in-Answers
returns-in-Answers g c =
    alone c.answers.result (λ m v. returns c.in-Answers.answer m.kernel) c.tables.ensures c.in-Answers.ensures.writing (subst IsShort (sym c.answers.ensures.nothing) tt) refl c.answers.ensures.carried

pub returns-in-Absent : goal.returns-in-Absent
returns-in-Absent g c =
    alone c.fails.result (λ m v. Does (absent m.kernel)) c.tables.ensures c.in-Absent.ensures.writing (subst IsShort (sym c.fails.ensures.extra) tt) refl c.fails.ensures.carried

pub returns-in-Prints : goal.returns-in-Prints
returns-in-Prints g c =
    alone-or c.print.result c.or_stop.result (λ m v. write_console m c.in-Prints.at (read v c.in-Prints.at c.in-Prints.count)) c.or_stop.ensures c.tables.ensures c.in-Prints.ensures.writing (λ m v same sees. ap is_waiting (c.in-Prints.ensures.writing m v same sees)) c.print.ensures.short refl c.print.ensures.carried c.print.ensures.err

pub returns-in-Puts : goal.returns-in-Puts
returns-in-Puts g c =
    alone-or c.put.result c.or_stop-in-Puts.result (λ m v. writing_at m c.in-Puts.at (read v c.in-Puts.at c.in-Puts.count) c.in-Puts.place) c.or_stop-in-Puts.ensures c.tables.ensures c.in-Puts.ensures.writing (λ m v same sees. ap is_waiting (c.in-Puts.ensures.writing m v same sees) ∙ puts-ready m c.in-Puts.at (read v c.in-Puts.at c.in-Puts.count) c.in-Puts.place) c.put.ensures.short refl c.put.ensures.carried c.put.ensures.err

pub returns-in-Pours : goal.returns-in-Pours
returns-in-Pours g c =
    alone-or c.pour.result c.or_stop-in-Pours.result (λ m v. pouring m c.in-Pours.at (read v c.in-Pours.at c.in-Pours.count) c.in-Pours.pipe) c.or_stop-in-Pours.ensures c.tables.ensures (λ m v same sees. (c.in-Pours.ensures.writing m v same sees).0) (λ m v same sees. (c.in-Pours.ensures.writing m v same sees).1) c.pour.ensures.short refl c.pour.ensures.carried c.pour.ensures.err

pub returns-in-Asks : goal.returns-in-Asks
returns-in-Asks g c =
    asks-or c.write_device.result c.or_stop-in-Asks.result (Writes c.in-Asks.device c.in-Asks.at c.in-Asks.count) c.or_stop-in-Asks.ensures c.tables.ensures c.in-Asks.ensures.writing c.write_device.ensures.short c.write_device.ensures.replied c.write_device.ensures.err c.write_device.ensures.unasked
