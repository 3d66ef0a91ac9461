use Rattle.std.proofs.Common.{ap, sym, ◌∙◌, string_bytes}
use Rattle.session_reports.proofs.Numbered.{listed-event, listed-slice}
use Rattle.session_reports.proofs.events.events.Goals as goal
use Rattle.session_reports.proofs.events.events.Goals.{then-is_event+in_ok-push_one, else-is_event}

pub loop-entry-preserved : goal.loop-entry-preserved
loop-entry-preserved c =
    elim c.if-is_event.branch [
      | then-is_event+in_ok-push_one w ↦ listed-event c.args.entries.now c.loop-entry.entry-index c.entry-item.result c.loop-entry.event c.if-is_event.event (string_bytes c.loop-entry.lines) (string_bytes c.if-is_event.lines) c.loop-entry-test.true c.entry-item.is (sym c.is_event.ensures ∙ w.if-is_event.true) c.loop-entry.invariant w.event-is (λ there. ap string_bytes w.lines-is ∙ w.in_ok-push_one.ensures c.args.entries.now c.requires.known there)
      | else-is_event w ↦ listed-slice c.args.entries.now c.loop-entry.entry-index c.entry-item.result c.loop-entry.event c.if-is_event.event (string_bytes c.loop-entry.lines) (string_bytes c.if-is_event.lines) c.loop-entry-test.true c.entry-item.is (sym c.is_event.ensures ∙ w.if-is_event.false) c.loop-entry.invariant w.event-is (ap string_bytes w.lines-is)
    ]
