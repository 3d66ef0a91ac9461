use Rattle.std.proofs.Common.{◌≡◌, ◌∙◌, not, refl, sym, ap, arith}
use Rattle.acts_model.specs.Records.{is_event}
use Rattle.session_runs.proofs.OutputLemmas.{outputs-event, outputs-slice, outputs-end, is_event-other}
use Rattle.session_runs.proofs.outputs.push_outputs.Goals as goal
use Rattle.session_runs.proofs.outputs.push_outputs.Goals.{in-Slice, in_default, then-not-matches+in_ok-push_output, else-not-matches}

pub loop-entry-init : goal.loop-entry-init
loop-entry-init c = record { written = refl; counted = omega arith }

pub overflow_add-event : goal.overflow_add-event
overflow_add-event c = omega (arith, c.loop-entry.invariant.counted, c.loop-entry-test.true, c.requires.room)

-- whether the record is that of an event
found : (c : goal.Joined-not-matches) → is_event c.entry-item.result ≡ not c.match-matches.matches
found c =
    elim c.match-matches.branch [
      | in-Slice w ↦ ap is_event w.in-Slice.is ∙ ap not (sym w.matches-is)
      | in_default w ↦ is_event-other c.entry-item.result w.in_default.not-Slice ∙ ap not (sym w.matches-is)
    ]

pub loop-entry-preserved : goal.loop-entry-preserved
loop-entry-preserved c =
    elim c.if-not-matches.branch [
      | then-not-matches+in_ok-push_output v ↦ rw (v.text-is, v.event-is) (record {
        written = outputs-event c.args.first c.loop-entry.event c.loop-entry.entry-index c.args.entries.now c.entry-item.result _ _ _ c.loop-entry-test.true c.entry-item.is (found c ∙ ap not v.if-not-matches.true) c.loop-entry.invariant.written v.in_ok-push_output.ensures;
        counted = omega (arith, c.loop-entry.invariant.counted);
      })
      | else-not-matches v ↦ rw (v.text-is, v.event-is) (record {
        written = outputs-slice c.args.first c.loop-entry.event c.loop-entry.entry-index c.args.entries.now c.entry-item.result _ _ c.loop-entry-test.true c.entry-item.is (found c ∙ ap not v.if-not-matches.false) c.loop-entry.invariant.written;
        counted = omega (arith, c.loop-entry.invariant.counted);
      })
    ]

pub returns : goal.returns
returns c = outputs-end c.args.first c.loop-entry.event c.loop-entry.entry-index c.args.entries.now _ _ (omega (arith, c.loop-entry-test.false)) c.loop-entry.invariant.written
