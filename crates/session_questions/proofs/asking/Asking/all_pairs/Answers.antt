use Rattle.std.proofs.Common.{◌∙◌, ℕ, ◌+◌, drop, ap, arith, refl, sym}
use Rattle.generator.specs.Sums.{written_by}
use Rattle.session_questions.specs.Counting.{IsRefused}
use Rattle.session_questions.specs.Generated.{writes_cost, write_of, writes, writes_from}
use Rattle.session_questions.proofs.Written.{begins, cost-goes-on, cost-stops, err-same, goes-on, goes-on-as-it-is, next-event, next-slice, ok-never, stops}
use Rattle.session_questions.proofs.asking.Asking.all_pairs.Goals as goal
use Rattle.session_questions.proofs.asking.Asking.all_pairs.Goals.{then-is_event+in_ok-write_pairs, else-is_event}

pub returns-in_err-write_pairs-clause-err : goal.returns-in_err-write_pairs-clause-err
returns-in_err-write_pairs-clause-err g c =
    let entries = c.args.entries.now in
    let l = c.loop-entry in
    let next = next-event entries l.event l.entry-index c.entry-item.result c.loop-entry-test.true c.entry-item.is (sym c.is_event.ensures ∙ c.if-is_event.true) in
    err-same c.from_residual.result c.in_err-write_pairs.field-0.0 (IsRefused entries (writes entries)) c.from_residual.ensures.1
    (stops entries l.pairs _ _ _ c.in_err-write_pairs.field-0.0 next c.in_err-write_pairs.ensures.err l.invariant.leaves)

pub loop-entry-preserved : goal.loop-entry-preserved
loop-entry-preserved g c =
    let entries = c.args.entries.now in
    let l = c.loop-entry in
    let item = c.entry-item.result in
    elim c.if-is_event.branch [
      | then-is_event+in_ok-write_pairs w ↦
          let next = next-event entries l.event l.entry-index item c.loop-entry-test.true c.entry-item.is (sym c.is_event.ensures ∙ w.if-is_event.true) in
          let first = write_of l.event (written_by item) in
          let rest = writes_from (l.event + 1) (drop (l.entry-index + 1) entries) in
          rw (w.self-is, w.steps-is, w.event-is, w.pairs-is) (record {
            known = w.write_pairs.ensures.known;
            leaves = goes-on entries l.pairs w.in_ok-write_pairs.field-0 _ _ first rest next w.in_ok-write_pairs.ensures.ok (ap (λ (n : ℕ). l.pairs + n) w.from.ensures) l.invariant.leaves;
            cost = cost-goes-on entries l.steps w.write_pairs.new.steps _ _ first rest next w.write_pairs.ensures.steps l.invariant.cost;
            events = omega (arith, l.invariant.events);
            few = omega (arith, l.invariant.few, w.from.ensures);
          })
      | else-is_event w ↦
          let next = next-slice entries l.event l.entry-index item c.loop-entry-test.true c.entry-item.is (sym c.is_event.ensures ∙ w.if-is_event.false) in
          rw (w.self-is, w.steps-is, w.event-is, w.pairs-is) (record {
            known = l.invariant.known;
            leaves = goes-on-as-it-is entries l.pairs l.pairs _ _ next refl l.invariant.leaves;
            cost = omega (arith, l.invariant.cost, ap (writes_cost entries) next);
            events = omega (arith, l.invariant.events);
            few = omega (arith, l.invariant.few);
          })
    ]

pub loop-entry-init : goal.loop-entry-init
loop-entry-init g c = record { known = c.requires.known; leaves = begins c.args.entries.now; cost = omega arith; events = omega arith; few = omega arith }

pub write_pairs-requires-clause-countable : goal.write_pairs-requires-clause-countable
write_pairs-requires-clause-countable g c = c.requires.countable

pub write_pairs-requires-clause-known : goal.write_pairs-requires-clause-known
write_pairs-requires-clause-known g c = c.loop-entry.invariant.known

pub returns-in_err-write_pairs-clause-known : goal.returns-in_err-write_pairs-clause-known
returns-in_err-write_pairs-clause-known g c = c.write_pairs.ensures.known

pub returns-in_err-write_pairs-clause-ok : goal.returns-in_err-write_pairs-clause-ok
returns-in_err-write_pairs-clause-ok g c = ok-never _ c.from_residual.result c.in_err-write_pairs.field-0.0 c.from_residual.ensures.1

pub returns-in_err-write_pairs-clause-steps : goal.returns-in_err-write_pairs-clause-steps
returns-in_err-write_pairs-clause-steps g c =
    let entries = c.args.entries.now in
    let l = c.loop-entry in
    let item = c.entry-item.result in
    let next = next-event entries l.event l.entry-index item c.loop-entry-test.true c.entry-item.is (sym c.is_event.ensures ∙ c.if-is_event.true) in
    cost-stops entries l.steps c.write_pairs.new.steps _ _ (write_of l.event (written_by item)) (writes_from (l.event + 1) (drop (l.entry-index + 1) entries)) next c.write_pairs.ensures.steps l.invariant.cost

pub returns-clause-known : goal.returns-clause-known
returns-clause-known g c = c.loop-entry.invariant.known

pub returns-clause-err : goal.returns-clause-err
returns-clause-err g c = tt

pub returns-clause-steps : goal.returns-clause-steps
returns-clause-steps g c = omega (arith, c.loop-entry.invariant.cost)
