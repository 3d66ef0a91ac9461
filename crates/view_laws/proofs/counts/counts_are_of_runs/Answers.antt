use Rattle.std.proofs.Common.{List, slice_get, ap}
use Rattle.arn_base.specs.declared.records.Record.{Record}
use Rattle.view_laws.proofs.Counted.{count-told}
use Rattle.view_laws.proofs.Moments.{moment-told}
use Rattle.view_laws.proofs.counts.counts_are_of_runs.Goals as goal

pub returns : goal.returns
returns c = λ inputs few. record {
  events = (c.records_tell_runs.ensures inputs few).events;
  entries = λ n. ap (λ (entries : List Record). slice_get entries n) (c.events_recorded.ensures inputs);
  moments = moment-told inputs c.records_tell_events.ensures;
  counts = count-told inputs few c.steps_tell.ensures c.groups_pass_through.ensures c.records_tell_runs.ensures c.runs_are_unbroken.ensures c.runs_before.ensures;
}
