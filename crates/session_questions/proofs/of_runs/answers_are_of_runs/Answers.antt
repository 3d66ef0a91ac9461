use Rattle.rv64_model.specs.declared.linkage.Linkage.TheVariants.{Copy}
use Rattle.session_questions.proofs.OfRuns.{agrees, of-generator, of-runs, sunk}
use Rattle.session_questions.proofs.of_runs.answers_are_of_runs.Goals as goal

pub returns-clause-text : goal.returns-clause-text
returns-clause-text c = λ inputs q short.
    of-runs c.short_runs_have_numbers.ensures c.queries_are_of_runs.ensures c.states_are_of_runs.ensures c.names_are_of_runs.ensures c.forth_is_of_runs.ensures c.views_are_of_runs.ensures c.versions_are_of_runs.ensures c.verify_tells_runs.ensures c.records_are_run.ensures c.counts_are_of_runs.ensures inputs short q

pub returns-clause-generated : goal.returns-clause-generated
returns-clause-generated c = λ inputs processes short.
    of-generator c.short_runs_have_numbers.ensures c.queries_are_of_runs.ensures c.states_are_of_runs.ensures c.names_are_of_runs.ensures c.forth_is_of_runs.ensures c.views_are_of_runs.ensures c.versions_are_of_runs.ensures c.verify_tells_runs.ensures c.records_are_run.ensures c.counts_are_of_runs.ensures inputs short processes

pub returns-clause-undamaged : goal.returns-clause-undamaged
returns-clause-undamaged c = λ inputs event short.
    agrees c.short_runs_have_numbers.ensures c.queries_are_of_runs.ensures c.states_are_of_runs.ensures c.names_are_of_runs.ensures c.forth_is_of_runs.ensures c.views_are_of_runs.ensures c.versions_are_of_runs.ensures c.verify_tells_runs.ensures c.records_are_run.ensures c.counts_are_of_runs.ensures inputs short Copy event

pub returns-clause-sinks : goal.returns-clause-sinks
returns-clause-sinks c = λ linkage inputs event from len short pair.
    sunk c.short_runs_have_numbers.ensures c.queries_are_of_runs.ensures c.states_are_of_runs.ensures c.names_are_of_runs.ensures c.forth_is_of_runs.ensures c.views_are_of_runs.ensures c.versions_are_of_runs.ensures c.verify_tells_runs.ensures c.records_are_run.ensures c.counts_are_of_runs.ensures inputs short linkage event from len pair
