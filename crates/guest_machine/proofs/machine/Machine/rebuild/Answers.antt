use Rattle.log_model.specs.Records.{IsRun, named}
use Rattle.record_match.specs.declared.differs.RebuildError.TheVariants as rebuild_error
use Rattle.guest_machine.specs.Recorded.{IsAfter}
use Rattle.guest_machine.proofs.GivenLemmas.{given-err, given-ok}
use Rattle.guest_machine.proofs.Rebuilt.{differ_no_run}
use Rattle.guest_machine.proofs.machine.Machine.rebuild.Goals as goal

pub returns-clause-leads : goal.returns-clause-leads
returns-clause-leads g c = given-ok c.run_again-done.result c.run_again-done.new.self c.after.result (λ r. IsAfter r (named c.args.entries.now)) c.after.ensures.ok c.run_again-done.ensures.leads

pub returns-clause-is_run : goal.returns-clause-is_run
returns-clause-is_run g c = given-ok c.run_again-done.result c.run_again-done.new.self c.after.result (λ r. IsRun c.args.entries.now) c.after.ensures.ok c.run_again-done.ensures.is_run

pub returns-clause-differs : goal.returns-clause-differs
returns-clause-differs g c d is_error = c.run_again-done.ensures.differs d (given-err c.run_again-done.result c.after.result (rebuild_error.Differs d) c.after.ensures.err is_error)

pub returns-clause-not_run : goal.returns-clause-not_run
returns-clause-not_run g c d is_error = differ_no_run c.args.entries.now d (returns-clause-differs g c d is_error)

pub returns-clause-steps : goal.returns-clause-steps
returns-clause-steps g c = c.run_again-done.ensures.steps
