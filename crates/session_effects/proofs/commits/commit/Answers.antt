use Rattle.std.proofs.Common.{[], ◌∷◌, Err, ap}
use Rattle.session_effects.specs.Effects.{Commits}
use Rattle.session_effects.proofs.CommitLemmas.{Carries-commit, halts-error-result, stops-result}
use Rattle.session_effects.proofs.FrameLemmas.{AddsFrames-commit}
use Rattle.session_effects.proofs.StepLemmas.{CarriesOut-commit}
use Rattle.session_effects.proofs.commits.commit.Goals as goal

pub returns-in_err-commit-clause-undone : goal.returns-in_err-commit-clause-undone
returns-in_err-commit-clause-undone g c =
    halts-error-result g.R.Runs.is_run g.D.Disk g.met.D.Disk.counts_now g.met.D.Disk.reads_may_stay g.met.D.Disk.only_now c.from_residual.result c.args.disk.now c.commit.new.disk c.args.store.now
    c.args.entries.items c.in_err-commit.field-0.0 c.from_residual.ensures.1 c.requires.run c.requires.open.left c.in_err-commit.ensures.any_moment c.in_err-commit.ensures.before
    (λ log payload is. let full = c.in_err-commit.ensures.full log payload (ap Err is) in record { is_len = full.0; is_payload = full.1; too_long = full.2 })
    (λ log payload is. let same = c.in_err-commit.ensures.full_unchanged log payload (ap Err is) in same.1)

pub returns-in_err-commit-clause-stops : goal.returns-in_err-commit-clause-stops
returns-in_err-commit-clause-stops g c =
    stops-result g.R.Runs.is_run g.D.Disk c.from_residual.result c.args.disk.now c.commit.new.disk c.args.store.now.entries (Commits c.args.entries.items ∷ [])
    (
    halts-error-result g.R.Runs.is_run g.D.Disk g.met.D.Disk.counts_now g.met.D.Disk.reads_may_stay g.met.D.Disk.only_now c.from_residual.result c.args.disk.now c.commit.new.disk c.args.store.now
    c.args.entries.items c.in_err-commit.field-0.0 c.from_residual.ensures.1 c.requires.run c.requires.open.left c.in_err-commit.ensures.any_moment c.in_err-commit.ensures.before
    (λ log payload is. let full = c.in_err-commit.ensures.full log payload (ap Err is) in record { is_len = full.0; is_payload = full.1; too_long = full.2 })
    (λ log payload is. let same = c.in_err-commit.ensures.full_unchanged log payload (ap Err is) in same.1))

pub returns-clause-carries : goal.returns-clause-carries
returns-clause-carries g c held =
    Carries-commit g.R.Runs.is_run g.D.Disk c.args.disk.now c.commit.new.disk c.args.store.now c.commit.new.self c.args.entries.items held c.requires.open.spelled
    c.requires.spelled c.in_ok-commit.ensures.usable c.in_ok-commit.ensures.left c.in_ok-commit.ensures.added
    (CarriesOut-commit g.R.Runs.is_run g.D.Disk g.met.D.Disk.reads_may_stay g.met.D.Disk.counts_now c.logs_read_one_way.ensures.closed c.args.disk.now c.commit.new.disk
    c.args.store.now c.commit.new.self c.args.entries.items held c.requires.run c.in_ok-commit.ensures.added c.in_ok-commit.ensures.later.tells c.in_ok-commit.ensures.left c.in_ok-commit.ensures.durable
    c.in_ok-commit.ensures.any_moment
    (AddsFrames-commit g.D.Disk c.logs_read_one_way.ensures.commits c.logs_read_one_way.ensures.closed_commits c.args.disk.now c.commit.new.disk c.args.store.now c.commit.new.self
    c.args.entries.items c.in_ok-commit.ensures.later.tells c.requires.open.left c.in_ok-commit.ensures.left c.in_ok-commit.ensures.framed))
