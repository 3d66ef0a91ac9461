use Rattle.log_store.proofs.OnePlace.{bad_one_place}
use Rattle.log_store.proofs.OneWay.{bad_none, closed_commits, closed_logs, commits_one_way, logs_one_way}
use Rattle.log_store.proofs.law.logs_read_one_way.Goals as goal

pub returns-clause-commits : goal.returns-clause-commits
returns-clause-commits c = commits_one_way c.records_spelled_one_way.ensures.spelled

pub returns-clause-one : goal.returns-clause-one
returns-clause-one c = logs_one_way c.records_spelled_one_way.ensures.spelled

pub returns-clause-closed : goal.returns-clause-closed
returns-clause-closed c = closed_logs

pub returns-clause-closed_commits : goal.returns-clause-closed_commits
returns-clause-closed_commits c = closed_commits

pub returns-clause-none : goal.returns-clause-none
returns-clause-none c = bad_none c.records_spelled_one_way.ensures.spelled

pub returns-clause-one_place : goal.returns-clause-one_place
returns-clause-one_place c = bad_one_place c.records_spelled_one_way.ensures.spelled
