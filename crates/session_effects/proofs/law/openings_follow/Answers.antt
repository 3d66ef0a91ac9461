use Rattle.session_effects.proofs.OpenLemmas.{store-history, open-moments, CarriesOut-open, CarriesOut-opened, StopsAt-opened, Moments-opened, Keeps-open, Rests-opened, only-read-none}
use Rattle.session_effects.proofs.law.openings_follow.Goals as goal

pub returns-clause-history : goal.returns-clause-history
returns-clause-history g c = store-history g.R.Runs.is_run g.D.Disk c.logs_read_one_way.ensures.one

pub returns-clause-carries : goal.returns-clause-carries
returns-clause-carries g c = CarriesOut-open g.R.Runs.is_run g.D.Disk g.met.D.Disk.reads_may_stay g.met.D.Disk.counts_now c.logs_read_one_way.ensures.closed c.logs_read_one_way.ensures.closed_commits

pub returns-clause-keeps : goal.returns-clause-keeps
returns-clause-keeps g c = Keeps-open g.R.Runs.is_run g.D.Disk g.met.D.Disk.reads_may_stay g.met.D.Disk.counts_now

pub returns-clause-leaves : goal.returns-clause-leaves
returns-clause-leaves g c = open-moments g.R.Runs.is_run g.D.Disk

pub returns-clause-behind : goal.returns-clause-behind
returns-clause-behind g c = CarriesOut-opened g.R.Runs.is_run g.D.Disk

pub returns-clause-stops_behind : goal.returns-clause-stops_behind
returns-clause-stops_behind g c = StopsAt-opened g.R.Runs.is_run g.D.Disk

pub returns-clause-leaves_behind : goal.returns-clause-leaves_behind
returns-clause-leaves_behind g c = Moments-opened g.R.Runs.is_run g.D.Disk

pub returns-clause-rests_behind : goal.returns-clause-rests_behind
returns-clause-rests_behind g c = Rests-opened g.R.Runs.is_run g.D.Disk

pub returns-clause-read : goal.returns-clause-read
returns-clause-read g c = only-read-none g.R.Runs.is_run g.D.Disk g.met.D.Disk.only_now
