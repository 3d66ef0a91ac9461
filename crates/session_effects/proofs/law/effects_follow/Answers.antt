use Rattle.session_effects.proofs.CarryLemmas.{CarriesOut-then, StopsAt-then, StopsAt-before, StopsAt-among, CarriesOut-moments, StopsAt-moments, CarriesOut-rests, StopsAt-rests, StopsAt-shuts}
use Rattle.session_effects.proofs.StepLemmas.{CarriesOut-none, CarriesOut-text, StopsAt-nothing, StopsAt-text}
use Rattle.session_effects.proofs.law.effects_follow.Goals as goal

pub returns-clause-follow : goal.returns-clause-follow
returns-clause-follow g c = record {
  nothing = CarriesOut-none g.R.Runs.is_run g.D.Disk g.met.D.Disk.reads_may_stay g.met.D.Disk.only_now;
  text = CarriesOut-text g.R.Runs.is_run g.D.Disk g.met.D.Disk.reads_may_stay g.met.D.Disk.only_now;
  append = CarriesOut-then g.R.Runs.is_run g.D.Disk;
  stops = StopsAt-nothing g.R.Runs.is_run g.D.Disk g.met.D.Disk.reads_may_stay g.met.D.Disk.only_now;
  stops_text = StopsAt-text g.R.Runs.is_run g.D.Disk g.met.D.Disk.reads_may_stay g.met.D.Disk.only_now;
  behind = StopsAt-then g.R.Runs.is_run g.D.Disk;
  before = StopsAt-before g.R.Runs.is_run g.D.Disk;
  among = StopsAt-among g.R.Runs.is_run g.D.Disk;
}

pub returns-clause-leaves : goal.returns-clause-leaves
returns-clause-leaves g c = CarriesOut-moments g.R.Runs.is_run g.D.Disk

pub returns-clause-stop_leaves : goal.returns-clause-stop_leaves
returns-clause-stop_leaves g c = StopsAt-moments g.R.Runs.is_run g.D.Disk

pub returns-clause-rests : goal.returns-clause-rests
returns-clause-rests g c = CarriesOut-rests g.R.Runs.is_run g.D.Disk

pub returns-clause-stop_rests : goal.returns-clause-stop_rests
returns-clause-stop_rests g c = StopsAt-rests g.R.Runs.is_run g.D.Disk

pub returns-clause-stop_shuts : goal.returns-clause-stop_shuts
returns-clause-stop_shuts g c = StopsAt-shuts g.R.Runs.is_run g.D.Disk
