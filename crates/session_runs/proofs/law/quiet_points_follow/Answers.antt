use Rattle.session_runs.specs.Touches.{answering}
use Rattle.session_runs.proofs.QuietLemmas.{quiet-advances, quiet-stops}
use Rattle.session_runs.proofs.law.quiet_points_follow.Goals as goal

pub returns : goal.returns
returns g c =
    let is_run = g.R.Runs.is_run in
    let who = answering g.A.Answers.answers g.A.Plugs.unplugs g.A.Plugs.filled in
    let follow = c.quiet_follows.ensures in
    record {
      advances = quiet-advances is_run g.D.Disk who follow;
      stops = quiet-stops is_run g.D.Disk who follow c.halts_follow.ensures c.records_append.ensures c.events_recorded.ensures c.runs_append.ensures;
    }
