use Rattle.session_runs.specs.Touches.{answering}
use Rattle.session_runs.proofs.PointLemmas.{Advances-append, Advances-none, Laws, Stops-behind}
use Rattle.session_runs.proofs.law.points_follow.Goals as goal

pub returns : goal.returns
returns g c =
    let laws : Laws g.R.Runs.is_run g.D.Disk (answering g.A.Answers.answers g.A.Plugs.unplugs g.A.Plugs.filled) =
    record {
      touches = c.touches_follow.ensures;
      effects = c.effects_follow.ensures.follow;
      halts = c.halts_follow.ensures;
      names = c.named_append.ensures.named;
      begins = c.named_append.ensures.behind;
      picks = c.picks_follow.ensures;
    } in
    record { nothing = Advances-none laws; advances = Advances-append laws; stops = Stops-behind laws }
