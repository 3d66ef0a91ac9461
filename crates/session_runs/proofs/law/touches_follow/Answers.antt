use Rattle.session_runs.specs.Touches.{answering}
use Rattle.session_runs.proofs.TouchLemmas.{touched-append, unplugs-append}
use Rattle.session_runs.proofs.law.touches_follow.Goals as goal

pub returns : goal.returns
returns g c = record {
  touched = touched-append (answering g.A.Answers.answers g.A.Plugs.unplugs g.A.Plugs.filled);
  unplugs = unplugs-append;
}
