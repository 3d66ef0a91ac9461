use Rattle.session_reports.proofs.Few.{far_process, far_range, long_range}
use Rattle.session_reports.proofs.far.far_is_nowhere.Goals as goal

pub returns : goal.returns
returns c = λ t entries countable indexed. record {
  process = λ moment pid. far_process t entries moment pid c.lives_have_groups.ensures countable indexed;
  memory = λ moment pid at len. far_range t entries moment pid at len c.lives_have_groups.ensures countable indexed;
  long = λ moment pid at len. long_range entries moment pid at len;
}
