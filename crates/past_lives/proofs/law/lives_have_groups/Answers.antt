use Rattle.past_lives.proofs.Grouped.{lives-grouped}
use Rattle.past_lives.proofs.law.lives_have_groups.Goals as goal

pub returns : goal.returns
returns c entries moment pid broken lives = lives-grouped entries moment pid broken lives
