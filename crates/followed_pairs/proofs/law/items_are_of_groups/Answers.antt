use Rattle.followed_pairs.proofs.Own.{items-of-groups}
use Rattle.followed_pairs.proofs.law.items_are_of_groups.Goals as goal

pub returns : goal.returns
returns c = items-of-groups
