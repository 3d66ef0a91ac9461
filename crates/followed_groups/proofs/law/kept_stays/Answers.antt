use Rattle.followed_groups.proofs.Caches.{more-come}
use Rattle.followed_groups.proofs.law.kept_stays.Goals as goal

pub returns : goal.returns
returns c = λ relations before more seen linkage g r h. more-come linkage before more g r (seen linkage g r h)
