use Rattle.std.proofs.Common.{subst}
use Rattle.followed_groups.specs.Following.{Following, IsFollowing}
use Rattle.followed_groups.proofs.followed.Followed.are_followed.Goals as goal

pub returns : goal.returns
returns c = subst (λ (x : Following). IsFollowing x) c.self.view_is c.self.invariant.following
