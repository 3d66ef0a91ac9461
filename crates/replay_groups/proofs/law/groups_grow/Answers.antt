use Rattle.std.proofs.Common.{◌+◌, length, refl, sym, arith}
use Rattle.replay_groups.proofs.Members.{members-same, members-other}
use Rattle.replay_groups.proofs.Started.{group_at-next, group_at-other, started-later}
use Rattle.replay_groups.proofs.law.groups_grow.Goals as goal

pub returns-clause-next : goal.returns-clause-next
returns-clause-next c groups group = group_at-next groups group (length groups + 1) refl

pub returns-clause-others : goal.returns-clause-others
returns-clause-others c = group_at-other

pub returns-clause-started : goal.returns-clause-started
returns-clause-started c = started-later

pub returns-clause-last : goal.returns-clause-last
returns-clause-last c groups group = members-same groups 1 group (length groups + 1) (omega arith)

pub returns-clause-members : goal.returns-clause-members
returns-clause-members c groups group other differs =
    members-other groups 1 other group (λ e. differs (sym e))
