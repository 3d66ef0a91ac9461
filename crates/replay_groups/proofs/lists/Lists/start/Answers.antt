use Rattle.std.proofs.Common.{◌++◌, ◌∷◌, [], ℕ, List, ap, ◌∙◌}
use Rattle.std.specs.Global.{Vec}
use Rattle.replay_groups.specs.Sound.{numbers}
use Rattle.replay_groups.proofs.Members.{started}
use Rattle.replay_groups.proofs.lists.Lists.start.Goals as goal

pub returns-clause-tells : goal.returns-clause-tells
returns-clause-tells c =
    let spare = ap (λ (v : Vec ℕ). v.items) c.replace-members.ensures.value ∙ c.requires.spare in
    let last = c.in_ok-push.ensures.items ∙ ap (λ (l : List ℕ). l ++ c.args.pid ∷ []) spare in
    started c.args.self.now.groups.items (numbers c.args.self.now.members.items) c.args.pid c.requires.tells c.requires.next c.push.new.self.items c.add.new.self.groups.items (numbers c.add.new.self.members.items) c.add.ensures.groups c.add.ensures.members last
