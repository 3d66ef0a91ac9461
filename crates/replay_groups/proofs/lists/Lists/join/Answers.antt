use Rattle.std.proofs.Common.{◌≡◌, ℕ, List, ◌≤◌, ◌++◌, length, take, drop, arith}
use Rattle.std.proofs.Math.Seq.{take-length}
use Rattle.std.proofs.lemmas.List.{take-append-le}
use Rattle.std.specs.Global.{Vec}
use Rattle.replay_groups.specs.Sound.{numbers}
use Rattle.replay_groups.proofs.Members.{joined}
use Rattle.replay_groups.proofs.lists.Lists.join.Goals as goal

-- a list that another of its length was written over
written : (new old : List (Vec ℕ)) (n : ℕ) → n ≡ length new → take n (new ++ drop (length new) old) ≡ new
written new old n same =
    let within : n ≤ length new = omega arith in
    rw take-append-le (rw same (take-length new))

pub returns-clause-tells : goal.returns-clause-tells
returns-clause-tells c =
    let full : c.args.self.now.members.len ≡ length c.push_member.new.members = omega (arith, c.args.self.now.members.ok.0) in
    let members = rw (written c.push_member.new.members c.args.self.now.members.items c.args.self.now.members.len full) at c.add.ensures.members in
    let pushed = rw c.deref_mut.ensures.value at c.in_ok-push_member.ensures.pushed in
    joined c.args.self.now.groups.items (numbers c.args.self.now.members.items) c.args.pid c.requires.tells c.requires.next c.args.group c.new-empty.result.items c.add.new.self.groups.items (numbers c.push_member.new.members) (numbers c.add.new.self.members.items) c.requires.started c.add.ensures.groups pushed members c.new-empty.ensures.items
