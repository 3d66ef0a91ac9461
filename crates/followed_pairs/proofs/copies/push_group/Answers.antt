use Rattle.std.proofs.Common.{◌≡◌, ◌⊎◌, ◌↔◌, ℕ, Contains, Option, Some, sym, subst}
use Rattle.followed_pairs.proofs.Taking.{none-more, on-map, push-has}
use Rattle.followed_pairs.proofs.copies.push_group.Goals as goal

pub returns-in-Some : goal.returns-in-Some
returns-in-Some c =
    on-map c.push.result
    (λ is g. subst (λ (o : Option ℕ). Contains c.push.new.self g ↔ (Contains c.args.groups.now g ⊎ (o ≡ Some g))) (sym c.in-Some.is) (push-has c.args.groups.now c.push.new.self c.in-Some.group is g))
    c.push.ensures.ok

pub returns-in-None : goal.returns-in-None
returns-in-None c = λ g. subst (λ (o : Option ℕ). Contains c.args.groups.now g ↔ (Contains c.args.groups.now g ⊎ (o ≡ Some g))) (sym c.in-None.is) (none-more c.args.groups.now g)
