use Rattle.std.proofs.Common.{◌≡◌, ℕ, zero, suc, ◌-◌, ◌<◌, List, [], length, get_or, refl, arith, ◌∙◌, sym, ap}
use Rattle.std.specs.Global.{Vec}
use Rattle.replay_groups.specs.Sound.{list_of, numbers}
use Rattle.replay_groups.proofs.Rooms.{numbers-at}
use Rattle.replay_groups.proofs.lists.members_of.Goals as goal

list_of-place : (lists : List (List ℕ)) (group place : ℕ) → 0 < group → place ≡ group - 1 → list_of lists group ≡ get_or lists place []
list_of-place lists zero place some is = absurd (omega arith)
list_of-place lists (suc i) place some is = let e : place ≡ i = omega arith in rw e refl

pub returns : goal.returns
returns c =
    let some : 0 < c.args.group = omega arith in
    let inside : c.place-2.result < length c.args.members.now = omega arith in
    c.as_slice.ensures.value ∙ ap (λ (list : Vec ℕ). list.items) c.index-members-place.is ∙ sym (list_of-place (numbers c.args.members.now) c.args.group c.place-2.result some c.place-2.ensures ∙ numbers-at c.args.members.now c.place-2.result c.index-members-place.result inside)
