use Rattle.std.proofs.Common.{◌≡◌, ℕ, ◌+◌, ◌-◌, length, take, sym, ap, ◌∙◌, arith}
use Rattle.parts_model.specs.Pipes.{Pipes}
use Rattle.guest_pipes.specs.Table.{listed}
use Rattle.guest_pipes.proofs.Changes.{IsSound-removed, IsSound-shorter, length-listed, listed-shorter, listed-taken, numbered-gone}
use Rattle.guest_pipes.proofs.pipes.Pipes.remove_last.Goals as goal

pub invariant_of-self : goal.invariant_of-self
invariant_of-self c =
    let s = c.self.inside.table in
    let t = c.remove.new.self in
    let made = c.self.inside.made in
    let is : made ≡ made - 1 + 1 = omega (arith, c.if-self-eq0.false) in
    IsSound-shorter t.slots made (made - 1) is
    (numbered-gone s t made c.in-Some.key (made - 1) c.remove.ensures.updates c.remove.ensures.len c.in-Some.ensures.found c.self.invariant)
    (IsSound-removed s t made c.in-Some.key (made - 1) c.remove.ensures.updates c.remove.ensures.len c.in-Some.ensures.found c.self.invariant)

pub invariant_of-self-in_default : goal.invariant_of-self-in_default
invariant_of-self-in_default c =
    let made = c.self.inside.made in
    let is : made ≡ made - 1 + 1 = omega (arith, c.if-self-eq0.false) in
    IsSound-shorter c.self.inside.table.slots made (made - 1) is c.in_default.ensures.absent c.self.invariant

pub returns-in-Some : goal.returns-in-Some
returns-in-Some c =
    let s = c.self.inside.table in
    let made = c.self.inside.made in
    let is : made ≡ made - 1 + 1 = omega (arith, c.if-self-eq0.false) in
    listed-taken s c.remove.new.self made (made - 1) c.in-Some.key is c.remove.ensures.updates c.in-Some.ensures.found c.self.invariant
    ∙ ap (λ (k : ℕ). take (k - 1) (listed s.slots made)) (sym (length-listed s.slots made))
    ∙ ap (λ (ps : Pipes). take (length ps - 1) ps) c.self.view_is

pub returns-in_default : goal.returns-in_default
returns-in_default c =
    let s = c.self.inside.table in
    let made = c.self.inside.made in
    let is : made ≡ made - 1 + 1 = omega (arith, c.if-self-eq0.false) in
    listed-shorter s.slots made (made - 1) is c.in_default.ensures.absent c.self.invariant
    ∙ ap (λ (k : ℕ). take (k - 1) (listed s.slots made)) (sym (length-listed s.slots made))
    ∙ ap (λ (ps : Pipes). take (length ps - 1) ps) c.self.view_is
