use Rattle.std.proofs.Common.{◌≡◌, List, Option, refl, ◌++◌, ◌∷◌, [], Some, length, sym, ap, subst, ◌∙◌, arith}
use Rattle.slab.specs.Slab.{Slab}
use Rattle.parts_model.specs.Pipes.{Pipe, pipe_made}
use Rattle.guest_pipes.specs.declared.entries.Entry.{Entry}
use Rattle.guest_pipes.specs.Table.{IsSound, listed}
use Rattle.guest_pipes.proofs.Changes.{IsSound-made, length-listed, listed-made}
use Rattle.guest_pipes.proofs.pipes.Pipes.make.Goals as goal

pub overflow_add-self : goal.overflow_add-self
overflow_add-self c =
    let made : length c.args.self.now ≡ c.self.inside.made = ap length (sym c.self.view_is) ∙ length-listed c.self.inside.table.slots c.self.inside.made in
    omega (arith, made, c.requires.few)

pub invariant_of-self-2 : goal.invariant_of-self-2
invariant_of-self-2 c =
    let s = c.reserve.new.self in
    let slots = ap (λ (t : Slab Entry). t.slots) c.in_ok-reserve.ensures.rest_kept in
    let sound = subst (λ (xs : List (Option Entry)). IsSound xs c.self.inside.made) (sym slots) c.self.invariant in
    IsSound-made s c.insert_reserved.new.self c.self.inside.made c.insert_reserved.result _ c.insert_reserved.ensures.updates c.insert_reserved.ensures.len c.insert_reserved.ensures.was_vacant refl sound

pub returns-clause-made : goal.returns-clause-made
returns-clause-made c =
    let s = c.reserve.new.self in
    let slots = ap (λ (t : Slab Entry). t.slots) c.in_ok-reserve.ensures.rest_kept in
    let sound = subst (λ (xs : List (Option Entry)). IsSound xs c.self.inside.made) (sym slots) c.self.invariant in
    listed-made s c.insert_reserved.new.self c.self.inside.made c.insert_reserved.result _ c.insert_reserved.ensures.updates c.insert_reserved.ensures.len c.insert_reserved.ensures.was_vacant refl sound
    ∙ ap (λ (p : Pipe). listed s.slots c.self.inside.made ++ Some p ∷ []) c.new-pipe.ensures
    ∙ ap (λ (xs : List (Option Entry)). pipe_made (listed xs c.self.inside.made)) slots
    ∙ ap pipe_made c.self.view_is

pub returns-clause-number : goal.returns-clause-number
returns-clause-number c = sym (length-listed c.self.inside.table.slots c.self.inside.made) ∙ ap length c.self.view_is
