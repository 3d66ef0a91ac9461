use Rattle.std.proofs.Common.{refl, None, Some, set, ap, sym, ◌∙◌}
use Rattle.slab.specs.Slab.{with_value}
use Rattle.parts_model.specs.Numbered.{nth}
use Rattle.parts_model.specs.Pipes.{Pipes}
use Rattle.guest_pipes.specs.declared.entries.Entry.{Entry}
use Rattle.guest_pipes.proofs.Changes.{IsSound-changed, IsSound-removed, closed-at, end_closed-absent, has_number, if_open-not, if_open-still, listed-removed, nth-listed, set-at, set-set}
use Rattle.guest_pipes.proofs.pipes.Pipes.close_end.Goals as goal

pub returns-in-None : goal.returns-in-None
returns-in-None c =
    end_closed-absent c.args.self.now c.args.pipe _
    (sym (ap (λ (ps : Pipes). nth ps c.args.pipe) c.self.view_is) ∙ nth-listed c.self.inside.table.slots c.self.inside.made c.args.pipe c.self.invariant ∙ c.in-None.ensures.absent)

pub invariant_of-self : goal.invariant_of-self
invariant_of-self c =
    let e' : Entry = record { number = c.index_mut.result.now.number; pipe = c.close.new.self } in
    let sound = IsSound-changed c.self.inside.table c.self.inside.made c.in-Some.key c.args.pipe c.index_mut.result.now e' c.index_mut.ensures.value c.in-Some.ensures.found refl c.self.invariant in
    let here = has_number c.self.inside.table c.self.inside.made c.in-Some.key c.args.pipe c.index_mut.result.now e' c.index_mut.ensures.value c.in-Some.ensures.found refl c.self.invariant in
    IsSound-removed (with_value c.self.inside.table c.in-Some.key e') c.remove.new.self c.self.inside.made c.in-Some.key c.args.pipe c.remove.ensures.updates c.remove.ensures.len here sound

pub invariant_of-self-else-not-close : goal.invariant_of-self-else-not-close
invariant_of-self-else-not-close c =
    IsSound-changed c.self.inside.table c.self.inside.made c.in-Some.key c.args.pipe c.index_mut.result.now _ c.index_mut.ensures.value c.in-Some.ensures.found refl c.self.invariant

pub returns-then-not-close : goal.returns-then-not-close
returns-then-not-close c =
    let e' : Entry = record { number = c.index_mut.result.now.number; pipe = c.close.new.self } in
    let sound = IsSound-changed c.self.inside.table c.self.inside.made c.in-Some.key c.args.pipe c.index_mut.result.now e' c.index_mut.ensures.value c.in-Some.ensures.found refl c.self.invariant in
    let here = has_number c.self.inside.table c.self.inside.made c.in-Some.key c.args.pipe c.index_mut.result.now e' c.index_mut.ensures.value c.in-Some.ensures.found refl c.self.invariant in
    let gone = listed-removed (with_value c.self.inside.table c.in-Some.key e') c.remove.new.self c.self.inside.made c.in-Some.key c.args.pipe c.remove.ensures.updates c.remove.ensures.len here sound in
    let kept = set-at c.args.self.now c.self.inside.table c.self.inside.made c.in-Some.key c.args.pipe c.index_mut.result.now c.self.view_is c.index_mut.ensures.value c.in-Some.ensures.found c.self.invariant c.close.new.self in
    closed-at c.args.self.now c.self.inside.table c.self.inside.made c.in-Some.key c.args.pipe c.index_mut.result.now c.self.view_is c.index_mut.ensures.value c.in-Some.ensures.found c.self.invariant _ _ None
    (sym (if_open-not c.close.new.self (sym c.close.ensures.open ∙ c.if-not-close.true)) ∙ c.close.ensures.closed)
    (gone ∙ ap (λ (ps : Pipes). set ps c.args.pipe None) kept ∙ set-set c.args.self.now c.args.pipe (Some c.close.new.self) None)

pub returns-else-not-close : goal.returns-else-not-close
returns-else-not-close c =
    closed-at c.args.self.now c.self.inside.table c.self.inside.made c.in-Some.key c.args.pipe c.index_mut.result.now c.self.view_is c.index_mut.ensures.value c.in-Some.ensures.found c.self.invariant _ _ (Some c.close.new.self)
    (sym (if_open-still c.close.new.self (sym c.close.ensures.open ∙ c.if-not-close.false)) ∙ c.close.ensures.closed)
    (set-at c.args.self.now c.self.inside.table c.self.inside.made c.in-Some.key c.args.pipe c.index_mut.result.now c.self.view_is c.index_mut.ensures.value c.in-Some.ensures.found c.self.invariant c.close.new.self)
