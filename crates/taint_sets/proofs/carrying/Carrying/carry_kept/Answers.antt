use Rattle.std.proofs.Common.{List, sym, subst, arith}
use Rattle.set_store.specs.Carried.{AreCarried}
use Rattle.taint_sets.specs.declared.run.Run.{Run}
use Rattle.taint_sets.specs.Carried.{CarriesOn}
use Rattle.taint_sets.proofs.Carried.{carried, goes-on, has-carried, slice-back}
use Rattle.taint_sets.proofs.carrying.Carrying.carry_kept.Goals as goal

pub carry-requires : goal.carry-requires
carry-requires c = subst (AreCarried c.self.inside.from c.self.inside.into.kept) (sym c.as_mut_slice.ensures.value) c.self.invariant

pub invariant_of-self : goal.invariant_of-self
invariant_of-self c =
    subst (AreCarried c.self.inside.from c.carry.new.self.kept) (sym (slice-back c.self.inside.numbers.len c.self.inside.numbers.items c.carry.new.numbers (omega arith))) c.carry.ensures.noted

pub returns-clause-number : goal.returns-clause-number
returns-clause-number c = has-carried c.self.inside.from c.carry.new.self.kept c.carry.new.self.runs c.carry.result c.args.set c.requires c.carry.ensures.small c.carry.ensures.there c.carry.ensures.members

pub returns-clause-on : goal.returns-clause-on
returns-clause-on c =
    let from = c.self.inside.from in
    let old = c.self.inside.into in
    let new = c.carry.new.self in
    subst (λ sets. CarriesOn sets (carried from new.kept new.runs)) c.self.view_is
    (subst (λ (runs : List Run). CarriesOn (carried from old.kept old.runs) (carried from new.kept runs)) (sym c.carry.ensures.runs) (goes-on from old.kept new.kept old.runs c.carry.ensures.kept))
