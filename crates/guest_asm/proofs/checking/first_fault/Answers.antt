use Rattle.std.proofs.Common.{List, refl, ◌+◌, ◌++◌, ◌∷◌, [], ◌∙◌, sym, subst}
use Rattle.guest_asm.specs.Assembled.{places}
use Rattle.guest_asm.specs.Checked.{told}
use Rattle.guest_asm.specs.declared.places.Placed as kept_placed
use Rattle.guest_asm.proofs.FaultLists.{next, told_more, ToldSoFar}
use Rattle.guest_asm.proofs.checking.first_fault.Goals as goal

pub loop-placed-init : goal.loop-placed-init
loop-placed-init c = λ all stands. (record { before = []; after = all; whole = refl; keeps = stands.placed }, refl)

pub loop-placed-preserved : goal.loop-placed-preserved
loop-placed-preserved c = λ all stands.
    let kept = c.deref-placed-items.result.now in
    let at = c.loop-placed.placed-index in
    let so_far = subst (λ (ks : List kept_placed.Placed). ToldSoFar ks at all (told c.loop-placed.found)) (sym c.deref-placed-items.ensures.value) (c.loop-placed.invariant all stands) in
    let t = so_far.0 in
    let n = next kept at c.placed-item.result all c.loop-placed-test.true c.placed-item.is t in
    subst (λ (ks : List kept_placed.Placed). ToldSoFar ks (at + 1) all (told c.add_fault-found.result)) c.deref-placed-items.ensures.value (
      record { before = t.before ++ n.placed ∷ []; after = n.rest; whole = n.whole; keeps = n.keeps },
      c.add_fault-found.ensures
          ∙ told_more (places all) t.before n.placed (told c.loop-placed.found) c.placed-item.result.item.now.line c.fault_at.result so_far.1
          (c.fault_at.ensures (places all) n.placed stands.labels n.is_kept) n.is_kept.item.line,
    )
