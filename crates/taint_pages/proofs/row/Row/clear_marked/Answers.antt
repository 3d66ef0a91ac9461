use Rattle.std.proofs.Common.{false, refl}
use Rattle.taint_pages.proofs.Marks.{kept-written}
use Rattle.taint_pages.proofs.row.Row.clear_marked.Goals as goal

pub invariant_of-self : goal.invariant_of-self
invariant_of-self c =
    kept-written c.self.inside.kept.value c.deref_mut.result.now c.put.new.self c.args.reg false (λ i. 0) c.deref_mut.ensures.value c.self.invariant c.requires.above c.put.ensures.len c.put.ensures.puts c.put.ensures.marked (λ e i h. refl)
