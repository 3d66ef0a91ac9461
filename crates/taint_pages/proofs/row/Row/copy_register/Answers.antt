use Rattle.std.proofs.Common.{true}
use Rattle.taint_pages.specs.Rows.{byte_in}
use Rattle.taint_pages.proofs.Marks.{kept-written}
use Rattle.taint_pages.proofs.row.Row.copy_register.Goals as goal

pub invariant_of-self : goal.invariant_of-self
invariant_of-self c =
    let old = c.deref_mut.result.now in
    kept-written c.self.inside.kept.value old c.copy_bytes.new.self c.args.to true (λ i. byte_in old.numbers c.args.from i) c.deref_mut.ensures.value c.self.invariant c.requires.above c.copy_bytes.ensures.len c.copy_bytes.ensures.copies c.copy_bytes.ensures.marked (λ e i h. cc)
