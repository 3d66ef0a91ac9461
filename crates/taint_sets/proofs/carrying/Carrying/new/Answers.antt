use Rattle.taint_sets.proofs.Carried.{none-carried}
use Rattle.taint_sets.proofs.carrying.Carrying.new.Goals as goal

pub invariant_of-result : goal.invariant_of-result
invariant_of-result c = none-carried c.in-Ok.from c.in-Ok.into.kept c.in_ok-numbers.numbers.items c.count.result (c.in_ok-numbers.ensures.items_if_clones_equal (λ y h. h))
