use Rattle.std.proofs.Common.{sym, subst}
use Rattle.set_store.specs.Sets.{members_of}
use Rattle.set_store.specs.Tries.{HasFirst}
use Rattle.set_store.proofs.sets.Sets.first.Goals as goal

pub returns : goal.returns
returns c = subst (λ k. HasFirst (members_of c.args.self.now c.args.set) k) (sym c.key.ensures) c.lowest-event.ensures.first
