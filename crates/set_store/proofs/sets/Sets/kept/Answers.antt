use Rattle.std.proofs.Common.{length, sym, subst}
use Rattle.set_store.specs.Tries.{IsNodeBelow, lists_of}
use Rattle.set_store.specs.Sound.{AreTries}
use Rattle.set_store.proofs.Growth.{IsKept, is-kept, sound-kept, kept-members, kept-there, stand-kept, tries-grown}
use Rattle.set_store.proofs.Once.{interned}
use Rattle.set_store.proofs.sets.Sets.kept.Goals as goal

is : (c : goal.In_ok-set) → IsKept c.self.inside.nodes.keys c.insert_full.new.self.keys c.args.node c.in_ok-set.set
is c = is-kept c.self.inside.nodes.keys c.insert_full.new.self.keys c.args.node c.in_ok-set.set c.in_ok-set.ensures.keys c.in_ok-set.ensures.stored c.insert_full.ensures.unique

below : (c : goal.In_ok-set) → IsNodeBelow (lists_of c.self.inside.nodes.keys) (length (lists_of c.self.inside.nodes.keys)) c.args.node
below c = subst (λ sets. IsNodeBelow sets (length sets) c.args.node) (sym c.self.view_is) c.requires

pub invariant_of-self-2 : goal.invariant_of-self-2
invariant_of-self-2 c = sound-kept c.self.inside.nodes.keys c.insert_full.new.self.keys c.self.inside.memo c.args.node c.in_ok-set.set (is c) (below c) c.self.invariant

pub returns-clause-set : goal.returns-clause-set
returns-clause-set c = kept-there c.self.inside.nodes.keys c.insert_full.new.self.keys c.args.node c.in_ok-set.set (is c)

pub returns-clause-members : goal.returns-clause-members
returns-clause-members c = rw (sym c.self.view_is) (kept-members c.self.inside.nodes.keys c.insert_full.new.self.keys c.args.node c.in_ok-set.set (is c) (below c) c.self.invariant.tries)

pub returns-clause-before : goal.returns-clause-before
returns-clause-before c = rw (sym c.self.view_is) (stand-kept c.self.inside.nodes.keys c.insert_full.new.self.keys c.args.node c.in_ok-set.set (is c))

pub returns-clause-interned : goal.returns-clause-interned
returns-clause-interned c = interned c.insert_full.new.self.keys (tries-grown c.self.inside.nodes.keys c.insert_full.new.self.keys c.args.node c.in_ok-set.set (is c) (below c) c.self.invariant.tries)

pub returns-in_err-set-clause-interned : goal.returns-in_err-set-clause-interned
returns-in_err-set-clause-interned c = interned c.insert_full.new.self.keys (subst (λ nodes. AreTries nodes) (sym c.in_err-set.ensures.err) c.self.invariant.tries)
