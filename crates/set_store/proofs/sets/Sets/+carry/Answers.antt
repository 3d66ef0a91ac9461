use Rattle.std.proofs.Common.{length, refl, sym, subst, ◌∙◌, arith}
use Rattle.set_store.specs.declared.node.Node.TheVariants.{Empty, Leaf, Branch}
use Rattle.set_store.specs.Sets.{members_of}
use Rattle.set_store.specs.Tries.{IsNodeBelow}
use Rattle.set_store.proofs.Carrying.{carried-fork, carried-grown, carried-halves, carried-leaf, carried-noted}
use Rattle.set_store.proofs.Growth.{stand-same, stand-twice}
use Rattle.set_store.proofs.Halves.{node-is}
use Rattle.set_store.proofs.sets.Sets.+carry.Goals as goal

pub carry-returns-in-Some-clause-set : goal.carry-returns-in-Some-clause-set
carry-returns-in-Some-clause-set t c = (c.requires c.args.set c.in-Some.number c.in-Some.ensures.1 c.in-Some.ensures.0).there

pub carry-returns-in_err-note-clause-noted : goal.carry-returns-in_err-note-clause-noted
carry-returns-in_err-note-clause-noted t c =
    let is = c.in_ok-number.ensures in
    carried-noted c.args.from.now c.carry_node.new.self c.args.set c.in_ok-number.number c.carry_node.new.numbers c.note.new.numbers c.note.ensures.noted (record { there = is.set; members = is.members }) is.noted

pub carry-returns-clause-noted : goal.carry-returns-clause-noted
carry-returns-clause-noted t c =
    let is = c.in_ok-number.ensures in
    carried-noted c.args.from.now c.carry_node.new.self c.args.set c.in_ok-number.number c.carry_node.new.numbers c.note.new.numbers c.note.ensures.noted (record { there = is.set; members = is.members }) is.noted

pub carry_node-returns-in_err-right-in-Branch-clause-before : goal.carry_node-returns-in_err-right-in-Branch-clause-before
carry_node-returns-in_err-right-in-Branch-clause-before t c = stand-twice c.args.self.now c.carry.new.self c.carry-in-Branch.new.self c.carry.ensures.before c.carry-in-Branch.ensures.before

pub carry_node-forked-requires-clause-left : goal.carry_node-forked-requires-clause-left
carry_node-forked-requires-clause-left t c = c.carry-in-Branch.ensures.before.there c.in_ok-left-in-Branch.left c.in_ok-left-in-Branch.ensures.set

pub carry_node-returns-in-Leaf-clause-noted : goal.carry_node-returns-in-Leaf-clause-noted
carry_node-returns-in-Leaf-clause-noted t c = carried-grown c.args.from.now c.args.self.now c.kept.new.self c.args.numbers.now c.kept.ensures.before c.requires.carried

pub carry_node-returns-in_ok-right-in-Branch-clause-before : goal.carry_node-returns-in_ok-right-in-Branch-clause-before
carry_node-returns-in_ok-right-in-Branch-clause-before t c =
    stand-twice c.args.self.now c.carry-in-Branch.new.self c.forked.new.self (stand-twice c.args.self.now c.carry.new.self c.carry-in-Branch.new.self c.carry.ensures.before c.carry-in-Branch.ensures.before) c.forked.ensures.before

pub carry_node-returns-in_ok-right-in-Branch-clause-noted : goal.carry_node-returns-in_ok-right-in-Branch-clause-noted
carry_node-returns-in_ok-right-in-Branch-clause-noted t c =
    carried-grown c.args.from.now c.carry-in-Branch.new.self c.forked.new.self c.carry-in-Branch.new.numbers c.forked.ensures.before c.in_ok-right-in-Branch.ensures.noted

pub carry-returns-then-set-len-clause-set : goal.carry-returns-then-set-len-clause-set
carry-returns-then-set-len-clause-set t c = c.empty-empty.ensures.set

pub carry-returns-then-set-len-clause-before : goal.carry-returns-then-set-len-clause-before
carry-returns-then-set-len-clause-before t c = stand-same c.args.self.now c.args.self.now refl

pub carry-returns-then-set-len-clause-interned : goal.carry-returns-then-set-len-clause-interned
carry-returns-then-set-len-clause-interned t c = c.empty-empty.ensures.interned

pub carry-returns-then-set-len-clause-noted : goal.carry-returns-then-set-len-clause-noted
carry-returns-then-set-len-clause-noted t c = c.requires

pub carry-returns-in-Some-clause-members : goal.carry-returns-in-Some-clause-members
carry-returns-in-Some-clause-members t c = (c.requires c.args.set c.in-Some.number c.in-Some.ensures.1 c.in-Some.ensures.0).members

pub carry-returns-in-Some-clause-before : goal.carry-returns-in-Some-clause-before
carry-returns-in-Some-clause-before t c = stand-same c.args.self.now c.args.self.now refl

pub carry-returns-in-Some-clause-interned : goal.carry-returns-in-Some-clause-interned
carry-returns-in-Some-clause-interned t c = c.empty-empty.ensures.interned

pub carry-returns-in-Some-clause-noted : goal.carry-returns-in-Some-clause-noted
carry-returns-in-Some-clause-noted t c = c.requires

pub carry-carry_node-requires : goal.carry-carry_node-requires
carry-carry_node-requires t c = let d = c.decreases in (omega arith, (c.requires, c.node.ensures.node))

pub carry-returns-in_err-number-clause-before : goal.carry-returns-in_err-number-clause-before
carry-returns-in_err-number-clause-before t c = c.carry_node.ensures.before

pub carry-returns-in_err-number-clause-interned : goal.carry-returns-in_err-number-clause-interned
carry-returns-in_err-number-clause-interned t c = c.carry_node.ensures.interned

pub carry-returns-in_err-number-clause-noted : goal.carry-returns-in_err-number-clause-noted
carry-returns-in_err-number-clause-noted t c = c.carry_node.ensures.noted

pub carry-returns-in_err-note-clause-before : goal.carry-returns-in_err-note-clause-before
carry-returns-in_err-note-clause-before t c = c.carry_node.ensures.before

pub carry-returns-in_err-note-clause-interned : goal.carry-returns-in_err-note-clause-interned
carry-returns-in_err-note-clause-interned t c = c.carry_node.ensures.interned

pub carry-returns-clause-set : goal.carry-returns-clause-set
carry-returns-clause-set t c = c.in_ok-number.ensures.set

pub carry-returns-clause-members : goal.carry-returns-clause-members
carry-returns-clause-members t c = c.in_ok-number.ensures.members

pub carry-returns-clause-before : goal.carry-returns-clause-before
carry-returns-clause-before t c = c.in_ok-number.ensures.before

pub carry-returns-clause-interned : goal.carry-returns-clause-interned
carry-returns-clause-interned t c = c.in_ok-number.ensures.interned

pub carry_node-returns-in-Empty-clause-set : goal.carry_node-returns-in-Empty-clause-set
carry_node-returns-in-Empty-clause-set t c = c.empty.ensures.set

pub carry_node-returns-in-Empty-clause-members : goal.carry_node-returns-in-Empty-clause-members
carry_node-returns-in-Empty-clause-members t c = c.empty.ensures.empty ∙ sym (node-is c.args.from.now c.args.set c.args.node Empty c.in-Empty.is c.requires.node).members

pub carry_node-returns-in-Empty-clause-before : goal.carry_node-returns-in-Empty-clause-before
carry_node-returns-in-Empty-clause-before t c = stand-same c.args.self.now c.args.self.now refl

pub carry_node-returns-in-Empty-clause-interned : goal.carry_node-returns-in-Empty-clause-interned
carry_node-returns-in-Empty-clause-interned t c = c.empty.ensures.interned

pub carry_node-returns-in-Empty-clause-noted : goal.carry_node-returns-in-Empty-clause-noted
carry_node-returns-in-Empty-clause-noted t c = c.requires.carried

pub carry_node-kept-requires : goal.carry_node-kept-requires
carry_node-kept-requires t c =
    let own = c.args.self.now in
    subst (λ node. IsNodeBelow own (length own) node) (sym c.in-Leaf.is) (node-is c.args.from.now c.args.set c.args.node (Leaf c.in-Leaf.field-0) c.in-Leaf.is c.requires.node).below

pub carry_node-returns-in-Leaf-clause-set : goal.carry_node-returns-in-Leaf-clause-set
carry_node-returns-in-Leaf-clause-set t c = c.kept.ensures.set

pub carry_node-returns-in-Leaf-clause-members : goal.carry_node-returns-in-Leaf-clause-members
carry_node-returns-in-Leaf-clause-members t c =
    carried-leaf c.kept.result c.args.from.now c.args.self.now c.kept.new.self c.args.set c.args.node c.in-Leaf.field-0 c.in-Leaf.is c.requires.node.members c.kept.ensures.members

pub carry_node-returns-in-Leaf-clause-before : goal.carry_node-returns-in-Leaf-clause-before
carry_node-returns-in-Leaf-clause-before t c = c.kept.ensures.before

pub carry_node-returns-in-Leaf-clause-interned : goal.carry_node-returns-in-Leaf-clause-interned
carry_node-returns-in-Leaf-clause-interned t c = c.kept.ensures.interned

pub carry_node-carry-requires : goal.carry_node-carry-requires
carry_node-carry-requires t c =
    let node = node-is c.args.from.now c.args.set c.args.node (Branch c.in-Branch.fork) c.in-Branch.is c.requires.node in
    let less = node.below.0 in
    let d = c.decreases in
    (omega arith, c.requires.carried)

pub carry_node-returns-in_err-left-in-Branch-clause-before : goal.carry_node-returns-in_err-left-in-Branch-clause-before
carry_node-returns-in_err-left-in-Branch-clause-before t c = c.carry.ensures.before

pub carry_node-returns-in_err-left-in-Branch-clause-interned : goal.carry_node-returns-in_err-left-in-Branch-clause-interned
carry_node-returns-in_err-left-in-Branch-clause-interned t c = c.carry.ensures.interned

pub carry_node-returns-in_err-left-in-Branch-clause-noted : goal.carry_node-returns-in_err-left-in-Branch-clause-noted
carry_node-returns-in_err-left-in-Branch-clause-noted t c = c.carry.ensures.noted

pub carry_node-carry-requires-in-Branch : goal.carry_node-carry-requires-in-Branch
carry_node-carry-requires-in-Branch t c =
    let node = node-is c.args.from.now c.args.set c.args.node (Branch c.in-Branch.fork) c.in-Branch.is c.requires.node in
    let less = node.below.1 in
    let d = c.decreases in
    (omega arith, c.carry.ensures.noted)

pub carry_node-returns-in_err-right-in-Branch-clause-interned : goal.carry_node-returns-in_err-right-in-Branch-clause-interned
carry_node-returns-in_err-right-in-Branch-clause-interned t c = c.carry-in-Branch.ensures.interned

pub carry_node-returns-in_err-right-in-Branch-clause-noted : goal.carry_node-returns-in_err-right-in-Branch-clause-noted
carry_node-returns-in_err-right-in-Branch-clause-noted t c = c.carry-in-Branch.ensures.noted

pub carry_node-forked-requires-clause-bit : goal.carry_node-forked-requires-clause-bit
carry_node-forked-requires-clause-bit t c = (node-is c.args.from.now c.args.set c.args.node (Branch c.in-Branch.fork) c.in-Branch.is c.requires.node).below.2.bit

pub carry_node-forked-requires-clause-right : goal.carry_node-forked-requires-clause-right
carry_node-forked-requires-clause-right t c = c.in_ok-right-in-Branch.ensures.set

pub carry_node-forked-requires-clause-halves : goal.carry_node-forked-requires-clause-halves
carry_node-forked-requires-clause-halves t c =
    let sets = c.carry-in-Branch.new.self in
    let node = node-is c.args.from.now c.args.set c.args.node (Branch c.in-Branch.fork) c.in-Branch.is c.requires.node in
    carried-halves c.in-Branch.fork.bit (members_of sets c.in_ok-left-in-Branch.left) (members_of sets c.in_ok-right-in-Branch.right) (members_of c.args.from.now c.in-Branch.fork.left) (members_of c.args.from.now c.in-Branch.fork.right)
    (c.carry-in-Branch.ensures.before.same c.in_ok-left-in-Branch.left c.in_ok-left-in-Branch.ensures.set ∙ c.in_ok-left-in-Branch.ensures.members) c.in_ok-right-in-Branch.ensures.members node.below.2.halves

pub carry_node-returns-in_ok-right-in-Branch-clause-set : goal.carry_node-returns-in_ok-right-in-Branch-clause-set
carry_node-returns-in_ok-right-in-Branch-clause-set t c = c.forked.ensures.set

pub carry_node-returns-in_ok-right-in-Branch-clause-members : goal.carry_node-returns-in_ok-right-in-Branch-clause-members
carry_node-returns-in_ok-right-in-Branch-clause-members t c =
    let sets = c.carry-in-Branch.new.self in
    let node = node-is c.args.from.now c.args.set c.args.node (Branch c.in-Branch.fork) c.in-Branch.is c.requires.node in
    carried-fork c.forked.result c.args.from.now sets c.forked.new.self c.args.set c.in-Branch.fork c.in_ok-left-in-Branch.left c.in_ok-right-in-Branch.right node.members
    (c.carry-in-Branch.ensures.before.same c.in_ok-left-in-Branch.left c.in_ok-left-in-Branch.ensures.set ∙ c.in_ok-left-in-Branch.ensures.members) c.in_ok-right-in-Branch.ensures.members c.forked.ensures.members

pub carry_node-returns-in_ok-right-in-Branch-clause-interned : goal.carry_node-returns-in_ok-right-in-Branch-clause-interned
carry_node-returns-in_ok-right-in-Branch-clause-interned t c = c.forked.ensures.interned
