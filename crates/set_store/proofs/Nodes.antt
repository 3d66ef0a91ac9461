-- How nodes are compared.
use Rattle.std.proofs.Common.{◌≡◌, ◌==◌, Bool, true, false, ◌&&◌, ap, arith}
use Rattle.std.proofs.lemmas.Bool.Decides.{nat_tests}
use Rattle.std.specs.Bool.{Decides}
use Rattle.set_store.specs.declared.node.Fork.{Fork}
use Rattle.set_store.specs.declared.node.Row.{Row}
use Rattle.set_store.specs.declared.node.Node.{Node}
use Rattle.set_store.specs.declared.node.Node.TheVariants.{Empty, Leaf, Branch}
use Rattle.set_store.specs.contracts.node.NodePartialEq.TheImpl.{eq-value}

-- two forks are equal where all five parts are
abbrev pub fork_eq : Fork → Fork → Bool
fork_eq a b = (a.event == b.event) && ((a.row == b.row) && ((a.bit == b.bit) && ((a.left == b.left) && (a.right == b.right))))

both_true : (a b : Bool) → (a && b) ≡ true → (a ≡ true) × (b ≡ true)
both_true a b h1 = grind (arith, nat_tests)

all_true : (a b : Bool) → a ≡ true → b ≡ true → (a && b) ≡ true
all_true a b h1 h2 = grind (arith, nat_tests)

pub fork_eq-Decides : (a b : Fork) → Decides (fork_eq a b) (a ≡ b)
fork_eq-Decides a b = grind (arith, nat_tests, all_true, both_true)

-- two rows are equal where all three parts are
abbrev pub row_eq : Row → Row → Bool
row_eq a b = (a.event == b.event) && ((a.row == b.row) && (a.mask == b.mask))

pub row_eq-Decides : (a b : Row) → Decides (row_eq a b) (a ≡ b)
row_eq-Decides a b = grind (arith, nat_tests, all_true, both_true)

abbrev pub node_eq : Node → Node → Bool
node_eq Empty Empty = true
node_eq (Leaf a) (Leaf b) = row_eq a b
node_eq (Branch a) (Branch b) = fork_eq a b
node_eq a b = false

leaf_of : Node → Row → Row
leaf_of (Leaf a) d = a
leaf_of a d = d

fork_of : Node → Fork → Fork
fork_of (Branch a) d = a
fork_of a d = d

pub leaf_same : (a b : Row) → Leaf a ≡ Leaf b → a ≡ b
unfolding leaf_of
leaf_same a b e = ap (λ (n : Node). leaf_of n a) e

pub fork_same : (a b : Fork) → Branch a ≡ Branch b → a ≡ b
unfolding fork_of
fork_same a b e = ap (λ (n : Node). fork_of n a) e

pub node_eq-Decides : (a b : Node) → Decides (node_eq a b) (a ≡ b)
node_eq-Decides a b = grind (arith, nat_tests, fork_eq-Decides, fork_same, leaf_same, row_eq-Decides)

-- the derived comparison is this
pub derived : (a b : Node) → eq-value.it a b ≡ node_eq a b
derived a b = grind (arith, nat_tests)
