use Rattle.std.proofs.Common.{bit_or, refl}
use Rattle.set_store.specs.declared.node.Row.{Row}
use Rattle.set_store.specs.declared.node.Node.TheVariants.{Leaf, Branch}
use Rattle.set_store.specs.Sets.{members_of}
use Rattle.set_store.proofs.Halves.{apart-swapped, fork-apart, node-is, rows-apart, rows-joined}
use Rattle.set_store.proofs.sets.Sets.joined.Goals as goal
use Rattle.set_store.proofs.sets.Sets.joined.Goals.{else-row-other-via-then-row-other+else-row-other-2, else-row-other-via-else-row-other}

pub returns-in-Branch-clause-apart : goal.returns-in-Branch-clause-apart
returns-in-Branch-clause-apart c = λ e. fork-apart c.args.self.now c.args.pair.0 c.in-Branch.field-0 (members_of c.args.self.now c.args.pair.1) (node-is c.args.self.now c.args.pair.0 c.args.x (Branch c.in-Branch.field-0) c.in-Branch.is c.requires.x)

pub returns-in-Branch-y-clause-apart : goal.returns-in-Branch-y-clause-apart
returns-in-Branch-y-clause-apart c = λ e.
    let sets = c.args.self.now in
    apart-swapped (members_of sets c.args.pair.0) (members_of sets c.args.pair.1) (fork-apart sets c.args.pair.1 c.in-Branch-y.field-0 (members_of sets c.args.pair.0) (node-is sets c.args.pair.1 c.args.y (Branch c.in-Branch-y.field-0) c.in-Branch-y.is c.requires.y))

pub returns-then-row-other-2-clause-row : goal.returns-then-row-other-2-clause-row
returns-then-row-other-2-clause-row c =
    let row = c.in-Leaf.row in
    let other = c.in-Leaf-y.other in
    let both : Row = record { event = row.event; row = row.row; mask = bit_or row.mask other.mask } in
    rows-joined c.args.self.now c.args.pair.0 c.args.pair.1 row other both (node-is c.args.self.now c.args.pair.0 c.args.x (Leaf c.in-Leaf.row) c.in-Leaf.is c.requires.x) (node-is c.args.self.now c.args.pair.1 c.args.y (Leaf c.in-Leaf-y.other) c.in-Leaf-y.is c.requires.y) c.if-row-other.true c.if-row-other-2.true refl refl refl

pub returns-else-row-other-clause-apart : goal.returns-else-row-other-clause-apart
returns-else-row-other-clause-apart c = λ e.
    rows-apart c.args.self.now c.args.pair.0 c.args.pair.1 c.in-Leaf.row c.in-Leaf-y.other (node-is c.args.self.now c.args.pair.0 c.args.x (Leaf c.in-Leaf.row) c.in-Leaf.is c.requires.x) (node-is c.args.self.now c.args.pair.1 c.args.y (Leaf c.in-Leaf-y.other) c.in-Leaf-y.is c.requires.y)
    (λ f g. elim c.else-row-other.branch [
      | else-row-other-via-then-row-other+else-row-other-2 w ↦ w.if-row-other-2.false g
      | else-row-other-via-else-row-other w ↦ w.if-row-other.false f
    ])
