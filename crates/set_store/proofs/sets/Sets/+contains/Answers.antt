use Rattle.std.proofs.Common.{◌/◌, ◌%◌, ◌^◌, ap, sym, ◌∙◌}
use Rattle.set_store.proofs.Halves.{contains-low, contains-high}
use Rattle.set_store.proofs.sets.Sets.+contains.Goals as goal

pub returns-then-side-eq0 : goal.returns-then-side-eq0
returns-then-side-eq0 t c =
    let fork = c.in-Branch.fork in
    contains-low c.args.self.now c.args.set fork c.args.item c.in-Branch.ensures.node (ap (λ n. n % 2) (ap (λ n. n / 2 ^ fork.bit) (sym c.key-key.ensures) ∙ sym c.side.ensures.side) ∙ c.if-side-eq0.true) c.contains.ensures

pub returns-else-side-eq0 : goal.returns-else-side-eq0
returns-else-side-eq0 t c =
    let fork = c.in-Branch.fork in
    contains-high c.args.self.now c.args.set fork c.args.item c.in-Branch.ensures.node (λ l. c.if-side-eq0.false (ap (λ n. n % 2) (c.side.ensures.side ∙ ap (λ n. n / 2 ^ fork.bit) c.key-key.ensures) ∙ l)) c.contains-else-side-eq0.ensures
