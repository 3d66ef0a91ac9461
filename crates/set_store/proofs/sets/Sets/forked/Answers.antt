use Rattle.std.proofs.Common.{◌≡◌, IfOk, subst}
use Rattle.set_store.specs.Sets.{members_of}
use Rattle.set_store.specs.declared.node.Fork.{Fork}
use Rattle.set_store.proofs.Halves.{fork-members, is-fork}
use Rattle.set_store.proofs.sets.Sets.forked.Goals as goal

pub kept-requires : goal.kept-requires
kept-requires c =
    let fork : Fork = record { event = c.lowest-event.result.0; row = c.lowest-event.result.1; bit = c.args.bit; left = c.in_ok-narrow.field-0; right = c.in_ok-narrow-2.field-0 } in
    is-fork c.args.self.now fork c.args.left c.args.right c.in_ok-narrow.ensures c.in_ok-narrow-2.ensures c.requires.left c.requires.right c.requires.bit c.lowest-event.ensures.fits c.lowest-event.ensures.first c.requires.halves

pub returns-clause-members : goal.returns-clause-members
returns-clause-members c =
    subst (λ l. IfOk c.kept.result (λ set. members_of c.kept.new.self set ≡ l)) (fork-members c.args.self.now c.in_ok-narrow.field-0 c.in_ok-narrow-2.field-0 c.args.left c.args.right c.in_ok-narrow.ensures c.in_ok-narrow-2.ensures) c.kept.ensures.members
