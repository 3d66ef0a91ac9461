use Rattle.std.proofs.Common.{◌++◌, ◌∙◌, List, sym, ap, append-nil, option_to_list}
use Rattle.arn_base.specs.declared.records.Record.{Record}
use Rattle.guest_legs.proofs.PiecesLemmas.{nothing-of}
use Rattle.guest_legs.proofs.pieces.keep_turn.Goals as goal

pub returns-then-is_nothing-clause-items : goal.returns-then-is_nothing-clause-items
returns-then-is_nothing-clause-items c =
    let none = nothing-of c.args.pid c.args.ran (option_to_list c.args.delivery ++ option_to_list c.args.last) (c.is_nothing.ensures.0 c.if-is_nothing.true) in
    sym (ap (λ (entries : List Record). c.args.out.now.items ++ entries) none ∙ append-nil c.args.out.now.items)

pub returns-clause-spelled : goal.returns-clause-spelled
returns-clause-spelled c all = c.keep-3.ensures.spelled (c.keep-2.ensures.spelled (c.keep.ensures.spelled all))
