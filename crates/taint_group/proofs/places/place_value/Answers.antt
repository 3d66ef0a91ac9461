use Rattle.std.proofs.Common.{Some, ◌∙◌, arith}
use Rattle.taint_group.proofs.Placing.{nth-placed}
use Rattle.taint_group.proofs.Tables.{nth-other}
use Rattle.taint_group.proofs.places.place_value.Goals as goal

pub returns-clause-one : goal.returns-clause-one
returns-clause-one g c = nth-placed c.grow.new.values.items c.args.number c.args.value (omega (arith, c.in_ok-grow.ensures.count))

pub returns-clause-others : goal.returns-clause-others
returns-clause-others g c = λ p apart. nth-other c.grow.new.values.items c.args.number p (Some c.args.value) apart ∙ c.in_ok-grow.ensures.same p
