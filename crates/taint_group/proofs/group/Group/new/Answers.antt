use Rattle.std.proofs.lemmas.Result.{IfOk-from_err}
use Rattle.taint_group.proofs.Placing.{nothing-shown, sound-nothing}
use Rattle.taint_group.proofs.group.Group.new.Goals as goal

pub returns-in_err-new-clause-sound : goal.returns-in_err-new-clause-sound
returns-in_err-new-clause-sound c = IfOk-from_err c.from_residual.result _ c.from_residual.ensures.0

pub returns-in_err-new-clause-nothing : goal.returns-in_err-new-clause-nothing
returns-in_err-new-clause-nothing c = IfOk-from_err c.from_residual.result _ c.from_residual.ensures.0

pub returns-clause-sound : goal.returns-clause-sound
returns-clause-sound c =
    sound-nothing c.args.linkage c.in_ok-new.field-0 c.new-2.result.items c.new-3.result.items c.new-4.result c.in_ok-new.ensures.alone c.in_ok-new.ensures.empty c.new-2.ensures.items c.new-4.ensures

pub returns-clause-nothing : goal.returns-clause-nothing
returns-clause-nothing c = nothing-shown c.args.linkage c.in_ok-new.field-0 c.new-2.result.items c.new-3.result.items c.new-4.result c.new-2.ensures.items c.new-4.ensures
