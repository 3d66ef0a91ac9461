use Rattle.std.proofs.Common.{refl}
use Rattle.guest_calls.proofs.Returned.{no-ok, nothing-short, on-err}
use Rattle.guest_calls.proofs.kernel.Kernel.fork.Goals as goal

pub returns-then-is_full-clause-short : goal.returns-then-is_full-clause-short
returns-then-is_full-clause-short c = nothing-short c.answers.ensures.nothing

pub returns-in_err-extra-clause-carried : goal.returns-in_err-extra-clause-carried
returns-in_err-extra-clause-carried c = no-ok _ c.from_residual.result c.from_residual.ensures.0

pub returns-in_err-extra-clause-short : goal.returns-in_err-extra-clause-short
returns-in_err-extra-clause-short c = no-ok _ c.from_residual.result c.from_residual.ensures.0

pub returns-in_err-extra-clause-err : goal.returns-in_err-extra-clause-err
returns-in_err-extra-clause-err c = on-err c.from_residual.result refl

pub returns-in_err-child-clause-carried : goal.returns-in_err-child-clause-carried
returns-in_err-child-clause-carried c = no-ok _ c.from_residual-in_err-child.result c.from_residual-in_err-child.ensures.0

pub returns-in_err-child-clause-short : goal.returns-in_err-child-clause-short
returns-in_err-child-clause-short c = no-ok _ c.from_residual-in_err-child.result c.from_residual-in_err-child.ensures.0

pub answers-requires-clause-live : goal.answers-requires-clause-live
answers-requires-clause-live c = c.requires.live

pub answers-requires-clause-room : goal.answers-requires-clause-room
answers-requires-clause-room c = c.requires.room

pub returns-then-is_full-clause-err : goal.returns-then-is_full-clause-err
returns-then-is_full-clause-err c = tt

pub add_child-requires-clause-live : goal.add_child-requires-clause-live
add_child-requires-clause-live c = c.requires.live

pub add_child-requires-clause-room : goal.add_child-requires-clause-room
add_child-requires-clause-room c = c.requires.room

pub returns-clause-err : goal.returns-clause-err
returns-clause-err c = tt
