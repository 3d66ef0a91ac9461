use Rattle.std.proofs.lemmas.Result.{IfOk-from_err}
use Rattle.query_model.specs.Names.{version_of}
use Rattle.followed_pairs.proofs.More.{memory-lacks}
use Rattle.followed_pairs.proofs.names.version.Goals as goal

pub returns-in_err-build-clause-ok : goal.returns-in_err-build-clause-ok
returns-in_err-build-clause-ok c = IfOk-from_err c.from_residual.result _ c.from_residual.ensures.0

pub returns-in_err-build-clause-err : goal.returns-in_err-build-clause-err
returns-in_err-build-clause-err c = memory-lacks (version_of c.args.entries.now c.args.moment c.args.name.now) c.from_residual.result c.from_residual.ensures.1

pub returns-in-Ok-clause-err : goal.returns-in-Ok-clause-err
returns-in-Ok-clause-err c = tt

pub returns-in-Err-NoMemory-clause-err : goal.returns-in-Err-NoMemory-clause-err
returns-in-Err-NoMemory-clause-err c = tt
