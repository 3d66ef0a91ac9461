use Rattle.std.proofs.Common.{ℕ, List, None, Some, Option, false, refl, subst, ap}
use Rattle.parts_model.specs.Files.{find_file}
use Rattle.arn_model.specs.Doing.{returns}
use Rattle.arn_model.specs.FileCalls.{unlink_found, unlink_row}
use Rattle.guest_calls.proofs.Paths.{ByPath, path-carried, path-is, unlink-by, unlink_on}
use Rattle.guest_calls.proofs.Returned.{lives, no-ok, nothing-short, on-err}
use Rattle.guest_calls.proofs.kernel.Kernel.unlink.Goals as goal

pub path_refusal-requires : goal.path_refusal-requires
path_refusal-requires c = lives c.self.inside c.args.self.now c.args.pid c.self.view_is c.requires.live

pub returns-in-Some-clause-short : goal.returns-in-Some-clause-short
returns-in-Some-clause-short c = nothing-short c.answers.ensures.nothing

pub path-requires-clause-live : goal.path-requires-clause-live
path-requires-clause-live c = lives c.self.inside c.args.self.now c.args.pid c.self.view_is c.requires.live

pub returns-in_err-path-clause-carried : goal.returns-in_err-path-clause-carried
returns-in_err-path-clause-carried c = no-ok _ c.from_residual.result c.from_residual.ensures.0

pub returns-in_err-path-clause-short : goal.returns-in_err-path-clause-short
returns-in_err-path-clause-short c = no-ok _ c.from_residual.result c.from_residual.ensures.0

pub returns-in_err-path-clause-err : goal.returns-in_err-path-clause-err
returns-in_err-path-clause-err c = on-err c.from_residual.result refl

pub returns-in-Some-clause-carried : goal.returns-in-Some-clause-carried
returns-in-Some-clause-carried c =
    path-carried c.self.inside c.args.self.now c.answers.new.self c.args.pid c.argument-at.result c.argument-len.result false (Some c.in-Some.answer) (λ m v. unlink_row m c.args.pid v) (unlink_on c.argument-at.result c.argument-len.result) c.self.view_is
    (subst (λ (o : Option ℕ). ByPath c.self.inside.bodies c.args.pid c.argument-at.result c.argument-len.result false o) c.in-Some.is c.path_refusal.ensures.refused)
    (unlink-by c.args.self.now c.args.pid c.argument-at.result c.argument-len.result c.argument-at.ensures c.argument-len.ensures)
    c.answers.result (λ m v. returns c.in-Some.answer m.kernel) (λ m v sees. refl) c.answers.ensures.carried

pub returns-clause-carried : goal.returns-clause-carried
returns-clause-carried c =
    path-carried c.self.inside c.args.self.now c.unlink_path.new.self c.args.pid c.argument-at.result c.argument-len.result false None (λ m v. unlink_row m c.args.pid v) (unlink_on c.argument-at.result c.argument-len.result) c.self.view_is
    (subst (λ (o : Option ℕ). ByPath c.self.inside.bodies c.args.pid c.argument-at.result c.argument-len.result false o) c.in_default.is c.path_refusal.ensures.refused)
    (unlink-by c.args.self.now c.args.pid c.argument-at.result c.argument-len.result c.argument-at.ensures c.argument-len.ensures)
    c.unlink_path.result (λ m v. unlink_found m c.in_ok-path.path (find_file m.kernel.files c.in_ok-path.path))
    (λ m v sees. ap (λ (p : List ℕ). unlink_found m p (find_file m.kernel.files p)) (path-is c.self.inside c.args.self.now c.args.pid c.argument-at.result c.argument-len.result c.in_ok-path.path c.self.view_is c.in_ok-path.ensures.path v sees)) c.unlink_path.ensures.carried
