use Rattle.std.proofs.Common.{ℕ, None, Some, Option, nat_lt, refl, subst}
use Rattle.parts_model.specs.Files.{find_file}
use Rattle.arn_model.specs.Doing.{returns}
use Rattle.arn_model.specs.FileCalls.{open_found, open_new, open_row}
use Rattle.guest_calls.proofs.Paths.{ByPath, found-goes, new-goes, open-by, open_on, path-carried, path-ends, path-is}
use Rattle.guest_calls.proofs.Returned.{lives, no-ok, nothing-short, on-err}
use Rattle.guest_calls.proofs.kernel.Kernel.open.Goals as goal

pub path_refusal-requires : goal.path_refusal-requires
path_refusal-requires c = lives c.self.inside c.args.self.now c.args.pid c.self.view_is c.requires.live

pub returns-in-Some-clause-short : goal.returns-in-Some-clause-short
returns-in-Some-clause-short c = nothing-short c.answers.ensures.nothing

pub path-requires-clause-live : goal.path-requires-clause-live
path-requires-clause-live c = lives c.self.inside c.args.self.now c.args.pid c.self.view_is c.requires.live

pub returns-in_err-path-clause-carried : goal.returns-in_err-path-clause-carried
returns-in_err-path-clause-carried c = no-ok _ c.from_residual.result c.from_residual.ensures.0

pub returns-in_err-path-clause-short : goal.returns-in_err-path-clause-short
returns-in_err-path-clause-short c = no-ok _ c.from_residual.result c.from_residual.ensures.0

pub returns-in_err-path-clause-err : goal.returns-in_err-path-clause-err
returns-in_err-path-clause-err c = on-err c.from_residual.result refl

pub returns-in-Some-clause-carried : goal.returns-in-Some-clause-carried
returns-in-Some-clause-carried c =
    path-carried c.self.inside c.args.self.now c.answers.new.self c.args.pid c.argument-at.result c.argument-len.result (nat_lt 1 c.argument-mode.result) (Some c.in-Some.answer) (λ m v. open_row m c.args.pid v) (open_on c.args.pid c.argument-at.result c.argument-len.result c.argument-mode.result) c.self.view_is
    (subst (λ (o : Option ℕ). ByPath c.self.inside.bodies c.args.pid c.argument-at.result c.argument-len.result (nat_lt 1 c.argument-mode.result) o) c.in-Some.is c.path_refusal.ensures.refused)
    (open-by c.args.self.now c.args.pid c.argument-at.result c.argument-len.result c.argument-mode.result c.argument-at.ensures c.argument-len.ensures c.argument-mode.ensures)
    c.answers.result (λ m v. returns c.in-Some.answer m.kernel) (λ m v sees. refl) c.answers.ensures.carried

pub returns-then-mode-eq0-clause-carried : goal.returns-then-mode-eq0-clause-carried
returns-then-mode-eq0-clause-carried c =
    path-ends c.self.inside c.args.self.now c.open_found.new.self c.args.pid c.argument-at.result c.argument-len.result (nat_lt 1 c.argument-mode.result) None (λ m v. open_row m c.args.pid v) (open_on c.args.pid c.argument-at.result c.argument-len.result c.argument-mode.result) c.self.view_is
    (subst (λ (o : Option ℕ). ByPath c.self.inside.bodies c.args.pid c.argument-at.result c.argument-len.result (nat_lt 1 c.argument-mode.result) o) c.in_default.is c.path_refusal.ensures.refused)
    (open-by c.args.self.now c.args.pid c.argument-at.result c.argument-len.result c.argument-mode.result c.argument-at.ensures c.argument-len.ensures c.argument-mode.ensures)
    c.open_found.result (λ m v. open_found m c.args.pid c.in_ok-path.path (find_file m.kernel.files c.in_ok-path.path))
    (λ m v sees. found-goes c.args.pid c.argument-at.result c.argument-len.result c.argument-mode.result c.in_ok-path.path c.if-mode-eq0.true m v
    (path-is c.self.inside c.args.self.now c.args.pid c.argument-at.result c.argument-len.result c.in_ok-path.path c.self.view_is c.in_ok-path.ensures.path v sees)) c.open_found.ensures.carried

pub returns-else-mode-eq0-clause-carried : goal.returns-else-mode-eq0-clause-carried
returns-else-mode-eq0-clause-carried c =
    path-ends c.self.inside c.args.self.now c.open_new.new.self c.args.pid c.argument-at.result c.argument-len.result (nat_lt 1 c.argument-mode.result) None (λ m v. open_row m c.args.pid v) (open_on c.args.pid c.argument-at.result c.argument-len.result c.argument-mode.result) c.self.view_is
    (subst (λ (o : Option ℕ). ByPath c.self.inside.bodies c.args.pid c.argument-at.result c.argument-len.result (nat_lt 1 c.argument-mode.result) o) c.in_default.is c.path_refusal.ensures.refused)
    (open-by c.args.self.now c.args.pid c.argument-at.result c.argument-len.result c.argument-mode.result c.argument-at.ensures c.argument-len.ensures c.argument-mode.ensures)
    c.open_new.result (λ m v. open_new m c.args.pid c.in_ok-path.path)
    (λ m v sees. new-goes c.args.pid c.argument-at.result c.argument-len.result c.argument-mode.result c.in_ok-path.path c.if-mode-eq0.false m v
    (path-is c.self.inside c.args.self.now c.args.pid c.argument-at.result c.argument-len.result c.in_ok-path.path c.self.view_is c.in_ok-path.ensures.path v sees)) c.open_new.ensures.carried
