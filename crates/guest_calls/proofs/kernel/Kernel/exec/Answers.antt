use Rattle.std.proofs.Common.{ℕ, None, Some, Option, nat_lt, refl, subst}
use Rattle.parts_model.specs.declared.limits.TheConstants.{MOST_BLOCK_BYTES}
use Rattle.parts_model.specs.Files.{find_file}
use Rattle.arn_model.specs.Doing.{returns}
use Rattle.arn_model.specs.ProcessCalls.{exec_file, exec_row}
use Rattle.guest_calls.proofs.Paths.{ByPath, exec-by, exec-goes, exec-lacks, exec_on, path-carried, path-ends}
use Rattle.guest_calls.proofs.Returned.{lives, no-ok, nothing-short, on-err}
use Rattle.guest_calls.proofs.kernel.Kernel.exec.Goals as goal

pub path_refusal-requires : goal.path_refusal-requires
path_refusal-requires c = lives c.self.inside c.args.self.now c.args.pid c.self.view_is c.requires.live

pub returns-in-Some-clause-short : goal.returns-in-Some-clause-short
returns-in-Some-clause-short c = nothing-short c.answers.ensures.nothing

pub lacks_block-requires : goal.lacks_block-requires
lacks_block-requires c = lives c.self.inside c.args.self.now c.args.pid c.self.view_is c.requires.live

pub returns-then-lacks_block-clause-short : goal.returns-then-lacks_block-clause-short
returns-then-lacks_block-clause-short c = nothing-short c.answers-then-lacks_block.ensures.nothing

pub path-requires-clause-live : goal.path-requires-clause-live
path-requires-clause-live c = lives c.self.inside c.args.self.now c.args.pid c.self.view_is c.requires.live

pub returns-in_err-path-clause-carried : goal.returns-in_err-path-clause-carried
returns-in_err-path-clause-carried c = no-ok _ c.from_residual.result c.from_residual.ensures.0

pub returns-in_err-path-clause-short : goal.returns-in_err-path-clause-short
returns-in_err-path-clause-short c = no-ok _ c.from_residual.result c.from_residual.ensures.0

pub returns-in_err-path-clause-err : goal.returns-in_err-path-clause-err
returns-in_err-path-clause-err c = on-err c.from_residual.result refl

pub returns-in-Some-clause-carried : goal.returns-in-Some-clause-carried
returns-in-Some-clause-carried c =
    path-carried c.self.inside c.args.self.now c.answers.new.self c.args.pid c.argument-at.result c.argument-len.result (nat_lt MOST_BLOCK_BYTES c.argument-block_len.result) (Some c.in-Some.answer) (λ m v. exec_row m c.args.pid v) (exec_on c.args.pid c.argument-at.result c.argument-len.result c.argument-block.result c.argument-block_len.result) c.self.view_is
    (subst (λ (o : Option ℕ). ByPath c.self.inside.bodies c.args.pid c.argument-at.result c.argument-len.result (nat_lt MOST_BLOCK_BYTES c.argument-block_len.result) o) c.in-Some.is c.path_refusal.ensures.refused)
    (exec-by c.args.self.now c.args.pid c.argument-at.result c.argument-len.result c.argument-block.result c.argument-block_len.result c.argument-at.ensures c.argument-len.ensures c.argument-block.ensures c.argument-block_len.ensures)
    c.answers.result (λ m v. returns c.in-Some.answer m.kernel) (λ m v sees. refl) c.answers.ensures.carried

pub returns-then-lacks_block-clause-carried : goal.returns-then-lacks_block-clause-carried
returns-then-lacks_block-clause-carried c =
    path-carried c.self.inside c.args.self.now c.answers-then-lacks_block.new.self c.args.pid c.argument-at.result c.argument-len.result (nat_lt MOST_BLOCK_BYTES c.argument-block_len.result) None (λ m v. exec_row m c.args.pid v) (exec_on c.args.pid c.argument-at.result c.argument-len.result c.argument-block.result c.argument-block_len.result) c.self.view_is
    (subst (λ (o : Option ℕ). ByPath c.self.inside.bodies c.args.pid c.argument-at.result c.argument-len.result (nat_lt MOST_BLOCK_BYTES c.argument-block_len.result) o) c.in_default.is c.path_refusal.ensures.refused)
    (exec-by c.args.self.now c.args.pid c.argument-at.result c.argument-len.result c.argument-block.result c.argument-block_len.result c.argument-at.ensures c.argument-len.ensures c.argument-block.ensures c.argument-block_len.ensures)
    c.answers-then-lacks_block.result (λ m v. returns c.error.result m.kernel)
    (exec-lacks c.self.inside c.args.self.now c.args.pid c.argument-at.result c.argument-len.result c.argument-block.result c.argument-block_len.result c.error.result c.lacks_block.result c.self.view_is c.lacks_block.ensures c.if-lacks_block.true c.error.ensures) c.answers-then-lacks_block.ensures.carried

pub returns-clause-carried : goal.returns-clause-carried
returns-clause-carried c =
    path-ends c.self.inside c.args.self.now c.exec_path.new.self c.args.pid c.argument-at.result c.argument-len.result (nat_lt MOST_BLOCK_BYTES c.argument-block_len.result) None (λ m v. exec_row m c.args.pid v) (exec_on c.args.pid c.argument-at.result c.argument-len.result c.argument-block.result c.argument-block_len.result) c.self.view_is
    (subst (λ (o : Option ℕ). ByPath c.self.inside.bodies c.args.pid c.argument-at.result c.argument-len.result (nat_lt MOST_BLOCK_BYTES c.argument-block_len.result) o) c.in_default.is c.path_refusal.ensures.refused)
    (exec-by c.args.self.now c.args.pid c.argument-at.result c.argument-len.result c.argument-block.result c.argument-block_len.result c.argument-at.ensures c.argument-len.ensures c.argument-block.ensures c.argument-block_len.ensures)
    c.exec_path.result (λ m v. exec_file m c.args.pid v (find_file m.kernel.files c.as_slice.result.now))
    (exec-goes c.self.inside c.args.self.now c.args.pid c.argument-at.result c.argument-len.result c.argument-block.result c.argument-block_len.result c.in_ok-path.path c.as_slice.result.now c.lacks_block.result c.self.view_is c.lacks_block.ensures c.if-lacks_block.false c.in_ok-path.ensures.path c.as_slice.ensures) c.exec_path.ensures.carried

pub returns-clause-short : goal.returns-clause-short
returns-clause-short c = c.exec_path.ensures.short

pub argument-at-requires-clause-live : goal.argument-at-requires-clause-live
argument-at-requires-clause-live c = c.requires.live

pub argument-len-requires-clause-live : goal.argument-len-requires-clause-live
argument-len-requires-clause-live c = c.requires.live

pub argument-block-requires-clause-live : goal.argument-block-requires-clause-live
argument-block-requires-clause-live c = c.requires.live

pub argument-block_len-requires-clause-live : goal.argument-block_len-requires-clause-live
argument-block_len-requires-clause-live c = c.requires.live

pub answers-requires-clause-live : goal.answers-requires-clause-live
answers-requires-clause-live c = c.requires.live

pub answers-requires-clause-room : goal.answers-requires-clause-room
answers-requires-clause-room c = c.requires.room

pub returns-in-Some-clause-err : goal.returns-in-Some-clause-err
returns-in-Some-clause-err c = tt

pub answers-requires-then-lacks_block-clause-live : goal.answers-requires-then-lacks_block-clause-live
answers-requires-then-lacks_block-clause-live c = c.requires.live

pub answers-requires-then-lacks_block-clause-room : goal.answers-requires-then-lacks_block-clause-room
answers-requires-then-lacks_block-clause-room c = c.requires.room

pub returns-then-lacks_block-clause-err : goal.returns-then-lacks_block-clause-err
returns-then-lacks_block-clause-err c = tt

pub exec_path-requires-clause-live : goal.exec_path-requires-clause-live
exec_path-requires-clause-live c = c.requires.live

pub exec_path-requires-clause-room : goal.exec_path-requires-clause-room
exec_path-requires-clause-room c = c.requires.room

pub exec_path-requires-clause-block : goal.exec_path-requires-clause-block
exec_path-requires-clause-block c = c.argument-block.ensures

pub exec_path-requires-clause-block_len : goal.exec_path-requires-clause-block_len
exec_path-requires-clause-block_len c = c.argument-block_len.ensures

pub returns-clause-err : goal.returns-clause-err
returns-clause-err c = c.exec_path.ensures.err
