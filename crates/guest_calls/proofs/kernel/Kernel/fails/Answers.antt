use Rattle.std.proofs.Common.{ℕ, refl, sym, ap}
use Rattle.acts_model.specs.Acts.{Returns}
use Rattle.acts_model.specs.Views.{error}
use Rattle.arn_model.specs.Doing.{Does, returning}
use Rattle.guest_calls.proofs.Carries.{carried-by}
use Rattle.guest_calls.proofs.kernel.Kernel.fails.Goals as goal

pub returns-clause-carried : goal.returns-clause-carried
returns-clause-carried c =
    carried-by c.args.pid c.error-answer.result c.args.more c.args.self.now.kernel c.args.self.now c.returns.new.self (λ m v. Does (returning (error c.args.refusal) c.args.more m.kernel)) (c.returns.ensures (Returns c.error-answer.result) refl)
    (λ b v sees. ap (λ (n : ℕ). Does (returning n c.args.more c.args.self.now.kernel)) (sym c.error-answer.ensures))
