use Rattle.std.proofs.lemmas.Result.{IfOk-weaker}
use Rattle.arn_model.specs.Row.{request}
use Rattle.guest_calls.specs.Asked.{Ended}
use Rattle.guest_calls.specs.State.{OfProcess}
use Rattle.guest_calls.specs.Steps.{Performed}
use Rattle.guest_calls.specs.declared.outcomes.Done.{Done}
use Rattle.guest_calls.proofs.Asks.{ended-performed}
use Rattle.guest_calls.proofs.kernel.Kernel.perform.Goals as goal

pub returns-clause-performed : goal.returns-clause-performed
returns-clause-performed g c =
    IfOk-weaker c.carry_out.result (λ (d : Done). OfProcess c.args.self.now c.args.pid (λ m v. Ended {A = g.row.A.Denot} g.A.Answers.answers c.args.answers.now c.carry_out.new.answers (request m c.args.pid v) d m c.args.pid v c.carry_out.new.self))
    (λ (d : Done). OfProcess c.args.self.now c.args.pid (λ m v. Performed {A = g.row.A.Denot} g.A.Answers.answers c.args.answers.now c.carry_out.new.answers d m c.args.pid v c.carry_out.new.self))
    (λ d ended m v stands sees. ended-performed g.A.Answers.answers c.args.answers.now c.carry_out.new.answers d m c.args.pid v c.carry_out.new.self (ended m v stands sees)) c.carry_out.ensures.ended
