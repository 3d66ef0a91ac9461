use Rattle.std.proofs.Common.{refl, sym, ◌∙◌, Some}
use Rattle.arn_base.specs.declared.records.Extra.TheVariants as extra
use Rattle.acts_model.specs.Acts.{Returns}
use Rattle.arn_model.specs.FileCalls.{close_row}
use Rattle.arn_model.specs.Kernel.{closes}
use Rattle.guest_calls.proofs.Carries.{acted-after, argument-is, carried-by, close-row}
use Rattle.guest_calls.proofs.Stands.{machine_with}
use Rattle.guest_calls.proofs.kernel.Kernel.close.Goals as goal

pub returns-in-Some-clause-carried : goal.returns-in-Some-clause-carried
returns-in-Some-clause-carried c =
    carried-by c.args.pid 0 extra.Nothing (closes c.args.pid c.argument.result c.in-Some.field-0 c.args.self.now.kernel) c.args.self.now c.returns.new.self (λ m v. close_row m c.args.pid v)
    (acted-after c.args.pid (Returns 0) (closes c.args.pid c.argument.result c.in-Some.field-0 c.args.self.now.kernel) c.args.self.now c.lift.new.self c.returns.new.self c.in-Some.ensures.closed (c.returns.ensures (Returns 0) refl))
    (λ b v sees. sym (close-row (machine_with b c.args.self.now) c.args.pid v c.argument.result (Some c.in-Some.field-0) (argument-is c.args.self.now c.args.pid 0 c.argument.result v sees c.argument.ensures) (sym c.in-Some.is ∙ c.lift.ensures.found)))
