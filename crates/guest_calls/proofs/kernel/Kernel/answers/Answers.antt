use Rattle.std.proofs.Common.{refl}
use Rattle.arn_base.specs.declared.records.Extra.TheVariants as extra
use Rattle.acts_model.specs.Acts.{Returns}
use Rattle.arn_model.specs.Doing.{returning, returns as returns_of}
use Rattle.guest_calls.specs.Acted.{Carried}
use Rattle.guest_calls.proofs.Stands.{of_process, acted-stands}
use Rattle.guest_calls.proofs.kernel.Kernel.answers.Goals as goal

pub returns-clause-carried : goal.returns-clause-carried
returns-clause-carried c =
    of_process c.args.self.now c.args.pid (λ m v. Carried (returns_of c.args.answer m.kernel) (record { result = c.args.answer; extra = extra.Nothing }) m c.args.pid v c.returns.new.self)
    (λ b v shows sees. record {
      doing = returning c.args.answer extra.Nothing c.args.self.now.kernel;
      is = refl;
      answers = refl;
      extra = refl;
      stands = acted-stands c.args.self.now c.returns.new.self c.args.pid v b (returning c.args.answer extra.Nothing c.args.self.now.kernel) shows (c.returns.ensures (Returns c.args.answer) refl) refl;
    })
