use Rattle.std.proofs.Common.{refl, sym, ap, ◌∙◌, ℕ, List, length, None, IfSome, ◌≡◌, subst}
use Rattle.arn_base.specs.declared.records.Extra.TheVariants as extra
use Rattle.acts_model.specs.Acts.{Gives}
use Rattle.acts_model.specs.Bodies.{View}
use Rattle.acts_model.specs.Views.{read}
use Rattle.arn_model.specs.TransferCalls.{giving, write_console}
use Rattle.guest_bodies.specs.Shown.{seen_in}
use Rattle.guest_calls.specs.Acted.{Carried}
use Rattle.guest_calls.specs.State.{State}
use Rattle.guest_calls.proofs.Stands.{of_process, acted-stands, at-seen}
use Rattle.guest_calls.proofs.kernel.Kernel.print.Goals as goal

pub returns-clause-carried : goal.returns-clause-carried
returns-clause-carried c =
    of_process c.args.self.now c.args.pid (λ m v. Carried (write_console m c.args.at (read v c.args.at c.args.count)) (record { result = c.args.count; extra = extra.Console c.in_ok-bytes.bytes }) m c.args.pid v c.returns.new.self)
    (λ b v shows sees.
    let given : List ℕ = read v c.args.at c.args.count in
    let same : c.in_ok-bytes.bytes ≡ given = at-seen (seen_in c.args.self.now.guests c.args.pid) v (λ (w : View). c.in_ok-bytes.bytes ≡ read w c.args.at c.args.count) sees (subst (λ (s : State). IfSome (seen_in s.guests c.args.pid) (λ w. c.in_ok-bytes.bytes ≡ read w c.args.at c.args.count)) c.self.view_is c.in_ok-bytes.ensures.read) in
    let long : length given ≡ c.args.count = ap length (sym same) ∙ c.in_ok-bytes.ensures.count in
    record {
      doing = giving c.args.at given (extra.Console given) None c.args.self.now.kernel;
      is = refl;
      answers = sym long;
      extra = ap (λ (x : List ℕ). extra.Console x) same;
      stands = acted-stands c.args.self.now c.returns.new.self c.args.pid v b (giving c.args.at given (extra.Console given) None c.args.self.now.kernel) shows (c.returns.ensures (Gives c.args.at (length given) (length given)) long) refl;
    })
