use Rattle.std.proofs.Common.{refl, subst, ◌%◌, ℕ, [], ◌∷◌, Some, ◌≡◌}
use Rattle.arn_base.specs.declared.records.Extra.TheVariants as extra
use Rattle.acts_model.specs.Acts.{Exits}
use Rattle.acts_model.specs.Bodies.{View}
use Rattle.acts_model.specs.Moved.{Nothing}
use Rattle.acts_model.specs.Views.{argument}
use Rattle.arn_model.specs.Doing.{Doing}
use Rattle.arn_model.specs.Kernel.{ended, status_at}
use Rattle.arn_model.specs.ProcessCalls.{exit_row, status_of}
use Rattle.guest_bodies.specs.Shown.{seen_in}
use Rattle.guest_calls.specs.Acted.{Acted, Carried}
use Rattle.guest_calls.proofs.Stands.{of_process, acted-stands, at-seen}
use Rattle.guest_calls.proofs.kernel.Kernel.exit.Goals as goal

pub returns-clause-carried : goal.returns-clause-carried
returns-clause-carried c =
    of_process c.args.self.now c.args.pid (λ m v. Carried (exit_row m c.args.pid v) (record { result = 0; extra = extra.Nothing }) m c.args.pid v c.ends.new.self)
    (λ b v shows sees.
    let status : c.argument.result ≡ argument v.body.cpu 0 = at-seen (seen_in c.args.self.now.guests c.args.pid) v (λ (w : View). c.argument.result ≡ argument w.body.cpu 0) sees c.argument.ensures in
    let d : Doing =
    record {
      act = Exits;
      extra = extra.Nothing;
      incoming = Nothing;
      outgoing = Some (status_of c.args.pid);
      bytes = argument v.body.cpu 0 % 256 ∷ [];
      kernel = ended c.args.pid (status_at c.args.self.now.events (argument v.body.cpu 0 % 256)) c.args.self.now.kernel;
    } in
    record {
      doing = d;
      is = refl;
      answers = refl;
      extra = refl;
      stands = acted-stands c.args.self.now c.ends.new.self c.args.pid v b d shows
          (subst (λ (n : ℕ). Acted c.args.pid Exits (ended c.args.pid (status_at c.args.self.now.events (n % 256)) c.args.self.now.kernel) c.args.self.now c.ends.new.self) status (c.ends.ensures Exits tt)) refl;
    })
