use Rattle.std.proofs.Common.{◌≡◌, ◌∙◌, Bool, true, Some, option_map, refl, sym, ap, subst, arith}
use Rattle.parts_model.specs.Numbered.{nth}
use Rattle.parts_model.specs.Pipes.{can_take}
use Rattle.arn_model.specs.Kernel.{Kernel}
use Rattle.guest_requests.specs.Tables.{Tables}
use Rattle.guest_requests.specs.Transfers.{CanDrain}
use Rattle.guest_requests.proofs.Piped.{draining-ready}
use Rattle.guest_requests.proofs.tables.Tables.draining.Goals as goal

pub returns-clause-reading : goal.returns-clause-reading
returns-clause-reading c m is =
    let tested : c.can_take.result ≡ true = first_of (cc, grind arith) in
    let ready : option_map can_take (nth c.self.inside.channels.now.pipes c.args.pipe) ≡ Some true = sym c.can_take.ensures ∙ ap (λ (b : Bool). Some b) tested in
    (refl, draining-ready m c.args.at c.args.most c.args.pipe c.requires.some (subst (λ (k : Kernel). CanDrain k c.args.pipe) (ap (λ (t : Tables). t.kernel) c.self.view_is ∙ is) ready))
