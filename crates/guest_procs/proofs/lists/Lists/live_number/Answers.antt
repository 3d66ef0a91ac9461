use Rattle.std.proofs.Common.{◌∙◌, ℕ, ◌==◌, ap}
use Rattle.std.specs.Prelude.{find}
use Rattle.guest_procs.proofs.Live.{live-found}
use Rattle.guest_procs.proofs.lists.Lists.live_number.Goals as goal

pub returns : goal.returns
returns c =
    c.found_in.ensures
    ∙ (ap (find (λ (pid : ℕ). pid == c.args.number)) (c.deref.ensures.value ∙ c.requires.live_are) ∙ live-found c.args.self.now.table c.args.number)
