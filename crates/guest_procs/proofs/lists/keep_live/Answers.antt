use Rattle.std.proofs.Common.{rules}
use Rattle.std.proofs.lemmas.Fn.{filter_same}
use Rattle.parts_model.specs.Processes.{process, is_live}
use Rattle.guest_procs.specs.Sound.{holds}
use Rattle.guest_procs.proofs.lists.keep_live.Goals as goal

pub returns : goal.returns
returns c =
    filter_same _ (λ pid. holds is_live (process c.args.table.now pid)) _ (λ pid kept f k. search rules) _ _ c.retain.ensures.filtered
