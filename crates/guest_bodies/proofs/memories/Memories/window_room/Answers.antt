use Rattle.std.proofs.Common.{refl, sym, ◌∙◌}
use Rattle.parts_model.specs.Numbered.{nth}
use Rattle.guest_bodies.proofs.Keyed.{bytes-at, window-at}
use Rattle.guest_bodies.proofs.memories.Memories.window_room.Goals as goal

pub returns-clause-windows : goal.returns-clause-windows
returns-clause-windows c k =
    bytes-at c.free_room.new.self k (nth c.self.inside.windows k) (c.free_room.ensures.same k) ∙ sym (window-at c.self.inside.windows c.self.inside.segments c.args.self.now c.self.view_is k (nth c.self.inside.windows k) refl)
