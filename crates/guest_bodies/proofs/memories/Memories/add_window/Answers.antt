use Rattle.std.proofs.Common.{ℕ, Some, None, refl, sym, ◌∙◌}
use Rattle.std.proofs.lemmas.Result.{IfOk-weaker}
use Rattle.guest_bodies.specs.Tables.{bytes_by_key}
use Rattle.parts_model.specs.Numbered.{nth}
use Rattle.guest_bodies.proofs.Keyed.{bytes-at, ok-adds, window-at}
use Rattle.guest_bodies.proofs.memories.Memories.add_window.Goals as goal

pub returns-clause-adds : goal.returns-clause-adds
returns-clause-adds c =
    ok-adds c.add.result c.args.space.bytes c.args.self.now.windows (bytes_by_key c.add.new.self)
    (IfOk-weaker c.add.result _ _ (λ (key : ℕ) none. window-at c.self.inside.windows c.self.inside.segments c.args.self.now c.self.view_is key None none) c.add.ensures.none)
    (IfOk-weaker c.add.result _ _ (λ (key : ℕ) one. bytes-at c.add.new.self key (Some c.args.space) one) c.add.ensures.one)
    (IfOk-weaker c.add.result _ _ (λ (key : ℕ) others (k : ℕ) ne.
    bytes-at c.add.new.self k (nth c.self.inside.windows k) (others k ne) ∙ sym (window-at c.self.inside.windows c.self.inside.segments c.args.self.now c.self.view_is k (nth c.self.inside.windows k) refl)) c.add.ensures.others)
