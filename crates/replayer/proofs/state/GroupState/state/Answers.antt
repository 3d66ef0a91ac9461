use Rattle.std.proofs.Common.{◌∙◌, ℕ, List, is_some, length, sym, subst}
use Rattle.std.specs.List.{All, range_with_len}
use Rattle.std.proofs.lemmas.List.Elements.{filter_passes}
use Rattle.parts_model.specs.Numbered.{nth}
use Rattle.guest_bodies.specs.Shown.{IsLive}
use Rattle.replayer.proofs.state.GroupState.state.Goals as goal

pub state_of-requires : goal.state_of-requires
state_of-requires c =
    let guests = c.self.inside.bodies in
    record {
      live = subst (λ (l : List ℕ). All (IsLive guests) l) (sym (c.as_slice.ensures.value ∙ c.self.invariant)) (filter_passes (λ p. is_some (nth guests p)) (range_with_len 0 (length guests)));
    }
