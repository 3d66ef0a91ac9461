-- The lowest free descriptor is the place of the first that is none.
use Rattle.std.proofs.Common.{◌≡◌, ℕ, ◌+◌, List, [], ◌∷◌, Option, Some, None, refl, sym, ◌∙◌}
use Rattle.std.specs.Prelude.{position, is_none}
use Rattle.std.specs.List.{position_from}
use Rattle.std.proofs.lemmas.Iterator.Adapters.{position_from-zero}
use Rattle.parts_model.specs.Processes.{lowest_free_from}

lowest_free-place : (n : ℕ) (descriptors : List (Option ℕ)) → lowest_free_from n descriptors ≡ position_from is_none n descriptors
lowest_free-place n [] = refl
lowest_free-place n (None ∷ descriptors) = refl
lowest_free-place n (Some found ∷ descriptors) = lowest_free-place (n + 1) descriptors

pub lowest_free-position : (descriptors : List (Option ℕ)) → lowest_free_from 0 descriptors ≡ position is_none descriptors
lowest_free-position descriptors = lowest_free-place 0 descriptors ∙ sym (position_from-zero is_none descriptors)

pub ruleset lowest = (lowest_free-position)
