-- Writes as they are laid into cells.
use Rattle.std.proofs.Common.{◌≡◌, ℕ, ◌+◌, ◌<◌, cond, nat_lt, List, length, Option}
use Rattle.parts_model.specs.declared.tagged.TaggedByte.{TaggedByte}
use Rattle.parts_model.specs.Numbered.{nth}
use Rattle.file_versions.specs.Versions.{Write, laid_at}

-- a write is laid up to its byte i
pub record IsLaidTo (w : Write) (i : ℕ) (old new : List (Option TaggedByte)) : Type 0 where
  pub as_many : length new ≡ length old
  pub cells : (place : ℕ) → place < length old → nth new place ≡ cond (nat_lt place (w.over.at + i)) (laid_at w place (nth old place)) (nth old place)
