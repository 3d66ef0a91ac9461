-- Records that are compared one by one.
use Rattle.std.specs.Prelude.{◌≡◌, ◌≢◌, ℕ, ◌≤◌, List, ◌++◌, length, take, Option, slice_get}
use Rattle.arn_base.specs.declared.records.Record.{Record}
use Rattle.arn_base.specs.declared.records.Differs.{Differs}
use Rattle.record_match.specs.Differs.{spelling_if, IsFirstDifference}

-- at this place stand two records, or one where another has none, whose spellings first differ at this byte
pub record IsDifferenceAt (place : ℕ) (said found : Option Record) (d : Differs) : Type 0 where
  pub is_place : d.place ≡ place
  pub same_bytes : take d.at (spelling_if said) ≡ take d.at (spelling_if found)
  pub said_byte : slice_get (spelling_if said) d.at ≡ d.said
  pub found_byte : slice_get (spelling_if found) d.at ≡ d.found
  pub bytes_differ : d.said ≢ d.found

-- behind the first `matched` records stand these, and then `now` are matched
pub record IsMatched (entries : List Record) (matched : ℕ) (found : List Record) (now : ℕ) : Type 0 where
  pub within : now ≤ length entries
  pub same : take now entries ≡ take matched entries ++ found

-- the records first differ from these, whatever follows
abbrev pub IsMismatch : List Record → List Record → Differs → Type 0
IsMismatch said front d = (others : List Record) → IsFirstDifference said (front ++ others) d
