-- Sets with received bytes in a row besides.
use Rattle.std.specs.Prelude.{◌≡◌, ◌⊎◌, ℕ, zero, suc, ◌+◌, ◌^◌, ◌≤◌, ◌<◌, List, [], ◌++◌}
use Rattle.set_store.specs.declared.item.Item.{Item}
use Rattle.taint_sets.specs.Numbered as plain
use Rattle.taint_sets.specs.Numbered.{Numbered}
use Rattle.taint_spans.specs.declared.span.Span.{Span}

-- the members of so many sets whose numbers follow each other
unfoldable pub members_from : Numbered → ℕ → ℕ → List Item
members_from sets first zero = []
members_from sets first (suc count) = members_from sets first count ++ plain.members_of sets (first + count)

-- those of the span's set, and its bytes
abbrev pub span_members : Numbered → Span → List Item
span_members sets span = plain.members_of sets span.base ++ members_from sets span.first span.len

-- its numbers stand for sets, and its bytes are received ones
pub record IsSpan (sets : Numbered) (span : Span) : Type 0 where
  pub base : plain.IsSet sets span.base
  pub fits : span.first + span.len ≤ 2 ^ 32
  pub bytes : (k : ℕ) → k < span.len → plain.IsSet sets (span.first + k)
  pub received : 0 < span.len → plain.first_received ≤ span.first

-- the bytes of the one are among those of the other
abbrev pub HasBytes : Span → Span → Type 0
HasBytes other span = (other.len ≡ 0) ⊎ ((span.first ≤ other.first) × (other.first + other.len ≤ span.first + span.len))

-- all that the one has the other has too
pub record IsWithin (other span : Span) : Type 0 where
  pub base : (other.base ≡ 0) ⊎ (other.base ≡ span.base)
  pub bytes : HasBytes other span

-- one byte more: the first, or the one behind the last
pub record Lengthens (span : Span) (byte : ℕ) (more : Span) : Type 0 where
  pub base : more.base ≡ span.base
  pub len : more.len ≡ span.len + 1
  pub first : (span.len ≡ 0) ⊎ (more.first ≡ span.first)
  pub last : more.first + span.len ≡ byte
