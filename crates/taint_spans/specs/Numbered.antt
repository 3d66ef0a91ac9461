-- Sets by number: those of plain numbers, and spans.
use Rattle.std.specs.Prelude.{◌≡◌, ℕ, ◌+◌, ◌-◌, ◌^◌, ◌<◌, ◌≤◌, ◌&&◌, Bool, nat_lt, nat_le, if◌then◌else◌, List, [], ◌∷◌, slice_get, Option, IsSome, unwrap_or}
use Rattle.set_store.specs.declared.item.Item.{Item}
use Rattle.taint_sets.specs.Numbered as plain
use Rattle.taint_spans.specs.Spans.{IsSpan, span_members}
use Rattle.taint_spans.specs.declared.span.Span.{Span}

-- the numbers from the first one on that are spans'
abbrev pub first_span : ℕ
first_span = 2 ^ 30

-- the first number of a received byte
abbrev pub first_received : ℕ
first_received = plain.first_received

-- a number is a span's
abbrev pub is_span : ℕ → Bool
is_span number = nat_le first_span number && nat_lt number plain.first_received

-- the sets of plain numbers, and the members of spans
pub record Numbered : Type 0 where
  pub sets : plain.Numbered
  pub spans : List (List Item)

-- the set of a number, if it stands for one
abbrev pub set_at : Numbered → ℕ → Option (List Item)
set_at sets number = if is_span number then slice_get sets.spans (number - first_span) else plain.set_at sets.sets number

-- a number stands for a set
unfoldable pub IsSet : Numbered → ℕ → Type 0
IsSet sets number = IsSome (set_at sets number)

-- the members of a set, none where a number stands for none
unfoldable pub members_of : Numbered → ℕ → List Item
members_of sets number = unwrap_or (set_at sets number) []

-- each number stands for the same set as before
pub record StandAsBefore (old new : Numbered) : Type 0 where
  pub there : (set : ℕ) → IsSet old set → IsSet new set
  pub same : (set : ℕ) → IsSet old set → members_of new set ≡ members_of old set

-- a number stands for the set of one byte of an event alone
pub record IsItem (sets : Numbered) (event at number : ℕ) : Type 0 where
  pub there : IsSet sets number
  pub members : members_of sets number ≡ record { event = event; at = at } ∷ []

-- so many bytes of an event from one on have the numbers from another one on
pub record AreReceivedFrom (sets : Numbered) (event at count first : ℕ) : Type 0 where
  pub fits : first + count ≤ 2 ^ 32
  pub items : (k : ℕ) → k < count → IsItem sets event (at + k) (first + k)

-- a span has the members of a set
pub record IsSpanOf (sets : Numbered) (set : ℕ) (span : Span) : Type 0 where
  pub is : IsSpan sets.sets span
  pub members : members_of sets set ≡ span_members sets.sets span
