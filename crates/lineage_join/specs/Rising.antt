-- The order of an answer's pairs, and which source bytes they name.
use Rattle.std.specs.Prelude.{◌↔◌, ℕ, ◌<◌, List, Contains}
use Rattle.std.specs.List.Sorted.{IsStrictlySortedBy}
use Rattle.std.specs.Ordering.{nat_cmp, on, then_cmp}
use Rattle.std.specs.declared.cmp.Ordering.{Ordering}
use Rattle.arn_base.specs.declared.records.Pair.{Pair}
use Rattle.lineage_model.specs.Flow.{Byte}
use Rattle.lineage_model.specs.Tracking.{EventByte}

-- pairs are ordered by the target's byte, then by event, then by the event's byte
abbrev pub pair_cmp : Pair → Pair → Ordering
pair_cmp = then_cmp (on (λ pair. pair.byte) nat_cmp) (then_cmp (on (λ pair. pair.event) nat_cmp) (on (λ pair. pair.at) nat_cmp))

-- they rise, so each stands once
abbrev pub IsRising : List Pair → Type 0
IsRising pairs = IsStrictlySortedBy pair_cmp pairs

-- the source byte of a pair
abbrev pub source_of : Pair → EventByte
source_of pair = record { event = pair.event; at = Byte pair.at }

-- exactly the pairs of a target of so many bytes whose bytes have these sources
abbrev pub ArePairs : (ℕ → List EventByte) → ℕ → List Pair → Type 0
ArePairs sources len pairs = (pair : Pair) → Contains pairs pair ↔ ((pair.byte < len) × Contains (sources pair.byte) (source_of pair))
