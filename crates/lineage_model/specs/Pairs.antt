-- The pairs that answer a query: source bytes beside bytes of the target.
use Rattle.std.specs.Prelude.{ℕ, zero, suc, ◌+◌, nat_lt, ◌&&◌, ◌||◌, ◌==◌, Bool, if◌then◌else◌, List, [], ◌∷◌, ◌++◌}
use Rattle.arn_base.specs.declared.records.Pair.{Pair}
use Rattle.lineage_model.specs.Flow.{At, Byte}
use Rattle.lineage_model.specs.Tracking.{EventByte}

-- a source byte beside byte k of the target. Only bytes that came from outside are sources, so a byte with which a group began is none
abbrev pub pair_at : ℕ → ℕ → At → List Pair
pair_at k event (Byte at) = record { event = event; at = at; byte = k } ∷ []
pair_at k event other = []

-- the pair's source byte comes before the other's: by event, then by byte of the event
abbrev pub comes_first : Pair → Pair → Bool
comes_first a b = nat_lt a.event b.event || ((a.event == b.event) && nat_lt a.at b.at)

-- two pairs have one source byte
abbrev pub has_same_source : Pair → Pair → Bool
has_same_source a b = (a.event == b.event) && (a.at == b.at)

-- a pair at its place among rising pairs of one byte of the target, each of which stands once
abbrev pub ranked : Pair → List Pair → List Pair
ranked a [] = a ∷ []
ranked a (b ∷ pairs) = if has_same_source a b then b ∷ pairs else if comes_first a b then a ∷ b ∷ pairs else b ∷ ranked a pairs

abbrev pub all_ranked : List Pair → List Pair → List Pair
all_ranked [] pairs = pairs
all_ranked (a ∷ more) pairs = ranked a (all_ranked more pairs)

-- the pairs of one byte of the target, rising, each once
abbrev pub byte_pairs : ℕ → List EventByte → List Pair
byte_pairs k [] = []
byte_pairs k (b ∷ bytes) = all_ranked (pair_at k b.event b.at) (byte_pairs k bytes)

-- the pairs of bytes k to k + len - 1 of a target whose bytes have these sources
abbrev pub pairs_from : (ℕ → List EventByte) → ℕ → ℕ → List Pair
pairs_from sources k zero = []
pairs_from sources k (suc len) = byte_pairs k (sources k) ++ pairs_from sources (k + 1) len
