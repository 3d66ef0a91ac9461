-- The tracking of every step of the whole machine: which source bytes each byte has.
use Rattle.std.specs.Prelude.{ℕ, List, [], ◌∷◌, Option, Some, None, option_map, unwrap_or}
use Rattle.rv64_model.specs.Carries.{Table}
use Rattle.acts_model.specs.Moved.{KernelByte, Range, byte_of, place_in, Event, Incoming, Outside, Nothing, From, Moved}
use Rattle.lineage_model.specs.Flow.{At, Byte, shown}
use Rattle.lineage_model.specs.Tracking.{EventByte, Tracked, untracked, gather, after}

-- it also has the set of each byte that the kernel holds
pub record Whole : Type 0 where
  pub tracked : Tracked EventByte
  pub kernel : KernelByte → List EventByte

-- before anything has come from outside no byte has a source
abbrev pub at_first : Whole
at_first = record { tracked = untracked; kernel = λ byte. [] }

-- a byte from outside is its own source, and any other has the set of the kernel's byte
abbrev pub source : Option Event → ℕ → List EventByte
source None k = []
source (Some event) k = record { event = event.number; at = Byte k } ∷ []

abbrev pub set_of : (KernelByte → List EventByte) → Option KernelByte → List EventByte
set_of kernel byte = unwrap_or (option_map kernel byte) []

abbrev pub received : Option Event → Incoming → (KernelByte → List EventByte) → ℕ → List EventByte
received event Outside kernel k = source event k
received event Nothing kernel k = []
received event (From range) kernel k = set_of kernel (byte_of range k)

-- the sets of what a step receives: a byte with which a child begins has that of its parent's byte
abbrev pub given : Moved → Whole → At → List EventByte
given moved w (Byte k) = received moved.inside.event moved.incoming w.kernel k
given moved w at = gather (λ other. []) w.tracked.locations (shown moved.inside.transfer at)

-- what a byte of the kernel has: that of the event byte that was put there, or what it had
abbrev pub kernel_set : List EventByte → (ℕ → List EventByte) → Option ℕ → List EventByte
kernel_set before byte None = before
kernel_set before byte (Some k) = byte k

abbrev pub kernel_after : Option Event → Option Range → (ℕ → At → List EventByte) → (KernelByte → List EventByte) → KernelByte → List EventByte
kernel_after (Some event) (Some range) points kernel byte = kernel_set (kernel byte) (λ k. points event.number (Byte k)) (place_in range byte)
kernel_after event range points kernel byte = kernel byte

abbrev pub with_kernel : Moved → (KernelByte → List EventByte) → Tracked EventByte → Whole
with_kernel moved kernel t = record { tracked = t; kernel = kernel_after moved.inside.event moved.outgoing t.points kernel }

-- the sets after a step
abbrev pub whole_after : Table → Moved → Whole → Whole
whole_after table moved w =
    with_kernel moved w.kernel (after table (given moved w) moved.inside.event moved.inside.transfer w.tracked)

abbrev pub whole_from : Table → List Moved → Whole → Whole
whole_from table [] w = w
whole_from table (moved ∷ list) w = whole_from table list (whole_after table moved w)

-- the sets of all bytes after the steps of a run
abbrev pub whole : Table → List Moved → Whole
whole table list = whole_from table list at_first
