-- Turns of processes, and signals that were delivered to them.
use Rattle.std.specs.Prelude.{◌≡◌, ℕ, ◌<◌, ◌≤◌, ◌^◌, List, ◌++◌}
use Rattle.schedule_log.specs.declared.signals.Delivery.{Delivery}
use Rattle.schedule_log.specs.declared.signals.TheConstants.{MOST_SIGNAL}
use Rattle.schedule_log.specs.Fields.{field, flag_field}
use Rattle.schedule_log.specs.Places.{Stands}

-- a slice: the process, and how many instructions it ran
abbrev pub slice_spelling : ℕ → ℕ → List ℕ
slice_spelling pid ran = field 1 5 ++ field 4 pid ++ field 4 ran

-- a delivery: the process, the signal, whether it ended a call, and the handler
abbrev pub signal_spelling : Delivery → List ℕ
signal_spelling d = field 1 6 ++ field 4 d.pid ++ field 1 d.signal ++ flag_field d.cut ++ field 8 d.handler

-- the numbers of signals
abbrev pub IsSignal : ℕ → Type 0
IsSignal signal = (1 ≤ signal) × (signal ≤ MOST_SIGNAL)

-- the numbers of a slice fit their fields
abbrev pub FitsSlice : ℕ → ℕ → Type 0
FitsSlice pid ran = (pid < 2 ^ 32) × (ran < 2 ^ 32)

-- the numbers of a delivery fit their fields
abbrev pub FitsDelivery : Delivery → Type 0
FitsDelivery d = (d.pid < 2 ^ 32) × (d.handler < 2 ^ 64)

-- the bytes begin with a slice
pub record BeginsSlice (bytes : List ℕ) (pid ran : ℕ) (rest : List ℕ) : Type 0 where
  pub fits : FitsSlice pid ran
  pub is_bytes : bytes ≡ slice_spelling pid ran ++ rest

-- the bytes begin with the number of a signal
pub record BeginsNumber (bytes : List ℕ) (signal : ℕ) (rest : List ℕ) : Type 0 where
  pub is_signal : IsSignal signal
  pub is_bytes : bytes ≡ field 1 signal ++ rest

-- the bytes begin with a delivery
pub record BeginsSignal (bytes : List ℕ) (d : Delivery) (rest : List ℕ) : Type 0 where
  pub is_signal : IsSignal d.signal
  pub fits : FitsDelivery d
  pub is_bytes : bytes ≡ signal_spelling d ++ rest

-- the bytes from `at` to `next` are the spelling of a slice
pub record ReadsSlice (bytes : List ℕ) (at pid ran next : ℕ) : Type 0 where
  pub fits : FitsSlice pid ran
  pub stands : Stands bytes at (slice_spelling pid ran) next

-- the bytes from `at` to `next` are the spelling of a delivery
pub record ReadsSignal (bytes : List ℕ) (at : ℕ) (d : Delivery) (next : ℕ) : Type 0 where
  pub is_signal : IsSignal d.signal
  pub fits : FitsDelivery d
  pub stands : Stands bytes at (signal_spelling d) next

-- no slice is spelled at the place
abbrev pub IsNoSlice : List ℕ → ℕ → Type 0
IsNoSlice bytes at = (pid ran next : ℕ) → ¬ ReadsSlice bytes at pid ran next

-- no delivery is spelled at the place
abbrev pub IsNoSignal : List ℕ → ℕ → Type 0
IsNoSignal bytes at = (d : Delivery) (next : ℕ) → ¬ ReadsSignal bytes at d next
