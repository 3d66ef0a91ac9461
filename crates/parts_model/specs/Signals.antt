-- The signals of one process: its handlers, those that are pending, and the save slot.
use Rattle.std.specs.Prelude.{ℕ, ◌+◌, ◌-◌, ◌%◌, ◌==◌, nat_le, ◌&&◌, not, Bool, true, false, if◌then◌else◌, List, [], ◌∷◌, replicate, Option, Some, None, is_some, unwrap_or, slice_get, slice_set}
use Rattle.arn_base.specs.declared.machine.Cpu.{Cpu}
use Rattle.parts_model.specs.declared.limits.TheConstants.{GREATEST_SIGNAL, KILL_SIGNAL}

-- For each signal from 1 on its handler's address, 0 where it has none, and whether it is pending; and the registers that a handler's
-- return restores, where one runs
pub record Signals : Type 0 where
  pub handlers : List ℕ
  pub pending : List Bool
  pub slot : Option Cpu

-- no handler, nothing pending, nothing saved
abbrev pub no_handlers : List ℕ
no_handlers = replicate GREATEST_SIGNAL 0

abbrev pub none_pending : List Bool
none_pending = replicate GREATEST_SIGNAL false

abbrev pub no_signals : Signals
no_signals = record { handlers = no_handlers; pending = none_pending; slot = None }

-- signals are 1 to 31
abbrev pub is_signal : ℕ → Bool
is_signal signal = nat_le 1 signal && nat_le signal GREATEST_SIGNAL

-- a handler may be set for any signal but 9; its address is a multiple of 4
abbrev pub can_set : ℕ → ℕ → Bool
can_set signal handler = is_signal signal && (not (signal == KILL_SIGNAL) && (handler % 4 == 0))

-- a signal's handler, 0 where it has none
abbrev pub handler_of : List ℕ → ℕ → ℕ
handler_of handlers signal = unwrap_or (slice_get handlers (signal - 1)) 0

-- the signal is pending
abbrev pub is_pending : List Bool → ℕ → Bool
is_pending pending signal = unwrap_or (slice_get pending (signal - 1)) false

-- the lowest that is pending, from a number on
abbrev pub lowest_from : ℕ → List Bool → Option ℕ
lowest_from signal [] = None
lowest_from signal (true ∷ pending) = Some signal
lowest_from signal (false ∷ pending) = lowest_from (signal + 1) pending

-- the due signal: 9 where it is pending; else, while the slot is empty, the lowest that is
abbrev pub due : List Bool → Bool → Option ℕ
due pending has_slot =
    if is_pending pending KILL_SIGNAL then Some KILL_SIGNAL else if has_slot then None else lowest_from 1 pending

abbrev pub due_signal : Signals → Option ℕ
due_signal s = due s.pending (is_some s.slot)

-- with a handler
abbrev pub with_handler : List ℕ → ℕ → ℕ → List ℕ
with_handler handlers signal handler = slice_set handlers (signal - 1) handler

-- with one more that is pending, or one fewer
abbrev pub with_pending : List Bool → ℕ → Bool → List Bool
with_pending pending signal is_pending = slice_set pending (signal - 1) is_pending

-- without the due signal
abbrev pub without : List Bool → Option ℕ → List Bool
without pending None = pending
without pending (Some signal) = with_pending pending signal false
