-- How a handler begins.
use Rattle.std.specs.Prelude.{ℕ, List, slice_set, Option, Some, None}
use Rattle.arn_base.specs.declared.machine.Cpu.{Cpu}
use Rattle.parts_model.specs.Signals.{Signals, handler_of, due_signal}

-- the handler of the signal that there may be, 0 without one
abbrev pub handler_for : List ℕ → Option ℕ → ℕ
handler_for handlers None = 0
handler_for handlers (Some signal) = handler_of handlers signal

-- the handler of the due signal, 0 where none is due or it has none
abbrev pub due_handler : Signals → ℕ
due_handler s = handler_for s.handlers (due_signal s)

-- the registers at a handler's first instruction: x10 is the signal
abbrev pub handling : Cpu → ℕ → ℕ → Cpu
handling cpu signal handler = record { x = slice_set cpu.x 9 signal; pc = handler }
