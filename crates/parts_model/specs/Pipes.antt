-- Pipes: a queue with a read end and a write end.
use Rattle.std.specs.Prelude.{ℕ, ◌-◌, nat_lt, ◌||◌, not, Bool, true, false, if◌then◌else◌, List, [], ◌∷◌, ◌++◌, length, take, min, Option, Some, None, option_and_then, option_map, slice_set}
use Rattle.parts_model.specs.declared.limits.TheConstants.{MOST_PIPES, MOST_PIPE_BYTES}
use Rattle.parts_model.specs.Numbered.{nth, how_many}
use Rattle.parts_model.specs.Channel.{Channel, no_bytes, put_behind, without_front}

-- a pipe: its queue, and which of its ends are open
pub record Pipe : Type 0 where
  pub channel : Channel
  pub has_reader : Bool
  pub has_writer : Bool

-- Pipes are numbered from 0 in the order of their making. One without ends is gone.
abbrev pub Pipes : Type 0
Pipes = List (Option Pipe)

-- one end of a pipe
pub data End : Type 0 where
  ReadEnd : End
  WriteEnd : End

-- a new pipe has both ends
abbrev pub new_pipe : Pipe
new_pipe = record { channel = no_bytes; has_reader = true; has_writer = true }

-- a pipe more
abbrev pub pipe_made : Pipes → Pipes
pipe_made pipes = pipes ++ Some new_pipe ∷ []

-- how many more pipes there may be
abbrev pub free_pipes : Pipes → ℕ
free_pipes pipes = MOST_PIPES - how_many pipes

-- how many more bytes the pipe takes
abbrev pub room : Pipe → ℕ
room pipe = MOST_PIPE_BYTES - length pipe.channel.queue

-- a write is ready where there is room, or nothing reads the pipe
abbrev pub can_put : Pipe → Bool
can_put pipe = nat_lt 0 (room pipe) || not pipe.has_reader

-- a read is ready where there is a byte, or nothing writes the pipe
abbrev pub can_take : Pipe → Bool
can_take pipe = nat_lt 0 (length pipe.channel.queue) || not pipe.has_writer

-- the pipe after bytes of an event were put into it, as many as there is room for
abbrev pub with_put : Pipe → List ℕ → ℕ → Pipe
with_put pipe bytes event = record pipe { channel = put_behind pipe.channel event (take (room pipe) bytes) }

-- the pipe after its first bytes were taken, at most so many
abbrev pub with_taken : Pipe → ℕ → Pipe
with_taken pipe most = record pipe { channel = without_front pipe.channel (min most (length pipe.channel.queue)) }

-- the pipe without an end; a pipe without ends is gone
abbrev pub if_open : Pipe → Option Pipe
if_open pipe = if pipe.has_reader || pipe.has_writer then Some pipe else None

abbrev pub without_end : End → Pipe → Option Pipe
without_end ReadEnd pipe = if_open (record pipe { has_reader = false })
without_end WriteEnd pipe = if_open (record pipe { has_writer = false })

-- the pipes with another state of one
abbrev pub with_pipe : Pipes → ℕ → Option Pipe → Pipes
with_pipe pipes n pipe = slice_set pipes n pipe

-- an end of a pipe is closed
abbrev pub end_closed : Pipes → ℕ → End → Pipes
end_closed pipes n end = with_pipe pipes n (option_and_then (without_end end) (nth pipes n))

-- a change of one pipe that is there
abbrev pub with_change : Pipes → ℕ → (Pipe → Pipe) → Pipes
with_change pipes n change = with_pipe pipes n (option_map change (nth pipes n))
