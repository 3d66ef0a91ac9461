-- Queues of tagged bytes: the console's, and those of pipes.
use Rattle.std.specs.Prelude.{ℕ, ◌+◌, List, [], ◌++◌, length, take, drop}
use Rattle.parts_model.specs.declared.tagged.TaggedByte.{TaggedByte}
use Rattle.parts_model.specs.Tagged.{held_bytes}

-- a queue, and how many bytes have left it since it was made: position n of the channel is byte n - taken of the queue
pub record Channel : Type 0 where
  pub taken : ℕ
  pub queue : List TaggedByte

-- a new one
abbrev pub no_bytes : Channel
no_bytes = record { taken = 0; queue = [] }

-- the position behind the queue
abbrev pub channel_end : Channel → ℕ
channel_end channel = channel.taken + length channel.queue

-- bytes of an event go behind the queue
abbrev pub put_behind : Channel → ℕ → List ℕ → Channel
put_behind channel event bytes = record channel { queue = channel.queue ++ held_bytes event bytes }

-- the first bytes, at most so many
abbrev pub front : Channel → ℕ → List TaggedByte
front channel most = take most channel.queue

-- the channel without its first n bytes, of at least so many
abbrev pub without_front : Channel → ℕ → Channel
without_front channel n = record { taken = channel.taken + n; queue = drop n channel.queue }
