-- Pipes at literal values.
use Rattle.std.proofs.Common.{◌≡◌, ℕ, [], ◌∷◌, Some, None, length, replicate, Bool, true, false, refl}
use Rattle.parts_model.specs.declared.tagged.TaggedByte.{TaggedByte}
use Rattle.parts_model.specs.Channel.{no_bytes}
use Rattle.parts_model.specs.Pipes.{Pipe, ReadEnd, WriteEnd, new_pipe, pipe_made, free_pipes, room, can_put, can_take, with_put, with_taken, end_closed}

-- a byte of an event
byte : ℕ → ℕ → ℕ → TaggedByte
byte value event at = record { value = value; origin = record { event = event; at = at } }

-- a pipe with so many bytes, and a reader or none, a writer or none
pipe_with : ℕ → Bool → Bool → Pipe
pipe_with count reader writer = record { channel = record { taken = 0; queue = replicate count (byte 1 0 0) }; has_reader = reader; has_writer = writer }

-- a pipe holds 4,096 bytes: a write to a full one is ready where nothing reads it, which refuses the write
pipe-room :
    (room (pipe_with 4096 true true) ≡ 0)
    × (can_put (pipe_with 4096 true true) ≡ false)
    × (can_put (pipe_with 4096 false true) ≡ true)
    × (can_put (pipe_with 4095 true true) ≡ true)
    -- of two bytes it takes the one for which there is room
    × (length (with_put (pipe_with 4095 true true) (7 ∷ 8 ∷ []) 5).channel.queue ≡ 4096)
unfolding pipe_with byte
pipe-room = (refl, refl, refl, refl, refl)

-- a read of an empty pipe is ready where nothing writes it
pipe-take :
    (can_take (pipe_with 0 true true) ≡ false)
    × (can_take (pipe_with 0 true false) ≡ true)
    × (can_take (pipe_with 1 true true) ≡ true)
    -- at most what is there is taken
    × ((with_taken (pipe_with 3 true true) 2).channel ≡ record { taken = 2; queue = byte 1 0 0 ∷ [] })
    × ((with_taken (pipe_with 3 true true) 9).channel ≡ record { taken = 3; queue = [] })
unfolding pipe_with byte
pipe-take = (refl, refl, refl, refl, refl)

-- a pipe with one end stays, one without ends is gone, and its number isn't given again
pipe-ends :
    (end_closed (Some new_pipe ∷ []) 0 ReadEnd ≡ Some (record { channel = no_bytes; has_reader = false; has_writer = true }) ∷ [])
    × (end_closed (end_closed (Some new_pipe ∷ Some new_pipe ∷ []) 0 ReadEnd) 0 WriteEnd ≡ None ∷ Some new_pipe ∷ [])
    × (pipe_made (None ∷ []) ≡ None ∷ Some (record { channel = no_bytes; has_reader = true; has_writer = true }) ∷ [])
    -- there may be 64; one that is gone doesn't count
    × (free_pipes (replicate 64 (Some new_pipe)) ≡ 0)
    × (free_pipes (None ∷ replicate 63 (Some new_pipe)) ≡ 1)
pipe-ends = (refl, refl, refl, refl, refl)
