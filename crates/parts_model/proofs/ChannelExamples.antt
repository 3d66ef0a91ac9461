-- Channels at literal values.
use Rattle.std.proofs.Common.{◌≡◌, ℕ, [], ◌∷◌, refl}
use Rattle.parts_model.specs.declared.tagged.TaggedByte.{TaggedByte}
use Rattle.parts_model.specs.Channel.{Channel, no_bytes, channel_end, put_behind, front, without_front}

-- a byte of an event
byte : ℕ → ℕ → ℕ → TaggedByte
byte value event at = record { value = value; origin = record { event = event; at = at } }

-- two bytes of event 3, and behind them one of event 5
three_bytes : Channel
three_bytes = put_behind (put_behind no_bytes 3 (10 ∷ 11 ∷ [])) 5 (12 ∷ [])

channel :
    (three_bytes ≡ record { taken = 0; queue = byte 10 3 0 ∷ byte 11 3 1 ∷ byte 12 5 0 ∷ [] })
    × (front three_bytes 2 ≡ byte 10 3 0 ∷ byte 11 3 1 ∷ [])
    × (front three_bytes 9 ≡ byte 10 3 0 ∷ byte 11 3 1 ∷ byte 12 5 0 ∷ [])
    -- what has left the queue counts on: the place behind it stays
    × (without_front three_bytes 2 ≡ record { taken = 2; queue = byte 12 5 0 ∷ [] })
    × (channel_end (without_front three_bytes 2) ≡ 3)
unfolding three_bytes byte
channel = (refl, refl, refl, refl, refl)
