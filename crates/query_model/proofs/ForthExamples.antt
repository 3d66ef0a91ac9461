-- What a query forward asks and answers, at literal values.
use Rattle.std.proofs.Common.{◌≡◌, ℕ, List, [], ◌∷◌, Some, None, map, replicate, codes, true, false, refl}
use Rattle.arn_base.specs.declared.records.Extra.{Extra}
use Rattle.arn_base.specs.declared.records.Extra.TheVariants as extra
use Rattle.arn_base.specs.declared.records.Give.{Give}
use Rattle.arn_base.specs.declared.records.Record.{Record}
use Rattle.arn_base.specs.declared.records.Record.TheVariants as entry
use Rattle.lineage_model.specs.Flow.{At, Byte}
use Rattle.lineage_model.specs.Joined.{Reaching}
use Rattle.lineage_model.specs.Tracking.{EventByte}
use Rattle.query_model.specs.Forth.{first_groups, forth_groups}
use Rattle.query_model.specs.Sinks.{is_sink, sinks_reached}

-- bytes that came from one place
from : List ℕ → ℕ → ℕ → ℕ → Give
from bytes event at len = record { bytes = bytes; origins = record { event = event; at = at; len = len } ∷ [] }

child_start : Extra
child_start = extra.Start (record { cpu = record { x = replicate 31 0; pc = 0x10004 }; slot = None; blocks = [] })

-- Three bytes are typed. Process 1 reads two of them, forks process 2, which starts a group, and writes a byte to the console. Process 2
-- writes a byte to the console.
told : List Record
told =
    entry.File (codes "p") (1 ∷ 2 ∷ [])
    ∷ entry.Boot (codes "p") (from (1 ∷ 2 ∷ []) 0 0 2)
    ∷ entry.Typed (97 ∷ 98 ∷ 99 ∷ [])
    ∷ entry.Slice 1 5
    ∷ entry.Call 1 11 2 (extra.Give (from (97 ∷ 98 ∷ []) 2 0 2))
    ∷ entry.Slice 1 3
    ∷ entry.Call 1 2 2 child_start
    ∷ entry.Slice 1 2
    ∷ entry.Call 1 12 1 (extra.Console (97 ∷ []))
    ∷ entry.Slice 2 6
    ∷ entry.Call 2 12 1 (extra.Console (98 ∷ []))
    ∷ []

-- the typed bytes came to group 1, but for the last; without a byte nothing came; and bytes that were read are no source bytes
came :
    (first_groups told 2 0 2 ∷ first_groups told 2 1 2 ∷ first_groups told 2 2 1 ∷ first_groups told 2 1 0 ∷ first_groups told 3 0 1 ∷ [] ≡ (1 ∷ []) ∷ (1 ∷ []) ∷ [] ∷ [] ∷ [] ∷ [])
    -- and on to the child's
    × (forth_groups told 2 0 1 ∷ forth_groups told 0 0 1 ∷ forth_groups told 2 2 1 ∷ [] ≡ (1 ∷ 2 ∷ []) ∷ (1 ∷ 2 ∷ []) ∷ [] ∷ [])
unfolding told child_start from
came = (refl, refl)

-- process 1 reads two bytes from a device
read : List Record
read =
    entry.File (codes "p") (1 ∷ 2 ∷ [])
    ∷ entry.Boot (codes "p") (from (1 ∷ 2 ∷ []) 0 0 2)
    ∷ entry.Slice 1 4
    ∷ entry.Call 1 11 2 (extra.Reply 0 (7 ∷ 8 ∷ []))
    ∷ []

-- its own group had them first, if a byte is asked
forth-edges :
    (first_groups read 2 1 1 ∷ first_groups read 2 1 0 ∷ [] ≡ (1 ∷ []) ∷ [] ∷ [])
    -- writes to a file, the console or a device are sinks; a write to a pipe isn't, and nor is a read
    × (map is_sink (entry.Call 1 12 1 (extra.Put 0 0 (7 ∷ [])) ∷ entry.Call 1 12 1 (extra.Sent 0 (7 ∷ [])) ∷ entry.Call 1 12 1 extra.Nothing ∷ entry.Call 1 11 1 (extra.Reply 0 (7 ∷ [])) ∷ []) ≡ true ∷ true ∷ false ∷ false ∷ [])
unfolding read from
forth-edges = (refl, refl)

-- where byte 0 of event 2 reaches every byte
first_typed : Reaching
first_typed n at = record { event = 2; at = Byte 0 } ∷ []

-- the bytes of the writes of these groups are reached by it, and by no other
reaches-writes : sinks_reached told (1 ∷ 2 ∷ []) first_typed 2 0 ∷ sinks_reached told (2 ∷ []) first_typed 2 0 ∷ sinks_reached told (1 ∷ 2 ∷ []) first_typed 2 1 ∷ [] ≡ (record { event = 5; at = Byte 0 } ∷ record { event = 6; at = Byte 0 } ∷ []) ∷ (record { event = 6; at = Byte 0 } ∷ []) ∷ [] ∷ []
unfolding told child_start from first_typed
reaches-writes = refl
