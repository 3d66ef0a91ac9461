-- Replies of devices at literal values.
use Rattle.std.proofs.Common.{◌≡◌, [], ◌∷◌, Some, None, true, false, refl}
use Rattle.arn_base.specs.declared.records.Record.TheVariants as entry
use Rattle.arn_base.specs.declared.records.Extra.TheVariants as extra
use Rattle.parts_model.specs.Replies.{GaveBytes, TookBytes, Failed, IsAbsent, IsHere, reply_named, Reads, ReadFails, ReadAbsent, to_read, Takes, WriteFails, WriteAbsent, to_write, is_here}

-- a read of at most two bytes: more than was asked is cut, and less stays
read :
    (to_read 2 (Some (GaveBytes (1 ∷ 2 ∷ 3 ∷ []))) ≡ Reads (1 ∷ 2 ∷ []))
    × (to_read 2 (Some (GaveBytes [])) ≡ Reads [])
    × (to_read 2 (Some Failed) ≡ ReadFails)
    -- a missing reply, or one of another kind, is that of a device that isn't there
    × (to_read 2 None ≡ ReadAbsent)
    × (to_read 2 (Some IsAbsent) ≡ ReadAbsent)
    × (to_read 2 (Some (TookBytes 2)) ≡ ReadAbsent)
    × (to_read 2 (Some IsHere) ≡ ReadAbsent)
read = (refl, refl, refl, refl, refl, refl, refl)

-- a write of two bytes
write :
    (to_write 2 (Some (TookBytes 3)) ≡ Takes 2)
    × (to_write 2 (Some (TookBytes 0)) ≡ Takes 0)
    × (to_write 2 (Some Failed) ≡ WriteFails)
    × (to_write 2 (Some (GaveBytes (1 ∷ 2 ∷ []))) ≡ WriteAbsent)
    × (to_write 2 None ≡ WriteAbsent)
write = (refl, refl, refl, refl, refl)

-- whether there is a device
device-replies :
    (is_here (Some IsHere) ≡ true)
    × (is_here None ≡ false)
    × (is_here (Some (TookBytes 1)) ≡ false)
    × (is_here (Some Failed) ≡ false)
    -- the reply that a record names
    × (reply_named (entry.Call 1 11 2 (extra.Reply 0 (8 ∷ 9 ∷ []))) ≡ Some (GaveBytes (8 ∷ 9 ∷ [])))
    × (reply_named (entry.Call 1 12 2 (extra.Sent 0 (8 ∷ 9 ∷ []))) ≡ Some (TookBytes 2))
    × (reply_named (entry.Call 1 11 0xfffffffffffffffb extra.Fault) ≡ Some Failed)
    × (reply_named (entry.Call 1 21 0xffffffffffffffed extra.Absent) ≡ Some IsAbsent)
device-replies = (refl, refl, refl, refl, refl, refl, refl, refl)

-- a `device` call that succeeds; one that is refused without a question; another call with the same result
named-device :
    (reply_named (entry.Call 1 21 3 extra.Nothing) ≡ Some IsHere)
    × (reply_named (entry.Call 1 21 0xffffffffffffffe8 extra.Nothing) ≡ None)
    × (reply_named (entry.Call 1 14 3 extra.Nothing) ≡ None)
    × (reply_named (entry.Slice 1 3) ≡ None)
named-device = (refl, refl, refl, refl)
