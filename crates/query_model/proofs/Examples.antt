-- What a lineage query asks and answers, at literal values.
use Rattle.std.proofs.Common.{◌≡◌, ℕ, List, [], ◌∷◌, Some, None, map, replicate, codes, true, false, refl}
use Rattle.arn_base.specs.declared.records.Extra.{Extra}
use Rattle.arn_base.specs.declared.records.Extra.TheVariants as extra
use Rattle.arn_base.specs.declared.records.Give.{Give}
use Rattle.arn_base.specs.declared.records.Record.{Record}
use Rattle.arn_base.specs.declared.records.Record.TheVariants as entry
use Rattle.rv64_model.specs.Carries.{Table}
use Rattle.query_model.specs.Answers.{count_in, event_disagreement, event_groups, event_pairs, first_disagreement, moment_of}
use Rattle.query_model.specs.Linked.{groups_back, is_linked, within_links}

-- bytes that came from one place
from : List ℕ → ℕ → ℕ → ℕ → Give
from bytes event at len = record { bytes = bytes; origins = record { event = event; at = at; len = len } ∷ [] }

-- how a child begins
child_start : Extra
child_start = extra.Start (record { cpu = record { x = replicate 31 0; pc = 0x10004 }; slot = None; blocks = [] })

-- Process 1 reads two typed bytes, forks process 2, which starts a group, and writes a byte to a pipe. Process 2 reads the byte, and forks
-- process 3, which starts a group.
told : List Record
told =
    entry.File (codes "p") (1 ∷ 2 ∷ [])
    ∷ entry.Boot (codes "p") (from (1 ∷ 2 ∷ []) 0 0 2)
    ∷ entry.Typed (97 ∷ 98 ∷ [])
    ∷ entry.Slice 1 5
    ∷ entry.Call 1 11 2 (extra.Give (from (97 ∷ 98 ∷ []) 2 0 2))
    ∷ entry.Slice 1 3
    ∷ entry.Call 1 2 2 child_start
    ∷ entry.Slice 1 2
    ∷ entry.Call 1 12 1 extra.Nothing
    ∷ entry.Slice 2 6
    ∷ entry.Call 2 11 1 (extra.Give (from (97 ∷ []) 5 0 1))
    ∷ entry.Slice 2 4
    ∷ entry.Call 2 2 3 child_start
    ∷ []

-- links lead from the group of a fork or of an origin, and never from events of no process
groups-asked :
    (is_linked told 1 2 ∷ is_linked told 2 1 ∷ is_linked told 2 3 ∷ is_linked told 1 3 ∷ is_linked told 0 1 ∷ is_linked told 1 1 ∷ [] ≡ true ∷ false ∷ true ∷ false ∷ false ∷ false ∷ [])
    -- group 1 is two links from group 3
    × (within_links told (3 ∷ []) 0 3 ∷ within_links told (3 ∷ []) 0 2 ∷ within_links told (3 ∷ []) 1 2 ∷ within_links told (3 ∷ []) 1 1 ∷ within_links told (3 ∷ []) 2 1 ∷ [] ≡ true ∷ false ∷ true ∷ false ∷ true ∷ [])
    × (groups_back told (3 ∷ []) ≡ 1 ∷ 2 ∷ 3 ∷ [])
    × (groups_back told (1 ∷ []) ≡ 1 ∷ [])
    -- what isn't a group is none
    × (groups_back told (4 ∷ []) ≡ [])
unfolding told child_start from
groups-asked = (refl, refl, refl, refl, refl)

-- a typed piece is of no process; the read of process 2 is of group 2
events-asked :
    (map (event_groups told) (2 ∷ 3 ∷ 6 ∷ 8 ∷ []) ≡ [] ∷ (1 ∷ []) ∷ (1 ∷ 2 ∷ []) ∷ [] ∷ [])
    -- an event behind the last has no moment
    × (map (moment_of told) (0 ∷ 3 ∷ 4 ∷ 6 ∷ 7 ∷ 8 ∷ []) ≡ 0 ∷ 5 ∷ 8 ∷ 16 ∷ 20 ∷ 0 ∷ [])
    -- groups 1 and 2 count ten instructions each, and group 3 none
    × (map (count_in told) ((1 ∷ []) ∷ (2 ∷ 1 ∷ []) ∷ (3 ∷ []) ∷ [] ∷ []) ≡ 10 ∷ 20 ∷ 0 ∷ 0 ∷ [])
unfolding told child_start from
events-asked = (refl, refl, refl)

no_operands : Table
no_operands instr i = []

-- bytes of the outside are their own sources, from a place on, and none behind the end
bytes-asked :
    (event_pairs no_operands told 2 0 2 ≡ record { event = 2; at = 0; byte = 0 } ∷ record { event = 2; at = 1; byte = 1 } ∷ [])
    × (event_pairs no_operands told 2 1 2 ≡ record { event = 2; at = 1; byte = 0 } ∷ [])
    -- the file isn't an image, of which it has two bytes: group 1 disagrees at its boot
    × (event_disagreement told 3 ≡ Some (record { event = 1; said = 2; found = 0 }))
    × (first_disagreement told 20 [] ≡ None)
unfolding told child_start from
bytes-asked = (refl, refl, refl, refl)
