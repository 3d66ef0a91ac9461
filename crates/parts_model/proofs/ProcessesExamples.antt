-- The table of processes at literal values.
use Rattle.std.proofs.Common.{◌≡◌, ℕ, [], ◌∷◌, Option, Some, None, replicate, true, false, refl}
use Rattle.parts_model.specs.declared.tagged.TaggedByte.{TaggedByte}
use Rattle.parts_model.specs.Processes.{Process, Processes, Life, Live, Ended, none_open, is_full, next_process, booted, forked, live, live_process, ended, children, ended_children, status_of, reaped, free_descriptors, lowest_free, with_descriptor, placed}

-- a status byte of an event
status : ℕ → ℕ → TaggedByte
status value event = record { value = value; origin = record { event = event; at = 0 } }

-- a process with a parent or none, that has nothing open
child : Life → Option ℕ → Option Process
child life parent = Some (record { life = life; parent = parent; descriptors = none_open })

-- process 1 with children 2 and 3, and child 4 of process 2
four : Processes
four = forked (forked (forked (booted []) 1) 1) 2

parents : four ≡ child Live None ∷ child Live (Some 1) ∷ child Live (Some 1) ∷ child Live (Some 2) ∷ []
unfolding four child
parents = refl

next : next_process four ≡ 5
unfolding four
next = refl

children-left :
    (children four 1 ≡ 2 ∷ 3 ∷ [])
    -- an ended process whose parent lives stays, and its own child has no parent from then on
    × (ended four 2 (status 7 9) ≡ child Live None ∷ child (Ended (status 7 9)) (Some 1) ∷ child Live (Some 1) ∷ child Live None ∷ [])
    -- an ended child whose parent ends is gone, and so is the parent, which has none
    × (ended (ended four 2 (status 7 9)) 1 (status 0 12) ≡ None ∷ None ∷ child Live None ∷ child Live None ∷ [])
    -- a process without a parent is gone as it ends
    × (ended (ended four 2 (status 7 9)) 4 (status 0 12) ≡ child Live None ∷ child (Ended (status 7 9)) (Some 1) ∷ child Live (Some 1) ∷ None ∷ [])
    × (live (ended four 2 (status 7 9)) ≡ 1 ∷ 3 ∷ 4 ∷ [])
    × (live_process (ended four 2 (status 7 9)) 2 ≡ None)
unfolding four child status
children-left = (refl, refl, refl, refl, refl, refl)

-- the ended children in order of number, whichever ended first
ended-children :
    (ended_children (ended (ended four 3 (status 5 8)) 2 (status 7 9)) 1 ≡ 2 ∷ 3 ∷ [])
    × (status_of (ended four 2 (status 7 9)) 2 ≡ Some (status 7 9))
    -- a child that was waited for is gone
    × (children (reaped (ended four 2 (status 7 9)) 2) 1 ≡ 3 ∷ [])
    -- a number isn't given again
    × (next_process (reaped (ended four 2 (status 7 9)) 2) ≡ 5)
    -- 64 that are live or stay ended are as many as there may be; one that is gone doesn't count
    × (is_full (child Live None ∷ replicate 63 (child (Ended (status 0 1)) (Some 1))) ≡ true)
    × (is_full (None ∷ replicate 63 (child Live None)) ≡ false)
unfolding four status child
ended-children = (refl, refl, refl, refl, refl, refl)

-- descriptors 0 and 2 are open: the next is 1, then 3
two_open : Process
two_open = with_descriptor 2 (Some 4) (with_descriptor 0 (Some 4) (record { life = Live; parent = None; descriptors = none_open }))

free-descriptors :
    (lowest_free two_open ≡ Some 1)
    × (lowest_free (placed 9 two_open) ≡ Some 3)
    × (free_descriptors two_open ≡ 14)
    -- sixteen are as many as there may be
    × (lowest_free (record { life = Live; parent = None; descriptors = replicate 16 (Some 4) }) ≡ None)
unfolding two_open
free-descriptors = (refl, refl, refl, refl)
