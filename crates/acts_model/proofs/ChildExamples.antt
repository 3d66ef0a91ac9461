-- What a record tells of a child, and of a life, at literal values.
use Rattle.std.proofs.Common.{◌≡◌, ℕ, [], Option, Some, None, replicate, refl}
use Rattle.arn_base.specs.declared.records.Extra.{Extra}
use Rattle.arn_base.specs.declared.records.Extra.TheVariants as extra
use Rattle.arn_base.specs.declared.records.Record.TheVariants as entry
use Rattle.arn_base.specs.declared.records.Start.{Start}
use Rattle.acts_model.specs.Records.{Child, child_told, child_number, child_founded, child_start, BeginsLife, EndsLife, NoLife, life_told}

-- how a child begins
start : Start
start = record { cpu = record { x = replicate 31 0; pc = 0x10004 }; slot = None; blocks = [] }

-- -11 as a result
minus_11 : ℕ
minus_11 = 0xfffffffffffffff5

-- the child that a call of process 1 makes, by its number, result and extra
made : ℕ → ℕ → Extra → Option Child
made number result more = child_told (entry.Call 1 number result more)

-- a fork: a child that starts a group, exactly where there is a Start; none where it failed
tells-fork :
    (made 2 5 extra.Nothing ≡ Some (record { number = 5; start = None }))
    × (made 2 5 (extra.Start start) ≡ Some (record { number = 5; start = Some start }))
    × (made 2 minus_11 extra.Nothing ≡ None)
    × (made 2 minus_11 (extra.Start start) ≡ None)
    -- another call, with a Start too; an end by fault
    × (made 3 0 (extra.Start start) ≡ None)
    × (child_told (entry.End 1 139) ≡ None)
unfolding made minus_11 start
tells-fork = (refl, refl, refl, refl, refl, refl)

-- its number, that of one that starts a group, and how that begins
tells-parts :
    (child_number (made 2 5 extra.Nothing) ≡ Some 5)
    × (child_number (made 2 5 (extra.Start start)) ≡ Some 5)
    × (child_founded (made 2 5 extra.Nothing) ≡ None)
    × (child_founded (made 2 5 (extra.Start start)) ≡ Some 5)
    × (child_start (made 2 5 extra.Nothing) ≡ None)
    × (child_start (made 2 5 (extra.Start start)) ≡ Some start)
unfolding made start
tells-parts = (refl, refl, refl, refl, refl, refl)

-- an exit ends its process, also with a Start; a fork that succeeds begins its child, and one that failed begins none
tells-lives :
    (life_told (entry.Call 4 1 0 (extra.Start start)) ≡ EndsLife 4)
    × (life_told (entry.Call 4 2 5 extra.Nothing) ≡ BeginsLife 5)
    × (life_told (entry.Call 4 2 5 (extra.Start start)) ≡ BeginsLife 5)
    × (life_told (entry.Call 4 2 minus_11 extra.Nothing) ≡ NoLife)
unfolding start minus_11
tells-lives = (refl, refl, refl, refl)
