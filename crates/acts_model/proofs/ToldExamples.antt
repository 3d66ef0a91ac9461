-- What a record tells of an act, at literal values.
use Rattle.std.proofs.Common.{◌≡◌, ℕ, [], ◌∷◌, Option, Some, None, replicate, true, false, refl}
use Rattle.arn_base.specs.declared.machine.Cpu.{Cpu}
use Rattle.arn_base.specs.declared.records.Extra.{Extra}
use Rattle.arn_base.specs.declared.records.Extra.TheVariants as extra
use Rattle.arn_base.specs.declared.records.Record.TheVariants as entry
use Rattle.acts_model.specs.Acts.{Act, Returns, Receives, Gives, Starts, Forks, Founds, Shares, Leaves, Delivers, Exits, Faults, Dies}
use Rattle.acts_model.specs.Told.{act_of}

-- x10 to x13 are 0x10010, 0x10020, 0x10030 and 0x10040
cpu : Cpu
cpu = record { x = 0 ∷ 0 ∷ 0 ∷ 0 ∷ 0 ∷ 0 ∷ 0 ∷ 0 ∷ 0 ∷ 0x10010 ∷ 0x10020 ∷ 0x10030 ∷ 0x10040 ∷ replicate 18 0; pc = 0x10000 }

-- what a call's record with this number, result and extra tells
told : ℕ → ℕ → Extra → Option Act
told number result more = act_of cpu (entry.Call 1 number result more)

-- -22 and -11 as results
minus_22 : ℕ
minus_22 = 0xffffffffffffffea

minus_11 : ℕ
minus_11 = 0xfffffffffffffff5

-- two bytes of a typed piece
two_bytes : Extra
two_bytes = extra.Give (record { bytes = 7 ∷ 8 ∷ []; origins = record { event = 2; at = 0; len = 2 } ∷ [] })

-- how a child begins
child_start : Extra
child_start = extra.Start (record { cpu = cpu; slot = None; blocks = [] })

-- exit, with any result
tells-exit-and-fork :
    (told 1 0 extra.Nothing ≡ Some Exits)
    -- fork: a child that starts a group, exactly where there is a Start; none where it failed
    × (told 2 5 child_start ≡ Some (Founds 5))
    × (told 2 5 extra.Nothing ≡ Some (Forks 5))
    × (told 2 minus_11 extra.Nothing ≡ Some (Returns minus_11))
    × (told 2 minus_11 child_start ≡ Some (Returns minus_11))
unfolding told child_start minus_11
tells-exit-and-fork = (refl, refl, refl, refl, refl)

-- the least result that is an error, and the greatest that is none
tells-exec-and-wait :
    (told 2 0x7fffffffffffffff extra.Nothing ≡ Some (Forks 0x7fffffffffffffff))
    × (told 2 0x8000000000000000 extra.Nothing ≡ Some (Returns 0x8000000000000000))
    -- exec: its block is named by x12 and x13
    × (told 3 0 two_bytes ≡ Some (Starts (7 ∷ 8 ∷ []) 0x10030 0x10040))
    × (told 3 minus_22 extra.Nothing ≡ Some (Returns minus_22))
    -- wait: the status byte goes to x10
    × (told 4 5 (extra.Give (record { bytes = 7 ∷ []; origins = record { event = 4; at = 0; len = 1 } ∷ [] })) ≡ Some (Receives 0x10010 (7 ∷ []) 5))
    × (told 4 minus_22 extra.Nothing ≡ Some (Returns minus_22))
unfolding told two_bytes cpu minus_22
tells-exec-and-wait = (refl, refl, refl, refl, refl, refl)

-- read: the bytes go to x11, from the kernel or from a device
tells-read-and-write :
    (told 11 2 two_bytes ≡ Some (Receives 0x10020 (7 ∷ 8 ∷ []) 2))
    × (told 11 2 (extra.Reply 0 (7 ∷ 8 ∷ [])) ≡ Some (Receives 0x10020 (7 ∷ 8 ∷ []) 2))
    × (told 11 0 extra.Nothing ≡ Some (Returns 0))
    × (told 11 0xfffffffffffffffb extra.Fault ≡ Some (Returns 0xfffffffffffffffb))
    -- write: the bytes are those at x11
    × (told 12 2 (extra.Put 0 4 (7 ∷ 8 ∷ [])) ≡ Some (Gives 0x10020 2 2))
    × (told 12 2 (extra.Console (7 ∷ 8 ∷ [])) ≡ Some (Gives 0x10020 2 2))
    × (told 12 2 (extra.Sent 0 (7 ∷ 8 ∷ [])) ≡ Some (Gives 0x10020 2 2))
unfolding told two_bytes cpu
tells-read-and-write = (refl, refl, refl, refl, refl, refl, refl)

-- a write to a pipe has a result from 1 to 65,536
tells-pipe-write :
    (told 12 0 extra.Nothing ≡ Some (Returns 0))
    × (told 12 5 extra.Nothing ≡ Some (Gives 0x10020 5 5))
    × (told 12 65536 extra.Nothing ≡ Some (Gives 0x10020 65536 65536))
    × (told 12 65537 extra.Nothing ≡ Some (Returns 65537))
    × (told 12 minus_22 extra.Nothing ≡ Some (Returns minus_22))
    × (told 12 0xffffffffffffffed extra.Absent ≡ Some (Returns 0xffffffffffffffed))
unfolding told cpu minus_22
tells-pipe-write = (refl, refl, refl, refl, refl, refl)

-- sigreturn and shm succeed exactly with 0
tells-results :
    (told 8 0 extra.Nothing ≡ Some Leaves)
    × (told 8 minus_22 extra.Nothing ≡ Some (Returns minus_22))
    × (told 17 0 extra.Nothing ≡ Some Shares)
    × (told 17 minus_22 extra.Nothing ≡ Some (Returns minus_22))
    -- on a call to which it doesn't belong an extra does nothing: a Give on getpid or write, a Start on dup, a Console on read
    × (told 5 3 two_bytes ≡ Some (Returns 3))
    × (told 12 2 two_bytes ≡ Some (Returns 2))
    × (told 14 3 child_start ≡ Some (Returns 3))
    × (told 11 2 (extra.Console (7 ∷ 8 ∷ [])) ≡ Some (Returns 2))
    × (told 2 5 two_bytes ≡ Some (Forks 5))
unfolding told minus_22 two_bytes child_start
tells-results = (refl, refl, refl, refl, refl, refl, refl, refl, refl)

-- a call that there isn't
tells-deaths :
    (told 99 0xffffffffffffffda extra.Nothing ≡ Some (Returns 0xffffffffffffffda))
    -- a delivery: without a handler the process dies
    × (act_of cpu (entry.Signal 1 2 false 0x10008) ≡ Some (Delivers 2 0x10008 false))
    × (act_of cpu (entry.Signal 1 2 true 0x10008) ≡ Some (Delivers 2 0x10008 true))
    × (act_of cpu (entry.Signal 1 2 true 0) ≡ Some (Dies 2 true))
    -- an end by fault; a boot, which has no block
    × (act_of cpu (entry.End 1 139) ≡ Some (Faults 139))
    × (act_of cpu (entry.Boot (97 ∷ []) (record { bytes = 7 ∷ []; origins = record { event = 0; at = 0; len = 1 } ∷ [] })) ≡ Some (Starts (7 ∷ []) 0 0))
unfolding told
tells-deaths = (refl, refl, refl, refl, refl, refl)

-- what comes from outside, and a slice, are no process's act
tells-none :
    (act_of cpu (entry.File (97 ∷ []) (7 ∷ [])) ≡ None)
    × (act_of cpu (entry.Typed (7 ∷ [])) ≡ None)
    × (act_of cpu (entry.Unplug 0) ≡ None)
    × (act_of cpu (entry.Slice 1 9) ≡ None)
tells-none = (refl, refl, refl, refl)
