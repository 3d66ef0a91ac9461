-- What acts do to a process, and to bodies, at literal values.
use Rattle.std.proofs.Common.{◌≡◌, ℕ, List, [], ◌∷◌, ◌++◌, length, take, drop, Option, Some, None, option_map, replicate, codes, true, false, refl}
use Rattle.arn_base.specs.declared.machine.Cpu.{Cpu}
use Rattle.rv64_model.specs.Registers.{with_register}
use Rattle.parts_model.specs.Blocks.{used_blocks, with_blocks}
use Rattle.parts_model.specs.Memory.{zeros}
use Rattle.acts_model.specs.Acts.{Returns, Receives, Gives, Starts, Forks, Founds, Shares, Leaves, Delivers, Exits, Faults, Dies, acted, done, founded, beginning_of, beginning_in, start_of}
use Rattle.acts_model.specs.Bodies.{Body, Bodies, View, nobody, seen, body_at, memory_at, put, remove}
use Rattle.acts_model.specs.Views.{cpu_at}

-- a process that stands at 0x10000 with 9 in x10, and sees these bytes, in memories that events 4 and 6 made
sees : Cpu → Option Cpu → List ℕ → List ℕ → View
sees cpu slot window segment = record { body = record { cpu = cpu; slot = slot; window = 4; segment = Some 6 }; window = window; segment = segment }

nine : Cpu
nine = with_register (cpu_at 0x10000) 10 9

before : View
before = sees nine None (1 ∷ 2 ∷ 3 ∷ 4 ∷ []) (5 ∷ 6 ∷ [])

-- behind a call, with a result in x10
behind : ℕ → Cpu
behind result = with_register (cpu_at 0x10004) 10 result

returned : acted 8 (Returns 3) before ≡ Some (sees (behind 3) None (1 ∷ 2 ∷ 3 ∷ 4 ∷ []) (5 ∷ 6 ∷ []))
unfolding before sees nine behind
returned = refl

received : acted 8 (Receives 0x10002 (7 ∷ 8 ∷ []) 2) before ≡ Some (sees (behind 2) None (1 ∷ 2 ∷ 7 ∷ 8 ∷ []) (5 ∷ 6 ∷ []))
unfolding before sees nine behind
received = refl

acts-keep :
    (acted 8 (Receives 0x80000001 (7 ∷ []) 1) before ≡ Some (sees (behind 1) None (1 ∷ 2 ∷ 3 ∷ 4 ∷ []) (5 ∷ 7 ∷ [])))
    × (acted 8 (Gives 0x10002 2 2) before ≡ Some (sees (behind 2) None (1 ∷ 2 ∷ 3 ∷ 4 ∷ []) (5 ∷ 6 ∷ [])))
    × (acted 8 (Forks 3) before ≡ Some (sees (behind 3) None (1 ∷ 2 ∷ 3 ∷ 4 ∷ []) (5 ∷ 6 ∷ [])))
    × (acted 8 (Founds 3) before ≡ Some (sees (behind 3) None (1 ∷ 2 ∷ 3 ∷ 4 ∷ []) (5 ∷ 6 ∷ [])))
    -- a delivery: x10 is the signal and pc the handler, and the slot keeps what was interrupted
    × (acted 8 (Delivers 2 0x10020 false) before ≡ Some (sees (with_register (cpu_at 0x10020) 10 2) (Some nine) (1 ∷ 2 ∷ 3 ∷ 4 ∷ []) (5 ∷ 6 ∷ [])))
unfolding before sees nine behind
acts-keep = (refl, refl, refl, refl, refl)

-- at a call that isn't ready, that call first ends with -4
acts-end :
    (acted 8 (Delivers 2 0x10020 true) before ≡ Some (sees (with_register (cpu_at 0x10020) 10 2) (Some (behind 0xfffffffffffffffc)) (1 ∷ 2 ∷ 3 ∷ 4 ∷ []) (5 ∷ 6 ∷ [])))
    -- the return from it restores the registers and pc, and empties the slot
    × (acted 8 Leaves (sees (cpu_at 0x10024) (Some nine) [] []) ≡ Some (sees nine None [] []))
    -- ends
    × (acted 8 Exits before ≡ None)
    × (acted 8 (Faults 139) before ≡ None)
    × (acted 8 (Dies 2 false) before ≡ None)
unfolding before sees nine behind
acts-end = (refl, refl, refl, refl, refl)

-- a fresh segment of 65,536 zeros, named by the event
lonely : View
lonely = record { body = record { cpu = nine; slot = None; window = 4; segment = None }; window = 1 ∷ []; segment = [] }

shared : acted 8 Shares lonely ≡ Some (record { body = record { cpu = behind 0; slot = None; window = 4; segment = Some 8 }; window = 1 ∷ []; segment = replicate 65536 0 })
unfolding lonely nine behind zeros
shared = refl

-- a start at 0x10008 from an image of one word at 0x10004, with a block of three bytes from 0x10001: the slot is empty, and the segment gone
image : List ℕ
image = codes "ARNIMG01" ++ (8 ∷ 0 ∷ 1 ∷ 0 ∷ 0 ∷ 0 ∷ 0 ∷ 0 ∷ 4 ∷ 0 ∷ 1 ∷ 0 ∷ 0 ∷ 0 ∷ 0 ∷ 0 ∷ 0x73 ∷ 0x74 ∷ 0x75 ∷ 0x76 ∷ [])

start : Option View
start = acted 8 (Starts image 0x10001 3) (sees nine (Some nine) (1 ∷ 2 ∷ 3 ∷ 4 ∷ []) (5 ∷ 6 ∷ []))

-- x10 is the block's address, x11 its length, x2 that address rounded down to a multiple of 16
started :
    (option_map (λ v. v.body) start ≡
    Some (record {
      cpu = with_register (with_register (with_register (cpu_at 0x10008) 10 0x4fffd) 11 3) 2 0x4fff0;
      slot = None;
      window = 8;
      segment = None;
    }))
    -- zeros but for the body and the block
    × (option_map (λ v. take 9 v.window) start ≡ Some (0 ∷ 0 ∷ 0 ∷ 0 ∷ 0x73 ∷ 0x74 ∷ 0x75 ∷ 0x76 ∷ 0 ∷ []))
    × (option_map (λ v. drop 262140 v.window) start ≡ Some (0 ∷ 2 ∷ 3 ∷ 4 ∷ []))
unfolding start sees nine image
started = (refl, refl, refl)

-- process 1 with a filled slot, and process 2, which share the segment of event 6
one : Body
one = record { cpu = nine; slot = Some (cpu_at 0x10040); window = 4; segment = Some 6 }

two : Body
two = record { cpu = cpu_at 0x10080; slot = None; window = 5; segment = Some 6 }

bodies : Bodies
bodies =
    put 1 (record { body = one; window = 1 ∷ 2 ∷ []; segment = 5 ∷ 6 ∷ [] })
    (put 2 (record { body = two; window = 3 ∷ 4 ∷ []; segment = 5 ∷ 6 ∷ [] }) nobody)

-- what a process with these registers and a filled slot sees
child_sees : ℕ → Cpu → Option ℕ → List ℕ → View
child_sees window cpu segment bytes =
    record { body = record { cpu = cpu; slot = Some (cpu_at 0x10040); window = window; segment = segment }; window = 1 ∷ 2 ∷ []; segment = bytes }

-- a fork as event 9: the child has the registers with 0 in x10, the slot, a copy of the window as the memory of event 9, and the segment
forks-and-founds :
    (seen (done 1 9 (Forks 3) bodies) 3 ≡ Some (child_sees 9 (behind 0) (Some 6) (5 ∷ 6 ∷ [])))
    × (seen (done 1 9 (Forks 3) bodies) 1 ≡ Some (child_sees 4 (behind 3) (Some 6) (5 ∷ 6 ∷ [])))
    × (seen (done 1 9 (Forks 3) bodies) 2 ≡ seen bodies 2)
    -- a child that starts a group isn't made in its parent's
    × (seen (done 1 9 (Founds 3) bodies) 3 ≡ None)
    -- it is beside it, and holds no segment
    × (option_map (λ v. seen (founded (Founds 3) 9 (beginning_of v) bodies) 3) (seen bodies 1) ≡ Some (Some (child_sees 9 (behind 0) None [])))
unfolding bodies one two nine behind child_sees body_at memory_at put remove
forks-and-founds = (refl, refl, refl, refl, refl)

-- bytes received in the segment are seen by both
others-see :
    (option_map (λ v. v.segment) (seen (done 1 9 (Receives 0x80000000 (7 ∷ []) 1) bodies) 2) ≡ Some (7 ∷ 6 ∷ []))
    -- a process that ends is gone, and the other stays
    × (seen (done 1 9 Exits bodies) 1 ≡ None)
    × (seen (done 1 9 Exits bodies) 2 ≡ seen bodies 2)
unfolding bodies one two nine body_at memory_at put remove
others-see = (refl, refl, refl)

-- a beginning is read from its record: of 512 bytes the second block isn't all zero
second_block : View
second_block = record lonely { window = replicate 256 0 ++ (7 ∷ replicate 255 0) }

begins :
    (start_of (beginning_of second_block) ≡
    record { cpu = behind 0; slot = None; blocks = record { number = 1; bytes = 7 ∷ replicate 255 0 } ∷ [] })
    × (take 258 (beginning_in (start_of (beginning_of second_block))).window ≡ replicate 256 0 ++ (7 ∷ 0 ∷ []))
    × (length (beginning_in (start_of (beginning_of second_block))).window ≡ 262144)
unfolding second_block lonely nine behind used_blocks with_blocks zeros
begins = (refl, refl, refl)
