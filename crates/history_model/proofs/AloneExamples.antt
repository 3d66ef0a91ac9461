-- What a group alone makes of records, at literal values.
use Rattle.std.proofs.Common.{◌≡◌, ℕ, ◌==◌, List, [], ◌∷◌, ◌++◌, Option, Some, None, option_map, cond, true, false, length, refl}
use Rattle.arn_base.specs.declared.machine.Cpu.{Cpu}
use Rattle.arn_base.specs.declared.records.Extra.TheVariants as extra
use Rattle.arn_base.specs.declared.records.Record.{Record}
use Rattle.arn_base.specs.declared.records.Record.TheVariants as entry
use Rattle.rv64_isa.specs.Decoded as decoding
use Rattle.rv64_model.specs.Registers.{with_register}
use Rattle.acts_model.specs.Bodies.{Bodies, nobody, body_at, memory_at, put, remove}
use Rattle.acts_model.specs.Views.{cpu_at}
use Rattle.history_model.specs.Alone.{Makes, Fails, Made, Disagrees, Standing, replayed, settled}
use Rattle.history_model.specs.Groups.{Groups}

-- Before event 4, at moment 10, process 1 of group 1 stands at `li a7, 5; ecall; li a7, 1; ecall`; process 2 is of group 2
bodies : Bodies
bodies =
    put 1
    (record {
      body = record { cpu = cpu_at 0x10000; slot = None; window = 1; segment = None };
      window = 0x93 ∷ 8 ∷ 0x50 ∷ 0 ∷ 0x73 ∷ 0 ∷ 0 ∷ 0 ∷ 0x93 ∷ 8 ∷ 0x10 ∷ 0 ∷ 0x73 ∷ 0 ∷ 0 ∷ 0 ∷ [];
      segment = [];
    })
    nobody

abbrev groups : Groups
groups p = cond (p == 1) (Some 1) (cond (p == 2) (Some 2) None)

standing : Standing
standing =
    record {
      made = Makes (record { bodies = bodies; inside = [] });
      groups = groups;
      events = 4;
      moment = 10;
      is_begun = true;
      is_ended = true;
      owed = 0;
      pid = 1;
      ran = 0;
      end_event = 4;
    }

-- what the group is at a moment, after these records
after : ℕ → List Record → Made
after moment entries = settled (replayed 1 moment standing entries)

-- the registers of process 1 then
abbrev cpu_in : Made → Option Cpu
cpu_in (Makes own) = option_map (λ x. x.cpu) (body_at own.bodies 1)
cpu_in (Fails disagrees) = None

abbrev fails : Made → Option Disagrees
fails (Makes own) = None
fails (Fails disagrees) = Some disagrees

-- how many things happened inside the group
abbrev happened : Made → ℕ
happened (Makes own) = length own.inside
happened (Fails disagrees) = 0

-- it asks for its own number
asks : List Record
asks = entry.Slice 1 2 ∷ entry.Call 1 5 1 extra.Nothing ∷ []

-- inside the slice the call hasn't happened
owes :
    (cpu_in (after 10 asks) ≡ Some (cpu_at 0x10000))
    × (cpu_in (after 11 asks) ≡ Some (with_register (cpu_at 0x10004) 17 5))
    × (cpu_in (after 12 asks) ≡ Some (with_register (with_register (cpu_at 0x10008) 17 5) 10 1))
    × (happened (after 10 asks) ∷ happened (after 11 asks) ∷ happened (after 12 asks) ∷ happened (after 99 asks) ∷ [] ≡ 0 ∷ 1 ∷ 2 ∷ 2 ∷ [])
    -- a slice that ends with no call runs all its instructions, and a slice of another group's process runs none here
    × (cpu_in (after 99 (entry.Slice 2 7 ∷ entry.Slice 1 1 ∷ [])) ≡ Some (with_register (cpu_at 0x10004) 17 5))
unfolding asks after standing bodies decoding.decoded_by body_at memory_at put remove
owes = (refl, refl, refl, refl, refl)

-- it ends
ends-and-counts :
    (cpu_in (after 99 (asks ++ entry.Slice 1 2 ∷ entry.Call 1 1 0 extra.Nothing ∷ [])) ≡ None)
    -- more instructions than stand before the call: the count, and those before it
    × (fails (after 99 (entry.Slice 1 3 ∷ entry.Call 1 5 1 extra.Nothing ∷ [])) ≡ Some (record { event = 4; said = 3; found = 1 }))
    -- a call that has no record
    × (fails (after 99 (entry.Slice 1 2 ∷ entry.Slice 2 1 ∷ [])) ≡ Some (record { event = 4; said = 2; found = 1 }))
    -- a record of a call where none stands, behind an instruction or behind none
    × (fails (after 99 (entry.Slice 1 1 ∷ entry.Call 1 5 1 extra.Nothing ∷ [])) ≡ Some (record { event = 4; said = 5; found = 0xffffffffffffffff }))
    × (fails (after 99 (entry.Slice 1 0 ∷ entry.Call 1 5 1 extra.Nothing ∷ [])) ≡ Some (record { event = 4; said = 5; found = 0xffffffffffffffff }))
unfolding asks after standing bodies decoding.decoded_by body_at memory_at put remove
ends-and-counts = (refl, refl, refl, refl, refl)

-- another call: the record's number, and x17
calls-differ :
    (fails (after 99 (entry.Slice 1 2 ∷ entry.Call 1 22 1 extra.Nothing ∷ [])) ≡ Some (record { event = 4; said = 22; found = 5 }))
    -- an end where none stands
    × (fails (after 99 (entry.Slice 1 2 ∷ entry.End 1 132 ∷ [])) ≡ Some (record { event = 4; said = 132; found = 256 }))
    -- what a record holds beside the result does nothing on a call that has no such thing
    × (fails (after 99 (entry.Typed (7 ∷ []) ∷ entry.Slice 1 2 ∷ entry.Call 1 5 1 (extra.Console (8 ∷ [])) ∷ [])) ≡ None)
    -- what comes behind the moment isn't looked at
    × (fails (after 11 (entry.Slice 1 2 ∷ entry.Call 1 22 1 extra.Nothing ∷ [])) ≡ None)
    -- the event is numbered among all
    × (fails (after 99 (entry.Typed (7 ∷ []) ∷ entry.Slice 2 3 ∷ entry.Call 2 22 0 extra.Nothing ∷ entry.Slice 1 2 ∷ entry.Call 1 22 1 extra.Nothing ∷ [])) ≡ Some (record { event = 6; said = 22; found = 5 }))
unfolding after standing bodies decoding.decoded_by body_at memory_at put remove
calls-differ = (refl, refl, refl, refl, refl)

-- So it is where nothing but the count decides what is owed: the number is that of the event that would have ended the slice, and no record behind it changes that.
-- The slice is cut off at the moment, and so is its call
cut-off :
    (fails (after 12 (entry.Slice 1 3 ∷ entry.Call 1 5 1 extra.Nothing ∷ [])) ∷ fails (after 12 (entry.Slice 1 3 ∷ entry.Call 1 5 1 extra.Nothing ∷ entry.Slice 2 3 ∷ entry.Call 2 22 0 extra.Nothing ∷ [])) ∷ []
    ≡ Some (record { event = 4; said = 3; found = 1 }) ∷ Some (record { event = 4; said = 3; found = 1 }) ∷ [])
    × (fails (after 12 (entry.Slice 1 3 ∷ entry.End 1 132 ∷ entry.Typed (7 ∷ []) ∷ [])) ≡ Some (record { event = 4; said = 3; found = 1 }))
    -- it has no record of its own, but bytes are typed then, or a device is unplugged
    × (fails (after 99 (entry.Slice 1 2 ∷ entry.Typed (7 ∷ []) ∷ [])) ∷ fails (after 99 (entry.Slice 1 2 ∷ entry.Unplug 0 ∷ [])) ∷ [] ≡ Some (record { event = 4; said = 2; found = 1 }) ∷ Some (record { event = 4; said = 2; found = 1 }) ∷ [])
    -- a delivery comes before that event: one that ends the process, whose slice counts instructions, and one that a handler takes
    × (fails (after 99 (entry.Slice 1 2 ∷ entry.Signal 1 9 false 0 ∷ entry.Typed (7 ∷ []) ∷ [])) ≡ Some (record { event = 5; said = 2; found = 0 }))
    × (fails (after 12 (entry.Slice 1 3 ∷ entry.Signal 1 2 false 0x10000 ∷ entry.Call 1 5 1 extra.Nothing ∷ entry.Typed (7 ∷ []) ∷ [])) ≡ Some (record { event = 5; said = 3; found = 1 }))
unfolding after standing bodies decoding.decoded_by body_at memory_at put remove
cut-off = (refl, refl, refl, refl, refl)
