-- Records at literal values.
use Rattle.std.proofs.Common.{◌≡◌, ℕ, ◌-◌, [], ◌∷◌, ◌++◌, replicate, codes, None, Some, true, false, filter, refl}
use Rattle.arn_base.specs.declared.machine.Cpu.{Cpu}
use Rattle.arn_base.specs.declared.records.Extra.TheVariants as extra
use Rattle.arn_base.specs.declared.records.Record.TheVariants as entry
use Rattle.rv64_isa.specs.Decoded as decoding
use Rattle.rv64_model.specs.Registers.{with_register}
use Rattle.parts_model.specs.declared.open.Description.TheVariants as description
use Rattle.parts_model.specs.Processes.{Live}
use Rattle.parts_model.specs.Replies.{GaveBytes, TookBytes, Failed, IsAbsent, IsHere}
use Rattle.parts_model.specs.Signals.{no_handlers, none_pending, with_handler, with_pending}
use Rattle.acts_model.specs.Bodies.{nobody, body_at, memory_at, put, remove}
use Rattle.acts_model.specs.Records.{is_event}
use Rattle.acts_model.specs.Views.{cpu_at}
use Rattle.arn_model.specs.Kernel.{Handling, Machine, at_first}
use Rattle.arn_model.specs.Row.{row, answered}
use Rattle.arn_model.specs.Run.{File, Boot, Typed, Unplug, Slice}
use Rattle.log_model.specs.Records.{records, records_from, reply_behind, named, IsRun}

-- an error as a result
abbrev minus : ℕ → ℕ
minus number = 0x10000000000000000 - number

-- a file, and a second one of its name, which is refused; it is no image, so that nothing boots, is typed or runs
files : records (File (codes "a") (7 ∷ []) ∷ File (codes "a") [] ∷ Boot (codes "a") ∷ Typed (8 ∷ []) ∷ Unplug 3 ∷ Slice 1 5 None ∷ []) ≡ entry.File (codes "a") (7 ∷ []) ∷ []
unfolding body_at
files = refl

-- its record is that of a run, and a typed piece before any process isn't one
file-run : IsRun (entry.File (codes "a") (7 ∷ []) ∷ [])
file-run = refl

typed-no-run : IsRun (entry.Typed (9 ∷ []) ∷ []) → ⊥
typed-no-run is = cc

-- the inputs of a boot, a typed piece, a device that is unplugged, and slices: one with a delivery and a call to which a device gave
-- bytes, one with an end, and one with nothing but a delivery, behind which no call follows
inputs-named :
    named (
    entry.Boot (codes "p") (record { bytes = []; origins = [] })
    ∷ entry.Typed (9 ∷ [])
    ∷ entry.Slice 1 4
    ∷ entry.Signal 1 3 true 0x10000
    ∷ entry.Call 1 11 2 (extra.Reply 0 (7 ∷ 8 ∷ []))
    ∷ entry.Unplug 0
    ∷ entry.Slice 2 5
    ∷ entry.End 2 132
    ∷ entry.Slice 1 0
    ∷ entry.Signal 1 9 false 0
    ∷ entry.Slice 3 1
    ∷ entry.Call 3 11 (minus 19) extra.Fault
    ∷ []
    ) ≡
    Boot (codes "p")
    ∷ Typed (9 ∷ [])
    ∷ Slice 1 4 (Some (GaveBytes (7 ∷ 8 ∷ [])))
    ∷ Unplug 0
    ∷ Slice 2 5 None
    ∷ Slice 1 0 None
    ∷ Slice 3 1 (Some Failed)
    ∷ []
inputs-named = refl

-- a device that took bytes, one that isn't there, one that a `device` call found, and calls that asked none
reply-named :
    (reply_behind (entry.Call 1 12 2 (extra.Sent 0 (7 ∷ 8 ∷ [])) ∷ []) ≡ Some (TookBytes 2))
    × (reply_behind (entry.Call 1 12 (minus 19) extra.Absent ∷ []) ≡ Some IsAbsent)
    × (reply_behind (entry.Call 1 21 3 extra.Nothing ∷ []) ≡ Some IsHere)
    × (reply_behind (entry.Call 1 21 (minus 24) extra.Nothing ∷ []) ≡ None)
reply-named = (refl, refl, refl, refl)

console-named : reply_behind (entry.Call 1 12 1 (extra.Console (7 ∷ [])) ∷ []) ≡ None
console-named = refl

-- process 1 alone, before event 5, with these registers and signals, and with descriptor 5 on device 7. Its window holds
-- `ecall; li a7, 1; li a0, 7; ecall`
standing : Cpu → Handling → Machine
standing cpu handling =
    record {
      bodies =
          put 1
          (record {
            body = record { cpu = cpu; slot = None; window = 1; segment = None };
            window = 0x73 ∷ 0 ∷ 0 ∷ 0 ∷ 0x93 ∷ 8 ∷ 0x10 ∷ 0 ∷ 0x13 ∷ 5 ∷ 0x70 ∷ 0 ∷ 0x73 ∷ 0 ∷ 0 ∷ 0 ∷ [];
            segment = [];
          })
          nobody;
      kernel =
          record at_first.kernel {
            processes = Some (record { life = Live; parent = None; descriptors = replicate 5 None ++ Some 0 ∷ replicate 10 None }) ∷ [];
            handling = Some handling ∷ [];
            descriptions = Some (record { what = description.Device 7; descriptors = 1 }) ∷ [];
          };
      events = 5;
    }

-- it stands at the first `li`, and nothing is pending
exiting : Machine
exiting = standing (cpu_at 0x10004) (record { handlers = no_handlers; pending = none_pending })

-- one of its instructions runs, a piece is typed, the other runs and then its call, and nothing runs any more
exit-recorded :
    records_from exiting (Slice 1 1 None ∷ Typed (9 ∷ []) ∷ Slice 1 100 (Some Failed) ∷ Slice 1 100 None ∷ []) ≡
    entry.Slice 1 1 ∷ entry.Typed (9 ∷ []) ∷ entry.Slice 1 2 ∷ entry.Call 1 1 0 extra.Nothing ∷ []
unfolding exiting standing decoding.decoded_by row answered body_at memory_at put remove
exit-recorded = refl

-- signal 5 is pending, and its handler is the first `ecall`, which writes 1 byte to device 7
delivering : Machine
delivering =
    standing (with_register (with_register (with_register (cpu_at 0x10004) 17 12) 11 0x10000) 12 1)
    (record { handlers = with_handler no_handlers 5 0x10000; pending = with_pending none_pending 5 true })

-- the device says that it took more than there was: what it took is recorded, and named by the records
delivery :
    (records_from delivering (Slice 1 100 (Some (TookBytes 3)) ∷ []) ≡
    entry.Slice 1 1 ∷ entry.Signal 1 5 false 0x10000 ∷ entry.Call 1 12 1 (extra.Sent 7 (0x73 ∷ [])) ∷ [])
    × (named (entry.Slice 1 1 ∷ entry.Signal 1 5 false 0x10000 ∷ entry.Call 1 12 1 (extra.Sent 7 (0x73 ∷ [])) ∷ []) ≡ Slice 1 1 (Some (TookBytes 1)) ∷ [])
    -- a slice of no instruction delivers it
    × (records_from delivering (Slice 1 0 None ∷ Slice 2 4 None ∷ []) ≡ entry.Slice 1 0 ∷ entry.Signal 1 5 false 0x10000 ∷ [])
    -- without the slices there are the events
    × (filter is_event (entry.Slice 1 0 ∷ entry.Signal 1 5 false 0x10000 ∷ []) ≡ entry.Signal 1 5 false 0x10000 ∷ [])
unfolding delivering standing decoding.decoded_by row answered body_at memory_at put remove
delivery = (refl, refl, refl, refl)
