-- The calls that move bytes at literal values.
use Rattle.std.proofs.Common.{◌≡◌, ℕ, List, [], ◌∷◌, ◌++◌, length, Option, Some, None, option_map, Bool, replicate, true, false, refl}
use Rattle.arn_base.specs.declared.records.Extra.{Extra}
use Rattle.arn_base.specs.declared.records.Extra.TheVariants as extra
use Rattle.arn_base.specs.declared.records.Origin.{Origin}
use Rattle.parts_model.specs.declared.open.Description.{Description}
use Rattle.parts_model.specs.declared.open.Description.TheVariants as description
use Rattle.parts_model.specs.declared.tagged.TaggedByte.{TaggedByte}
use Rattle.parts_model.specs.Memory.{zeros}
use Rattle.parts_model.specs.Replies.{GaveBytes, TookBytes, Failed, IsAbsent}
use Rattle.acts_model.specs.Acts.{Returns, Receives, Gives}
use Rattle.acts_model.specs.Bodies.{View}
use Rattle.acts_model.specs.Moved.{KernelByte, Range, Nothing, Outside, From, ConsoleByte, PipeByte, FileByte}
use Rattle.arn_model.specs.Doing.{Doing, Reads, Writes, Waits, Does, Asks}
use Rattle.arn_model.specs.Kernel.{Kernel}
use Rattle.arn_model.specs.Row.{row, answered}
use Rattle.arn_model.proofs.Literals.{minus, calling, byte, files_held, kernel, kernel_with, at_event_5, results, doing_in}

-- four bytes were read from the console before; two bytes of event 2 and one of event 4 are left
typed : Kernel
typed = record kernel { console = record { taken = 4; queue = byte 10 2 0 ∷ byte 11 2 1 ∷ byte 12 4 0 ∷ [] } }

-- a read to 0x10004 that gave bytes, with their origins, and what the first of them was in the kernel
abbrev read_of : List ℕ → List Origin → KernelByte → Kernel → Doing
read_of bytes origins first k =
    record {
      act = Receives 0x10004 bytes (length bytes);
      extra = extra.Give (record { bytes = bytes; origins = origins });
      incoming = From (record { first = first; len = length bytes });
      outgoing = None;
      bytes = bytes;
      kernel = k;
    }

-- a write from 0x10002 that took bytes, and what they are in the kernel
abbrev write_of : List ℕ → Extra → Option Range → Kernel → Doing
write_of bytes more place k =
    record { act = Gives 0x10002 (length bytes) (length bytes); extra = more; incoming = Nothing; outgoing = place; bytes = bytes; kernel = k }

read-console :
    (row 11 (at_event_5 typed) 1 (calling (0 ∷ 0x10004 ∷ 2 ∷ [])) ≡
    Does (read_of (10 ∷ 11 ∷ []) (record { event = 2; at = 0; len = 2 } ∷ []) (ConsoleByte 4) (record kernel { console = record { taken = 6; queue = byte 12 4 0 ∷ [] } })))
    -- no more than there is
    × (row 11 (at_event_5 typed) 1 (calling (0 ∷ 0x10004 ∷ 4 ∷ [])) ≡
    Does (read_of (10 ∷ 11 ∷ 12 ∷ []) (record { event = 2; at = 0; len = 2 } ∷ record { event = 4; at = 0; len = 1 } ∷ []) (ConsoleByte 4) (record kernel { console = record { taken = 7; queue = [] } })))
    -- -9 before a count of 0, that before -14, and -14 before it isn't ready
    × (row 11 (at_event_5 kernel) 1 (calling (3 ∷ 0 ∷ 0 ∷ [])) ≡ results (minus 9) kernel)
    × (row 11 (at_event_5 kernel) 1 (calling (0 ∷ 0 ∷ 0 ∷ [])) ≡ results 0 kernel)
    × (row 11 (at_event_5 kernel) 1 (calling (0 ∷ 0x10007 ∷ 2 ∷ [])) ≡ results (minus 14) kernel)
    × (row 11 (at_event_5 kernel) 1 (calling (0 ∷ 0x10004 ∷ 2 ∷ [])) ≡ Waits)
unfolding row typed
read-console = (refl, refl, refl, refl, refl, refl)

-- a write end and a listener aren't read
read-ends :
    (row 11 (at_event_5 (kernel_with (description.Writer 0))) 1 (calling (3 ∷ 0 ∷ 0 ∷ [])) ≡ results (minus 9) (kernel_with (description.Writer 0)))
    × (row 11 (at_event_5 (kernel_with (description.Listener 80))) 1 (calling (3 ∷ 0 ∷ 0 ∷ [])) ≡ results (minus 9) (kernel_with (description.Listener 80)))
unfolding row
read-ends = (refl, refl)

-- a count that is too long is cut to 65,536, of which each has its place in a segment
segment_view : ℕ → View
segment_view count = record (calling (0 ∷ 0x80000000 ∷ count ∷ [])) { body = record (calling (0 ∷ 0x80000000 ∷ count ∷ [])).body { segment = Some 3 }; segment = zeros 65536 }

read-cut : option_map (λ d. d.act) (doing_in (row 11 (at_event_5 typed) 1 (segment_view 0xffffffffffffffff))) ≡ Some (Receives 0x80000000 (10 ∷ 11 ∷ 12 ∷ []) 3)
unfolding row typed segment_view zeros
read-cut = refl

-- from a file behind the position, which moves on
file_at : ℕ → Kernel
file_at position = record (kernel_with (description.File 0 position)) { files = files_held 1 }

read-file :
    (row 11 (at_event_5 (file_at 1)) 1 (calling (3 ∷ 0x10004 ∷ 4 ∷ [])) ≡
    Does (read_of (2 ∷ 3 ∷ []) (record { event = 0; at = 1; len = 2 } ∷ []) (FileByte 0 1) (file_at 3)))
    × (row 11 (at_event_5 (file_at 3)) 1 (calling (3 ∷ 0x10004 ∷ 4 ∷ [])) ≡ results 0 (file_at 3))
    × (row 11 (at_event_5 (file_at 3)) 1 (calling (3 ∷ 0x10007 ∷ 4 ∷ [])) ≡ results (minus 14) (file_at 3))
unfolding row file_at
read-file = (refl, refl, refl)

-- descriptor 3 stands for something of pipe 0, which holds these bytes
with_pipe : Description → ℕ → List TaggedByte → Bool → Bool → Kernel
with_pipe what taken queue reader writer =
    record (kernel_with what) { pipes = Some (record { channel = record { taken = taken; queue = queue }; has_reader = reader; has_writer = writer }) ∷ [] }

read-pipe :
    (row 11 (at_event_5 (with_pipe (description.Reader 0) 6 (byte 10 2 3 ∷ byte 11 2 4 ∷ byte 12 2 5 ∷ []) true true)) 1 (calling (3 ∷ 0x10004 ∷ 2 ∷ [])) ≡
    Does (read_of (10 ∷ 11 ∷ []) (record { event = 2; at = 3; len = 2 } ∷ []) (PipeByte 0 6) (with_pipe (description.Reader 0) 8 (byte 12 2 5 ∷ []) true true)))
    -- a connection's first pipe, also without a writer
    × (row 11 (at_event_5 (with_pipe (description.Connection 0 1) 0 (byte 10 2 0 ∷ []) true false)) 1 (calling (3 ∷ 0x10004 ∷ 2 ∷ [])) ≡
    Does (read_of (10 ∷ []) (record { event = 2; at = 0; len = 1 } ∷ []) (PipeByte 0 0) (with_pipe (description.Connection 0 1) 1 [] true false)))
    -- an empty pipe without a writer, and with one
    × (row 11 (at_event_5 (with_pipe (description.Reader 0) 6 [] true false)) 1 (calling (3 ∷ 0x10004 ∷ 2 ∷ [])) ≡
    results 0 (with_pipe (description.Reader 0) 6 [] true false))
    × (row 11 (at_event_5 (with_pipe (description.Reader 0) 6 [] true true)) 1 (calling (3 ∷ 0x10004 ∷ 2 ∷ [])) ≡ Waits)
    × (row 11 (at_event_5 (with_pipe (description.Reader 0) 6 [] true true)) 1 (calling (3 ∷ 0x10007 ∷ 2 ∷ [])) ≡
    results (minus 14) (with_pipe (description.Reader 0) 6 [] true true))
unfolding row with_pipe
read-pipe = (refl, refl, refl, refl, refl)

-- write to the console, which takes all
write-console :
    (row 12 (at_event_5 kernel) 1 (calling (1 ∷ 0x10002 ∷ 3 ∷ [])) ≡
    Does (write_of (7 ∷ 8 ∷ 9 ∷ []) (extra.Console (7 ∷ 8 ∷ 9 ∷ [])) None kernel))
    -- -9 before a count of 0, that before -14
    × (row 12 (at_event_5 kernel) 1 (calling (3 ∷ 0 ∷ 0 ∷ [])) ≡ results (minus 9) kernel)
    × (row 12 (at_event_5 (kernel_with (description.Reader 0))) 1 (calling (3 ∷ 0 ∷ 0 ∷ [])) ≡ results (minus 9) (kernel_with (description.Reader 0)))
    × (row 12 (at_event_5 (kernel_with (description.Listener 80))) 1 (calling (3 ∷ 0 ∷ 0 ∷ [])) ≡ results (minus 9) (kernel_with (description.Listener 80)))
    × (row 12 (at_event_5 kernel) 1 (calling (1 ∷ 0 ∷ 0 ∷ [])) ≡ results 0 kernel)
    × (row 12 (at_event_5 kernel) 1 (calling (1 ∷ 0x10007 ∷ 2 ∷ [])) ≡ results (minus 14) kernel)
    × (option_map (λ d. length d.bytes) (doing_in (row 12 (at_event_5 kernel) 1 (segment_view 65537))) ≡ Some 65536)
unfolding row segment_view zeros
write-console = (refl, refl, refl, refl, refl, refl, refl)

-- to a file over its last byte and behind it, as event 5
write-file :
    (row 12 (at_event_5 (file_at 2)) 1 (calling (3 ∷ 0x10002 ∷ 2 ∷ [])) ≡
    Does (write_of (7 ∷ 8 ∷ []) (extra.Put 0 2 (7 ∷ 8 ∷ [])) (Some (record { first = FileByte 0 2; len = 2 }))
    (record (file_at 4) { files = record (files_held 1) { all = Some (record { bytes = byte 1 0 0 ∷ byte 2 0 1 ∷ byte 7 5 0 ∷ byte 8 5 1 ∷ []; holders = 1 }) ∷ [] } })))
    -- of two bytes the last place of a file takes one, and behind it none
    × (option_map (λ d. d.act) (doing_in (row 12 (at_event_5 (file_at 1048575)) 1 (calling (3 ∷ 0x10002 ∷ 2 ∷ [])))) ≡ Some (Gives 0x10002 1 1))
    × (row 12 (at_event_5 (file_at 1048576)) 1 (calling (3 ∷ 0x10002 ∷ 2 ∷ [])) ≡ results (minus 12) (file_at 1048576))
    -- -14 before -12, and a count of 0 before both
    × (row 12 (at_event_5 (file_at 1048576)) 1 (calling (3 ∷ 0x10007 ∷ 2 ∷ [])) ≡ results (minus 14) (file_at 1048576))
    × (row 12 (at_event_5 (file_at 1048576)) 1 (calling (3 ∷ 0x10007 ∷ 0 ∷ [])) ≡ results 0 (file_at 1048576))
unfolding row file_at
write-file = (refl, refl, refl, refl, refl)

-- to a pipe with room for one of two bytes
writes-pipe :
    row 12 (at_event_5 (with_pipe (description.Writer 0) 6 (replicate 4095 (byte 1 2 0)) true true)) 1 (calling (3 ∷ 0x10002 ∷ 2 ∷ [])) ≡
    Does (write_of (7 ∷ []) extra.Nothing (Some (record { first = PipeByte 0 4101; len = 1 })) (with_pipe (description.Writer 0) 6 (replicate 4095 (byte 1 2 0) ++ byte 7 5 0 ∷ []) true true))
unfolding row with_pipe
writes-pipe = refl

-- a full pipe with a reader, and without one
full_pipe : Bool → Kernel
full_pipe reader = with_pipe (description.Writer 0) 0 (replicate 4096 (byte 1 2 0)) reader true

write-pipe :
    (row 12 (at_event_5 (full_pipe true)) 1 (calling (3 ∷ 0x10002 ∷ 2 ∷ [])) ≡ Waits)
    × (row 12 (at_event_5 (full_pipe false)) 1 (calling (3 ∷ 0x10002 ∷ 2 ∷ [])) ≡ results (minus 32) (full_pipe false))
    -- -14 before -32 and before it isn't ready, and a count of 0 before all three
    × (row 12 (at_event_5 (full_pipe true)) 1 (calling (3 ∷ 0x10007 ∷ 2 ∷ [])) ≡ results (minus 14) (full_pipe true))
    × (row 12 (at_event_5 (full_pipe false)) 1 (calling (3 ∷ 0x10007 ∷ 2 ∷ [])) ≡ results (minus 14) (full_pipe false))
    × (row 12 (at_event_5 (full_pipe false)) 1 (calling (3 ∷ 0x10007 ∷ 0 ∷ [])) ≡ results 0 (full_pipe false))
unfolding row full_pipe with_pipe
write-pipe = (refl, refl, refl, refl, refl)

-- a connection's second pipe
write-connection :
    row 12 (at_event_5 (with_pipe (description.Connection 1 0) 0 [] true true)) 1 (calling (3 ∷ 0x10002 ∷ 1 ∷ [])) ≡
    Does (write_of (7 ∷ []) extra.Nothing (Some (record { first = PipeByte 0 0; len = 1 })) (with_pipe (description.Connection 1 0) 0 (byte 7 5 0 ∷ []) true true))
unfolding row with_pipe
write-connection = refl

-- device 7 is asked once, after -14
on_device : Kernel
on_device = kernel_with (description.Device 7)

device-asked :
    (row 11 (at_event_5 on_device) 1 (calling (3 ∷ 0x10004 ∷ 2 ∷ [])) ≡ Asks (Reads 7 0x10004 2))
    × (row 12 (at_event_5 on_device) 1 (calling (3 ∷ 0x10002 ∷ 3 ∷ [])) ≡ Asks (Writes 7 0x10002 3))
    × (row 11 (at_event_5 on_device) 1 (calling (3 ∷ 0 ∷ 0 ∷ [])) ≡ results 0 on_device)
    × (row 11 (at_event_5 on_device) 1 (calling (3 ∷ 0x10007 ∷ 2 ∷ [])) ≡ results (minus 14) on_device)
unfolding row on_device
device-asked = (refl, refl, refl, refl)

-- what the call comes to once there is no such device, or it failed
ends_with : ℕ → Extra → Kernel → Doing
ends_with number more k = record { act = Returns (minus number); extra = more; incoming = Nothing; outgoing = None; bytes = []; kernel = k }

-- one that was unplugged isn't asked
unplugged : Kernel
unplugged = record on_device { unplugged = 7 ∷ [] }

device-unplugged :
    (row 11 (at_event_5 unplugged) 1 (calling (3 ∷ 0x10004 ∷ 2 ∷ [])) ≡ Does (ends_with 19 extra.Absent unplugged))
    × (row 12 (at_event_5 unplugged) 1 (calling (3 ∷ 0x10002 ∷ 2 ∷ [])) ≡ Does (ends_with 19 extra.Absent unplugged))
    -- and the bad address comes first
    × (row 11 (at_event_5 unplugged) 1 (calling (3 ∷ 0x10007 ∷ 2 ∷ [])) ≡ results (minus 14) unplugged)
unfolding row unplugged on_device ends_with
device-unplugged = (refl, refl, refl)

-- bytes that a device gave, cut to what was asked, or none
given : List ℕ → ℕ → Doing
given bytes count =
    record {
      act = Receives 0x10004 bytes count;
      extra = extra.Reply 7 bytes;
      incoming = Outside;
      outgoing = None;
      bytes = bytes;
      kernel = on_device;
    }

device-gives :
    (answered (at_event_5 on_device) 1 (calling []) (Reads 7 0x10004 2) (Some (GaveBytes (20 ∷ 21 ∷ []))) ≡ given (20 ∷ 21 ∷ []) 2)
    × (answered (at_event_5 on_device) 1 (calling []) (Reads 7 0x10004 2) (Some (GaveBytes (20 ∷ 21 ∷ 22 ∷ []))) ≡ given (20 ∷ 21 ∷ []) 2)
    × (answered (at_event_5 on_device) 1 (calling []) (Reads 7 0x10004 2) (Some (GaveBytes [])) ≡ given [] 0)
unfolding answered given on_device
device-gives = (refl, refl, refl)

-- how many bytes a device took, or none
took : List ℕ → ℕ → Doing
took bytes count =
    record {
      act = Gives 0x10002 count count;
      extra = extra.Sent 7 bytes;
      incoming = Nothing;
      outgoing = None;
      bytes = bytes;
      kernel = on_device;
    }

device-takes :
    (answered (at_event_5 on_device) 1 (calling []) (Writes 7 0x10002 3) (Some (TookBytes 2)) ≡ took (7 ∷ 8 ∷ []) 2)
    × (answered (at_event_5 on_device) 1 (calling []) (Writes 7 0x10002 3) (Some (TookBytes 4)) ≡ took (7 ∷ 8 ∷ 9 ∷ []) 3)
    × (answered (at_event_5 on_device) 1 (calling []) (Writes 7 0x10002 3) (Some (TookBytes 0)) ≡ took [] 0)
unfolding answered took on_device
device-takes = (refl, refl, refl)

-- it failed, it isn't there, there is no answer, or one to another question
device-fails :
    (answered (at_event_5 on_device) 1 (calling []) (Reads 7 0x10004 2) (Some Failed) ≡ ends_with 5 extra.Fault on_device)
    × (answered (at_event_5 on_device) 1 (calling []) (Writes 7 0x10002 3) (Some Failed) ≡ ends_with 5 extra.Fault on_device)
    × (answered (at_event_5 on_device) 1 (calling []) (Reads 7 0x10004 2) (Some IsAbsent) ≡ ends_with 19 extra.Absent on_device)
    × (answered (at_event_5 on_device) 1 (calling []) (Writes 7 0x10002 3) None ≡ ends_with 19 extra.Absent on_device)
    × (answered (at_event_5 on_device) 1 (calling []) (Reads 7 0x10004 2) (Some (TookBytes 2)) ≡ ends_with 19 extra.Absent on_device)
    × (answered (at_event_5 on_device) 1 (calling []) (Writes 7 0x10002 3) (Some (GaveBytes (20 ∷ []))) ≡ ends_with 19 extra.Absent on_device)
unfolding answered on_device ends_with
device-fails = (refl, refl, refl, refl, refl, refl)
