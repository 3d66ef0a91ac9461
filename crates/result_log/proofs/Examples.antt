-- Spellings at literal values.
use Rattle.std.proofs.Common.{◌≡◌, [], ◌∷◌, ◌++◌, codes, refl}
use Rattle.std.specs.Prelude.{replicate, true, None, Some}
use Rattle.arn_base.specs.declared.machine.Cpu.{Cpu}
use Rattle.arn_base.specs.declared.records.Extra.TheVariants as extra
use Rattle.arn_base.specs.declared.records.Record.TheVariants as entry
use Rattle.result_log.specs.Spelling.{spelling}
use Rattle.result_log.specs.States.{start_fields}

-- 01 01 61 02000000 6162
file : spelling (entry.File (codes "a") (codes "ab")) ≡ 1 ∷ 1 ∷ 0x61 ∷ 2 ∷ 0 ∷ 0 ∷ 0 ∷ 0x61 ∷ 0x62 ∷ []
file = refl

-- 01 01 62 01000000 63
other-file : spelling (entry.File (codes "b") (codes "c")) ≡ 1 ∷ 1 ∷ 0x62 ∷ 1 ∷ 0 ∷ 0 ∷ 0 ∷ 0x63 ∷ []
other-file = refl

-- 02 01 70 02000000 abcd 01000000 0300000000000000 00000000 02000000
boot : spelling (entry.Boot (codes "p") (record {
  bytes = 0xab ∷ 0xcd ∷ [];
  origins = record { event = 3; at = 0; len = 2 } ∷ [];
}))
    ≡ 2 ∷ 1 ∷ 0x70 ∷ 2 ∷ 0 ∷ 0 ∷ 0 ∷ 0xab ∷ 0xcd ∷ 1 ∷ 0 ∷ 0 ∷ 0
    ∷ 3 ∷ 0 ∷ 0 ∷ 0 ∷ 0 ∷ 0 ∷ 0 ∷ 0 ∷ 0 ∷ 0 ∷ 0 ∷ 0 ∷ 2 ∷ 0 ∷ 0 ∷ 0 ∷ []
boot = refl

-- 03 03000000 787978
typed : spelling (entry.Typed (codes "xyx")) ≡ 3 ∷ 3 ∷ 0 ∷ 0 ∷ 0 ∷ 0x78 ∷ 0x79 ∷ 0x78 ∷ []
typed = refl

-- 03 00000000
typed-nothing : spelling (entry.Typed []) ≡ 3 ∷ 0 ∷ 0 ∷ 0 ∷ 0 ∷ []
typed-nothing = refl

-- 05 01000000 40420f00: a million instructions
slice : spelling (entry.Slice 1 1_000_000) ≡ 5 ∷ 1 ∷ 0 ∷ 0 ∷ 0 ∷ 0x40 ∷ 0x42 ∷ 0x0f ∷ 0 ∷ []
slice = refl

-- 07 01000000 2600000000000000 daffffffffffffff 00: a call that there isn't answers -38
call-nothing : spelling (entry.Call 1 0x26 0xffff_ffff_ffff_ffda extra.Nothing)
    ≡ 7 ∷ 1 ∷ 0 ∷ 0 ∷ 0 ∷ 0x26 ∷ 0 ∷ 0 ∷ 0 ∷ 0 ∷ 0 ∷ 0 ∷ 0
    ∷ 0xda ∷ 0xff ∷ 0xff ∷ 0xff ∷ 0xff ∷ 0xff ∷ 0xff ∷ 0xff ∷ 0 ∷ []
call-nothing = refl

-- 07 .. 01 01000000 78 01000000 0200000000000000 05000000 01000000: a read of the byte at place 5 of event 2
call-give : spelling (entry.Call 1 11 1 (extra.Give (record {
  bytes = 0x78 ∷ [];
  origins = record { event = 2; at = 5; len = 1 } ∷ [];
})))
    ≡ 7 ∷ 1 ∷ 0 ∷ 0 ∷ 0 ∷ 11 ∷ 0 ∷ 0 ∷ 0 ∷ 0 ∷ 0 ∷ 0 ∷ 0 ∷ 1 ∷ 0 ∷ 0 ∷ 0 ∷ 0 ∷ 0 ∷ 0 ∷ 0
    ∷ 1 ∷ 1 ∷ 0 ∷ 0 ∷ 0 ∷ 0x78 ∷ 1 ∷ 0 ∷ 0 ∷ 0
    ∷ 2 ∷ 0 ∷ 0 ∷ 0 ∷ 0 ∷ 0 ∷ 0 ∷ 0 ∷ 5 ∷ 0 ∷ 0 ∷ 0 ∷ 1 ∷ 0 ∷ 0 ∷ 0 ∷ []
call-give = refl

-- 07 .. 04 02000000 6162: a write of two bytes to the console
call-console : spelling (entry.Call 258 12 2 (extra.Console (codes "ab")))
    ≡ 7 ∷ 2 ∷ 1 ∷ 0 ∷ 0 ∷ 12 ∷ 0 ∷ 0 ∷ 0 ∷ 0 ∷ 0 ∷ 0 ∷ 0 ∷ 2 ∷ 0 ∷ 0 ∷ 0 ∷ 0 ∷ 0 ∷ 0 ∷ 0
    ∷ 4 ∷ 2 ∷ 0 ∷ 0 ∷ 0 ∷ 0x61 ∷ 0x62 ∷ []
call-console = refl

-- 07 .. 03 05000000 02000000 01000000 7a: a write of a byte to file 5, at place 2
call-put : spelling (entry.Call 2 12 1 (extra.Put 5 2 (codes "z")))
    ≡ 7 ∷ 2 ∷ 0 ∷ 0 ∷ 0 ∷ 12 ∷ 0 ∷ 0 ∷ 0 ∷ 0 ∷ 0 ∷ 0 ∷ 0 ∷ 1 ∷ 0 ∷ 0 ∷ 0 ∷ 0 ∷ 0 ∷ 0 ∷ 0
    ∷ 3 ∷ 5 ∷ 0 ∷ 0 ∷ 0 ∷ 2 ∷ 0 ∷ 0 ∷ 0 ∷ 1 ∷ 0 ∷ 0 ∷ 0 ∷ 0x7a ∷ []
call-put = refl

-- 07 .. 05 01000000 00000000: a read of device 1 that gave no bytes
call-reply : spelling (entry.Call 1 11 0 (extra.Reply 1 []))
    ≡ 7 ∷ 1 ∷ 0 ∷ 0 ∷ 0 ∷ 11 ∷ 0 ∷ 0 ∷ 0 ∷ 0 ∷ 0 ∷ 0 ∷ 0 ∷ 0 ∷ 0 ∷ 0 ∷ 0 ∷ 0 ∷ 0 ∷ 0 ∷ 0
    ∷ 5 ∷ 1 ∷ 0 ∷ 0 ∷ 0 ∷ 0 ∷ 0 ∷ 0 ∷ 0 ∷ []
call-reply = refl

-- 07 01000000 0b00000000000000 fbffffffffffffff 06: the device failed, so a read answers -5
call-fault : spelling (entry.Call 1 11 0xffff_ffff_ffff_fffb extra.Fault)
    ≡ 7 ∷ 1 ∷ 0 ∷ 0 ∷ 0 ∷ 11 ∷ 0 ∷ 0 ∷ 0 ∷ 0 ∷ 0 ∷ 0 ∷ 0
    ∷ 0xfb ∷ 0xff ∷ 0xff ∷ 0xff ∷ 0xff ∷ 0xff ∷ 0xff ∷ 0xff ∷ 6 ∷ []
call-fault = refl

-- 07 01000000 1500000000000000 edffffffffffffff 07: there is no such device, so call 21 answers -19
call-absent : spelling (entry.Call 1 21 0xffff_ffff_ffff_ffed extra.Absent)
    ≡ 7 ∷ 1 ∷ 0 ∷ 0 ∷ 0 ∷ 21 ∷ 0 ∷ 0 ∷ 0 ∷ 0 ∷ 0 ∷ 0 ∷ 0
    ∷ 0xed ∷ 0xff ∷ 0xff ∷ 0xff ∷ 0xff ∷ 0xff ∷ 0xff ∷ 0xff ∷ 7 ∷ []
call-absent = refl

-- 07 .. 08 04000000 03 6c6f67: file 4 was opened, "log"
call-name : spelling (entry.Call 1 9 5 (extra.Name 4 (codes "log")))
    ≡ 7 ∷ 1 ∷ 0 ∷ 0 ∷ 0 ∷ 9 ∷ 0 ∷ 0 ∷ 0 ∷ 0 ∷ 0 ∷ 0 ∷ 0 ∷ 5 ∷ 0 ∷ 0 ∷ 0 ∷ 0 ∷ 0 ∷ 0 ∷ 0
    ∷ 8 ∷ 4 ∷ 0 ∷ 0 ∷ 0 ∷ 3 ∷ 0x6c ∷ 0x6f ∷ 0x67 ∷ []
call-name = refl

-- 07 .. 09 02000000 02000000 6162: device 2 took two bytes
call-sent : spelling (entry.Call 1 12 2 (extra.Sent 2 (codes "ab")))
    ≡ 7 ∷ 1 ∷ 0 ∷ 0 ∷ 0 ∷ 12 ∷ 0 ∷ 0 ∷ 0 ∷ 0 ∷ 0 ∷ 0 ∷ 0 ∷ 2 ∷ 0 ∷ 0 ∷ 0 ∷ 0 ∷ 0 ∷ 0 ∷ 0
    ∷ 9 ∷ 2 ∷ 0 ∷ 0 ∷ 0 ∷ 2 ∷ 0 ∷ 0 ∷ 0 ∷ 0x61 ∷ 0x62 ∷ []
call-sent = refl

-- no process writes these registers: x1 to x31 are 0, and the next instruction is at 0x10004
idle : Cpu
idle = record { x = replicate 31 0; pc = 0x10004 }

-- 31 x 0000000000000000 0400010000000000 00 0100 ff04 256 x 00: no saved registers, and one block, 0x4ff
start-block : start_fields (record {
  cpu = idle;
  slot = None;
  blocks = record { number = 0x4ff; bytes = replicate 256 0 } ∷ [];
}) ≡ replicate 248 0 ++ (4 ∷ 0 ∷ 1 ∷ 0 ∷ 0 ∷ 0 ∷ 0 ∷ 0 ∷ 0 ∷ 1 ∷ 0 ∷ 0xff ∷ 4 ∷ replicate 256 0)
unfolding idle
start-block = refl

-- .. 01, the saved registers, 0000: saved registers, and no block
start-slot : start_fields (record { cpu = idle; slot = Some idle; blocks = [] })
    ≡ replicate 248 0 ++ (4 ∷ 0 ∷ 1 ∷ 0 ∷ 0 ∷ 0 ∷ 0 ∷ 0 ∷ 1 ∷ replicate 248 0) ++ (4 ∷ 0 ∷ 1 ∷ 0 ∷ 0 ∷ 0 ∷ 0 ∷ 0 ∷ 0 ∷ 0 ∷ [])
unfolding idle
start-slot = refl

-- .. 02 and the start behind the call's numbers
call-start : spelling (entry.Call 1 2 3 (extra.Start (record { cpu = idle; slot = None; blocks = [] })))
    ≡ (7 ∷ 1 ∷ 0 ∷ 0 ∷ 0 ∷ 2 ∷ 0 ∷ 0 ∷ 0 ∷ 0 ∷ 0 ∷ 0 ∷ 0 ∷ 3 ∷ 0 ∷ 0 ∷ 0 ∷ 0 ∷ 0 ∷ 0 ∷ 0 ∷ 2 ∷ replicate 248 0)
    ++ (4 ∷ 0 ∷ 1 ∷ 0 ∷ 0 ∷ 0 ∷ 0 ∷ 0 ∷ 0 ∷ 0 ∷ 0 ∷ [])
unfolding idle
call-start = refl

-- 04 02000000
unplug : spelling (entry.Unplug 2) ≡ 4 ∷ 2 ∷ 0 ∷ 0 ∷ 0 ∷ []
unplug = refl

-- 06 02000000 01 01 0400010000000000: signal 1 ended a call of process 2, whose handler is at 0x10004
signal : spelling (entry.Signal 2 1 true 0x10004)
    ≡ 6 ∷ 2 ∷ 0 ∷ 0 ∷ 0 ∷ 1 ∷ 1 ∷ 4 ∷ 0 ∷ 1 ∷ 0 ∷ 0 ∷ 0 ∷ 0 ∷ 0 ∷ []
signal = refl

-- 08 01000000 84: an end at a word that is no instruction
end : spelling (entry.End 1 132) ≡ 8 ∷ 1 ∷ 0 ∷ 0 ∷ 0 ∷ 0x84 ∷ []
end = refl
