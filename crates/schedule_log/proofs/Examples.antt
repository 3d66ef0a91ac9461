-- Spellings at literal values.
use Rattle.std.proofs.Common.{◌≡◌, [], ◌∷◌, codes, refl}
use Rattle.std.specs.Prelude.{true, false}
use Rattle.schedule_log.specs.Fields.{counted, field, named}
use Rattle.schedule_log.specs.Schedule.{signal_spelling, slice_spelling}

-- 0201: the lowest byte first
number : field 2 258 ≡ 2 ∷ 1 ∷ []
number = refl

-- 02000000 6162
list : counted (codes "ab") ≡ 2 ∷ 0 ∷ 0 ∷ 0 ∷ 0x61 ∷ 0x62 ∷ []
list = refl

-- 02 6162
name : named (codes "ab") ≡ 2 ∷ 0x61 ∷ 0x62 ∷ []
name = refl

-- 05 01000000 40420f00: a million instructions
slice : slice_spelling 1 1_000_000 ≡ 5 ∷ 1 ∷ 0 ∷ 0 ∷ 0 ∷ 0x40 ∷ 0x42 ∷ 0x0f ∷ 0 ∷ []
slice = refl

-- 06 02000000 01 01 0400010000000000: signal 1 ended a call of process 2, whose handler is at 0x10004
signal-cut : signal_spelling (record { pid = 2; signal = 1; cut = true; handler = 0x10004 })
    ≡ 6 ∷ 2 ∷ 0 ∷ 0 ∷ 0 ∷ 1 ∷ 1 ∷ 4 ∷ 0 ∷ 1 ∷ 0 ∷ 0 ∷ 0 ∷ 0 ∷ 0 ∷ []
signal-cut = refl

-- 06 03000000 09 00 0000000000000000: signal 9 ended process 3
signal-fatal : signal_spelling (record { pid = 3; signal = 9; cut = false; handler = 0 })
    ≡ 6 ∷ 3 ∷ 0 ∷ 0 ∷ 0 ∷ 9 ∷ 0 ∷ 0 ∷ 0 ∷ 0 ∷ 0 ∷ 0 ∷ 0 ∷ 0 ∷ 0 ∷ []
signal-fatal = refl
