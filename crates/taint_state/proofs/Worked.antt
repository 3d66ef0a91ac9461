-- Worked values of the definitions.
use Rattle.std.proofs.Common.{◌≡◌, zero, suc, Some, None, refl}
use Rattle.acts_model.specs.Transfers.{Forks, Exits, Shares}
use Rattle.lineage_model.specs.Flow.{StartRegister, StartSlot, StartMemory}
use Rattle.taint_state.specs.Shown.{item_of, place_of}
use Rattle.taint_state.specs.Steps.{Holders, holders_after}
use Rattle.taint_state.specs.Asked.{start_at}

-- bytes with which a child begins: x1's first, x31's last, the same of the slot, and a byte of the window
first_register : place_of (StartRegister 1 0) ≡ 0
first_register = refl

last_register : place_of (StartRegister 31 7) ≡ 247
last_register = refl

first_slot : place_of (StartSlot 1 0) ≡ 248
first_slot = refl

last_slot : place_of (StartSlot 31 7) ≡ 495
last_slot = refl

window_byte : item_of (record { event = 3; at = StartMemory 65536 }) ≡ record { event = 3; at = 65536 }
window_byte = refl

-- and back
starts_at_x1 : start_at 7 ≡ Some (StartRegister 1 7)
starts_at_x1 = refl

starts_at_x2 : start_at 8 ≡ Some (StartRegister 2 0)
starts_at_x2 = refl

starts_at_slot : start_at 495 ≡ Some (StartSlot 31 7)
starts_at_slot = refl

starts_nowhere : start_at 496 ≡ None
starts_nowhere = refl

starts_in_window : start_at 65536 ≡ Some (StartMemory 65536)
starts_in_window = refl

-- one member, which holds a segment
abbrev one : Holders
one zero = None
one (suc zero) = Some (record { window = 0; segment = Some 4 })
one (suc (suc pid)) = None

-- its child shares the segment, and has a window of its own
child : holders_after (Forks 1 2 0 9) one 2 ≡ Some (record { window = 9; segment = Some 4 })
child = refl

parent : holders_after (Forks 1 2 0 9) one 1 ≡ Some (record { window = 0; segment = Some 4 })
parent = refl

another_segment : holders_after (Shares 1 9) one 1 ≡ Some (record { window = 0; segment = Some 9 })
another_segment = refl

gone : holders_after (Exits 1) one 1 ≡ None
gone = refl
