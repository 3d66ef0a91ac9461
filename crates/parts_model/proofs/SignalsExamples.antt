-- Signals at literal values.
use Rattle.std.proofs.Common.{◌≡◌, List, Some, None, Bool, true, false, refl}
use Rattle.parts_model.specs.Signals.{no_handlers, none_pending, is_signal, can_set, handler_of, with_handler, with_pending, due, without}

-- signals 3 and 9 are pending, or 3 and 31
three_and_kill : List Bool
three_and_kill = with_pending (with_pending none_pending 3 true) 9 true

three_and_last : List Bool
three_and_last = with_pending (with_pending none_pending 31 true) 3 true

-- signal 9 is due first, also with a filled slot
signals-due :
    (due three_and_kill false ≡ Some 9)
    × (due three_and_kill true ≡ Some 9)
    -- else the lowest is, and none while the slot is filled
    × (due three_and_last false ≡ Some 3)
    × (due three_and_last true ≡ None)
    × (due (without three_and_last (Some 3)) false ≡ Some 31)
    × (due none_pending false ≡ None)
unfolding three_and_kill three_and_last
signals-due = (refl, refl, refl, refl, refl, refl)

-- signals are 1 to 31
signals :
    (is_signal 0 ≡ false)
    × (is_signal 1 ≡ true)
    × (is_signal 31 ≡ true)
    × (is_signal 32 ≡ false)
signals = (refl, refl, refl, refl)

-- a handler may be set for any but 9, at a multiple of 4; 0 is none
handlers-set :
    (can_set 8 0x10004 ≡ true)
    × (can_set 9 0x10004 ≡ false)
    × (can_set 32 0x10004 ≡ false)
    × (can_set 8 0x10002 ≡ false)
    × (can_set 8 0 ≡ true)
handlers-set = (refl, refl, refl, refl, refl)

-- each signal has its own
handlers-kept :
    (handler_of (with_handler no_handlers 31 0x10004) 31 ≡ 0x10004)
    × (handler_of (with_handler no_handlers 31 0x10004) 30 ≡ 0)
handlers-kept = (refl, refl)
