-- The number of a byte of which one may ask.
use Rattle.std.specs.Prelude.{ℕ, ◌+◌, ◌-◌, ◌/◌, ◌%◌, ◌==◌, ◌&&◌, nat_lt, if◌then◌else◌, length, slice_index, Option, Some, None, option_map, option_and_then}
use Rattle.parts_model.specs.declared.limits.TheConstants.{SEGMENT_START, WINDOW_START}
use Rattle.parts_model.specs.Numbered.{nth}
use Rattle.acts_model.specs.Transfers.{is_private, is_shared}
use Rattle.taint_pages.specs.Rows.{byte_in}
use Rattle.taint_state.specs.declared.point.Point.{Point}
use Rattle.taint_state.specs.declared.point.Point.TheVariants as point
use Rattle.taint_state.specs.Asked.{where_true}
use Rattle.taint_state.specs.Kept.{Kept, KeptHeard, KeptMember, KeptStart, heard_among}
use Rattle.taint_state.specs.Shown.{register_bytes}

-- of an event
abbrev pub event_number : ℕ → KeptHeard → Option ℕ
event_number at heard = where_true (nat_lt at (length heard.numbers)) (slice_index heard.numbers at)

-- of those with which a child begins
abbrev pub start_number : ℕ → KeptStart → Option ℕ
start_number at start =
    if nat_lt at register_bytes then Some (byte_in start.registers (at / 8 + 1) (at % 8))
    else if nat_lt at (register_bytes + register_bytes) then Some (byte_in start.slot ((at - register_bytes) / 8 + 1) ((at - register_bytes) % 8))
    else where_true (is_private at) (slice_index start.window (at - WINDOW_START))

-- of a fork that started a group
abbrev pub fork_number : ℕ → KeptHeard → Option ℕ
fork_number at heard = option_and_then (start_number at) heard.start

-- of a window
abbrev pub memory_number : ℕ → KeptMember → Option ℕ
memory_number at m =
    if is_private at then Some (slice_index m.window (at - WINDOW_START))
    else if is_shared at then option_map (λ (made : ℕ). slice_index m.segment (at - SEGMENT_START)) m.holds.segment
    else None

-- of a register, of which x0 has 0
abbrev pub register_number : ℕ → ℕ → KeptMember → Option ℕ
register_number r i m = where_true (nat_lt r 32 && nat_lt i 8) (if r == 0 then 0 else byte_in m.registers r i)

-- none where the group has no such byte
abbrev pub point_number : Kept → Point → Option ℕ
point_number kept (point.Event event at) = option_and_then (event_number at) (heard_among kept.heard event)
point_number kept (point.Start event at) = option_and_then (fork_number at) (heard_among kept.heard event)
point_number kept (point.Mem pid at) = option_and_then (memory_number at) (nth kept.members pid)
point_number kept (point.Reg pid reg byte) = option_and_then (register_number reg byte) (nth kept.members pid)
