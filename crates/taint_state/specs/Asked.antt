-- What is answered of a point.
use Rattle.std.specs.Prelude.{ℕ, ◌+◌, ◌-◌, ◌/◌, ◌%◌, ◌==◌, ◌&&◌, nat_lt, Bool, if◌then◌else◌, List, [], Option, Some, None, option_map, option_and_then}
use Rattle.set_store.specs.declared.item.Item.{Item}
use Rattle.acts_model.specs.Transfers.{is_private, is_shared}
use Rattle.lineage_model.specs.Flow.{At, Byte, StartRegister, StartSlot, StartMemory}
use Rattle.taint_state.specs.declared.point.Point.{Point}
use Rattle.taint_state.specs.declared.point.Point.TheVariants as point
use Rattle.taint_state.specs.Shown.{Heard, Member, Tracking, register_bytes}

-- this, where the test holds
abbrev pub where_true : {A : Type 0} → Bool → A → Option A
where_true test a = if test then Some a else None

-- a byte of an event
abbrev pub event_answer : ℕ → Heard → Option (List Item)
event_answer at heard = where_true (nat_lt at heard.len) (heard.points (Byte at))

-- the byte with which a child begins that has this number
abbrev pub start_at : ℕ → Option At
start_at at =
    if nat_lt at register_bytes then Some (StartRegister (at / 8 + 1) (at % 8))
    else if nat_lt at (register_bytes + register_bytes) then Some (StartSlot ((at - register_bytes) / 8 + 1) ((at - register_bytes) % 8))
    else where_true (is_private at) (StartMemory at)

-- a byte of a fork that started a group
abbrev pub start_answer : ℕ → Heard → Option (List Item)
start_answer at heard = if heard.founds then option_map heard.points (start_at at) else None

-- a byte of a window
abbrev pub memory_answer : ℕ → Member → Option (List Item)
memory_answer at m =
    if is_private at then Some (m.window at)
    else if is_shared at then option_map (λ (made : ℕ). m.segment at) m.holds.segment
    else None

-- a byte of a register, of which x0 has none
abbrev pub register_items : ℕ → ℕ → Member → List Item
register_items r i m = if r == 0 then [] else m.registers r i

abbrev pub register_answer : ℕ → ℕ → Member → Option (List Item)
register_answer r i m = where_true (nat_lt r 32 && nat_lt i 8) (register_items r i m)

-- none where the group has no such byte
abbrev pub answer : Tracking → Point → Option (List Item)
answer x (point.Event event at) = option_and_then (event_answer at) (x.heard event)
answer x (point.Start event at) = option_and_then (start_answer at) (x.heard event)
answer x (point.Mem pid at) = option_and_then (memory_answer at) (x.members pid)
answer x (point.Reg pid reg byte) = option_and_then (register_answer reg byte) (x.members pid)
