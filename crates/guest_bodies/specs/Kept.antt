-- Processes as they are kept, and what is shown of them.
use Rattle.std.specs.Prelude.{◌≡◌, ◌≢◌, ◌==◌, ℕ, Bool, true, false, cond, List, map, slice_set as set, Option, Some, None, IfSome, IsSome, option_map}
use Rattle.std.specs.List.{list_any}
use Rattle.arn_base.specs.Window.{Window}
use Rattle.parts_model.specs.Memory.{windows}
use Rattle.parts_model.specs.Numbered.{nth}
use Rattle.acts_model.specs.Bodies.{Body, View}
use Rattle.guest_bodies.specs.Shown.{Watch, Shown, Guests}
use Rattle.guest_bodies.specs.Tables.{IfHeld, SameNames, Table, Tables, held_bytes, with_held}
use Rattle.guest_bodies.specs.declared.guest.Guest.{Guest}
use Rattle.guest_bodies.specs.declared.guest.Held.{Held}
use Rattle.guest_bodies.specs.declared.reach.Reach.{Reach}

abbrev pub body_of : Guest → Body
body_of g = record { cpu = g.cpu; slot = g.signals.slot; window = g.window.made; segment = option_map (λ h. h.made) g.segment }

abbrev pub view_of : Tables → Guest → View
view_of tables g = record { body = body_of g; window = held_bytes tables.windows (Some g.window); segment = held_bytes tables.segments g.segment }

abbrev pub watch_of : Guest → Watch
watch_of g = record { handlers = g.signals.handlers; pending = g.signals.pending }

abbrev pub shown_of : Tables → Guest → Shown
shown_of tables g = record { view = view_of tables g; watch = watch_of g }

abbrev pub shown_all : List (Option Guest) → Tables → Guests
shown_all guests tables = map (option_map (shown_of tables)) guests

-- the windows of the memories that are at hand
abbrev pub windows_of : Reach → List Window
windows_of r = windows r.space.bytes (Some r.segment)

-- the bytes of the memories of one process
pub record Contents : Type 0 where
  pub window : List ℕ
  pub segment : List ℕ

abbrev pub contents_of : Tables → Guest → Contents
contents_of tables g = record { window = held_bytes tables.windows (Some g.window); segment = held_bytes tables.segments g.segment }

-- the windows of a process that holds this segment, if any
abbrev pub windows_for : Option Held → Contents → List Window
windows_for o contents = windows contents.window (option_map (λ h. contents.segment) o)

-- the tables, with other bytes in the memories of a process
abbrev pub refilled : Guest → Contents → Tables → Tables
refilled g contents tables = record { windows = with_held (Some g.window) contents.window tables.windows; segments = with_held g.segment contents.segment tables.segments }

-- the memories of a process are in the tables
pub record AreThere (tables : Tables) (g : Guest) : Type 0 where
  pub window : IsSome (nth tables.windows g.window.key)
  pub segment : IfHeld g.segment tables.segments

-- the memories that a process may hold: its window, and its segment
abbrev pub window_part : Guest → Option Held
window_part g = Some g.window

abbrev pub segment_part : Guest → Option Held
segment_part g = g.segment

-- the memory has this key
abbrev pub has_key : ℕ → Option Held → Bool
has_key key None = false
has_key key (Some h) = h.key == key

-- a process holds the memory under this key
abbrev pub holds_key : (Guest → Option Held) → ℕ → Option Guest → Bool
holds_key part key None = false
holds_key part key (Some g) = has_key key (part g)

-- one of these does
abbrev pub is_held : (Guest → Option Held) → List (Option Guest) → ℕ → Bool
is_held part guests key = list_any (holds_key part key) guests

-- the table, without a memory that was held and that none of these holds
abbrev pub released : (Guest → Option Held) → List (Option Guest) → Option Held → Table → Table
released part guests None table = table
released part guests (Some h) table = cond (is_held part guests h.key) table (set table h.key None)

-- Two processes name memories alike. Each may hold what the other holds; no window is a segment.
pub record NameAlike (g h : Guest) : Type 0 where
  pub windows : SameNames g.window h.window
  pub segments : IfSome g.segment (λ s. IfSome h.segment (SameNames s))
  pub kinds : IfSome g.segment (λ s. s.made ≢ h.window.made)

-- every process has its memories in the tables, and all name them alike
pub record IsSound (guests : List (Option Guest)) (tables : Tables) : Type 0 where
  pub there : (p : ℕ) → IfSome (nth guests p) (AreThere tables)
  pub alike : (p q : ℕ) → IfSome (nth guests p) (λ g. IfSome (nth guests q) (NameAlike g))

-- each memory in the table is held
abbrev pub AllHeld : (Guest → Option Held) → List (Option Guest) → Table → Type 0
AllHeld part guests table = (key : ℕ) → IsSome (nth table key) → is_held part guests key ≡ true

-- and no memory is in the tables that no process holds
pub record IsKept (guests : List (Option Guest)) (tables : Tables) : Type 0 where
  pub sound : IsSound guests tables
  pub windows : AllHeld window_part guests tables.windows
  pub segments : AllHeld segment_part guests tables.segments
