-- What is shown of live processes: what each sees, and how it takes signals. Processes that share a segment name it by the same event.
use Rattle.std.specs.Prelude.{◌≢◌, ◌≤◌, ◌+◌, ◌*◌, ℕ, List, Bool, Option, Some, IfSome, IsSome, option_map}
use Rattle.arn_base.specs.declared.machine.Block.{Block}
use Rattle.parts_model.specs.declared.limits.TheConstants.{BLOCK_LEN, WINDOW_LEN}
use Rattle.parts_model.specs.Numbered.{nth}
use Rattle.parts_model.specs.Signals.{Signals, no_handlers, none_pending}
use Rattle.acts_model.specs.Bodies.{Body, View}

-- which signals have handlers, and which are pending
pub record Watch : Type 0 where
  pub handlers : List ℕ
  pub pending : List Bool

-- no handler, and nothing pending
abbrev pub fresh_watch : Watch
fresh_watch = record { handlers = no_handlers; pending = none_pending }

-- a child has the same handlers, and nothing pending
abbrev pub inherited : Watch → Watch
inherited w = record { handlers = w.handlers; pending = none_pending }

-- who starts anew has no handlers; what is pending stays
abbrev pub restarted : Watch → Watch
restarted w = record { handlers = no_handlers; pending = w.pending }

-- a live process
pub record Shown : Type 0 where
  pub view : View
  pub watch : Watch

-- live processes by number
abbrev pub Guests : Type 0
Guests = List (Option Shown)

-- what a process sees, if it lives
abbrev pub seen_in : Guests → ℕ → Option View
seen_in guests p = option_map (λ shown. shown.view) (nth guests p)

-- how it takes signals
abbrev pub watch_in : Guests → ℕ → Option Watch
watch_in guests p = option_map (λ shown. shown.watch) (nth guests p)

-- its signals, the slot among them
abbrev pub signals_of : Shown → Signals
signals_of shown = record { handlers = shown.watch.handlers; pending = shown.watch.pending; slot = shown.view.body.slot }

abbrev pub signals_in : Guests → ℕ → Option Signals
signals_in guests p = option_map signals_of (nth guests p)

-- the process lives
abbrev pub IsLive : Guests → ℕ → Type 0
IsLive guests p = IsSome (nth guests p)

-- a body holds no memory of this name
pub record IsUnheldBy (made : ℕ) (x : Body) : Type 0 where
  pub window : x.window ≢ made
  pub segment : x.segment ≢ Some made

-- no live process holds a memory that this event made
pub record IsFresh (guests : Guests) (event : ℕ) : Type 0 where
  pub unheld : (p : ℕ) → IfSome (seen_in guests p) (λ v. IsUnheldBy event v.body)

-- a block of a window lies whole in it
abbrev pub IsInside : Block → Type 0
IsInside block = BLOCK_LEN * (block.number + 1) ≤ WINDOW_LEN
