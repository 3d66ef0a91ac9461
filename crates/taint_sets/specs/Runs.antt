-- Runs of received bytes, whose numbers follow each other.
use Rattle.std.specs.Prelude.{ℕ, ◌+◌, ◌-◌, ◌^◌, ◌<◌, ◌≤◌, nat_le, nat_lt, ◌&&◌, Bool, if◌then◌else◌, List, [], ◌∷◌, length, slice_index_or, Option, Some, None}
use Rattle.set_store.specs.declared.item.Item.{Item}
use Rattle.taint_sets.specs.declared.run.Run.{Run}

-- a run has the byte of a number
abbrev pub has : Run → ℕ → Bool
has run number = nat_le run.first number && nat_lt number (run.first + run.len)

-- the byte of a number, if the run has it
abbrev pub item_in : Run → ℕ → Option Item
item_in run number = if has run number then Some (record { event = run.event; at = run.at + (number - run.first) }) else None

-- if one of these runs has it
unfoldable pub item_among : List Run → ℕ → Option Item
item_among [] number = None
item_among (run ∷ runs) number = if has run number then item_in run number else item_among runs number

-- no bytes
abbrev pub no_run : Run
no_run = record { first = 0; len = 0; event = 0; at = 0 }

-- the run at a place
abbrev pub run_at : List Run → ℕ → Run
run_at runs place = slice_index_or runs place no_run

-- each run ends where the next one begins, or before, and its bytes are bytes of an event
pub record AreInOrder (runs : List Run) : Type 0 where
  pub rise : (i j : ℕ) → i < j → j < length runs → (run_at runs i).first + (run_at runs i).len ≤ (run_at runs j).first
  pub fit : (i : ℕ) → i < length runs → (run_at runs i).at + (run_at runs i).len ≤ 2 ^ 64

-- so many runs begin at a number or before it, and the others behind it
pub record IsRunBefore (runs : List Run) (number count : ℕ) : Type 0 where
  pub before : (i : ℕ) → i < count → (run_at runs i).first ≤ number
  pub behind : (i : ℕ) → count ≤ i → i < length runs → number < (run_at runs i).first

-- the byte so far behind one
abbrev pub byte_behind : Item → ℕ → Item
byte_behind item k = record { event = item.event; at = item.at + k }
