-- Which numbers are too large for a process of a history, or for a count of its bytes.
use Rattle.std.specs.Prelude.{◌≡◌, ℕ, ◌≤◌, ◌^◌, false, List}
use Rattle.arn_base.specs.declared.records.Record.{Record}
use Rattle.history_index.specs.Indexes.{AreCountable, Indexes}
use Rattle.history_index.specs.Tables.{Tables}
use Rattle.past_lives.specs.Members.{is_member, is_memory_range}

-- no process has a number that 32 bits don't count, and none has so many bytes that can be asked for
pub record HasNoneFar (entries : List Record) : Type 0 where
  pub process : (moment pid : ℕ) → 2 ^ 32 ≤ pid → is_member entries moment pid ≡ false
  pub memory : (moment pid at len : ℕ) → 2 ^ 32 ≤ pid → is_memory_range entries moment pid at len ≡ false
  pub long : (moment pid at len : ℕ) → 2 ^ 32 ≤ len → is_memory_range entries moment pid at len ≡ false

-- so it is on all records that can be indexed
abbrev pub FarIsNowhere : Type 0
FarIsNowhere = (t : Tables) (entries : List Record) → AreCountable entries → Indexes t entries → HasNoneFar entries
