-- Which groups received bytes of which, and which are connected through others.
use Rattle.std.specs.Prelude.{◌≡◌, ℕ, ◌==◌, ◌||◌, Bool, if◌then◌else◌, List, Option, Some, None, option_and_then, Contains}
use Rattle.arn_base.specs.declared.records.Extra.{Extra}
use Rattle.arn_base.specs.declared.records.Extra.TheVariants as extra
use Rattle.arn_base.specs.declared.records.Give.{Give}
use Rattle.arn_base.specs.declared.records.Origin.{Origin}
use Rattle.arn_base.specs.declared.records.Record.{Record}
use Rattle.arn_base.specs.declared.records.Record.TheVariants as entry
use Rattle.parts_model.specs.declared.calls.TheConstants.{EXEC, WAIT, READ}
use Rattle.acts_model.specs.Records.{child_founded, child_told}
use Rattle.history_model.specs.Events.{event_at}
use Rattle.history_model.specs.Groups.{event_group}

-- the calls that receive bytes with their origins: exec, wait and read
abbrev pub is_receiving : ℕ → Bool
is_receiving number = (number == EXEC) || ((number == WAIT) || (number == READ))

abbrev pub call_received : ℕ → Extra → Option Give
call_received number (extra.Give give) = if is_receiving number then Some give else None
call_received number more = None

-- the bytes that an event received, with their origins
abbrev pub received : Record → Option Give
received (entry.Boot name give) = Some give
received (entry.Call pid number result more) = call_received number more
received other = None

-- the child that an event made, if it started a group
abbrev pub founded : Record → Option ℕ
founded e = child_founded (child_told e)

-- group h is connected to group g: g received a byte of an event of h, or a process of h made the child that started g
pub data Edge (entries : List Record) (h g : ℕ) : Type 0 where
  ByBytes : (n : ℕ) (give : Give) (origin : Origin) → event_group entries n ≡ Some g → option_and_then received (event_at entries n) ≡ Some give
      → Contains give.origins origin → event_group entries origin.event ≡ Some h → Edge entries h g
  ByFork : (n : ℕ) → event_group entries n ≡ Some h → option_and_then founded (event_at entries n) ≡ Some g → Edge entries h g

-- the groups from which some of these can have received bytes, at any distance
pub data Back (entries : List Record) (from : List ℕ) : ℕ → Type 0 where
  Starting : (g : ℕ) → Contains from g → Back entries from g
  Backward : (g next : ℕ) → Back entries from next → Edge entries g next → Back entries from g

-- the groups that can have received bytes from some of these
pub data Forth (entries : List Record) (from : List ℕ) : ℕ → Type 0 where
  Beginning : (g : ℕ) → Contains from g → Forth entries from g
  Forward : (g previous : ℕ) → Forth entries from previous → Edge entries previous g → Forth entries from g
