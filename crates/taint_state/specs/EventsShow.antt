-- Where what is kept changes so by an event, what is shown goes on by the step.
use Rattle.std.specs.Prelude.{◌≡◌, ℕ, Bool, List, Some, None}
use Rattle.arn_base.specs.declared.machine.Cpu.{Cpu}
use Rattle.arn_base.specs.declared.records.Record.{Record}
use Rattle.acts_model.specs.Moved.{Inside}
use Rattle.acts_model.specs.Records.{event_len}
use Rattle.acts_model.specs.Transfers.{Starts, Returns, Receives, Gives, Forks, Founds, Shares, Delivers, Leaves, Exits, Faults, Dies, place_of}
use Rattle.taint_events.specs.Bytes.{AreEmpty, AreGiven, AreReceived, IsStatus}
use Rattle.taint_state.specs.Events.{Becomes, BecomesShared, BecomesTwo, Begins, BeginsTo, DeliversTo, ForksTo, FoundsTo, LeavesTo, ReceivesTo, ReturnsTo, SharesTo, StartsTo, event_by_member, number_at, plain_heard}
use Rattle.taint_state.specs.Goes.{GoesBy, begin_inside}
use Rattle.taint_state.specs.Kept.{Kept, KeptMember, KeptStart, shown}
use Rattle.taint_state.specs.Sound.{IsSound}

-- what is kept stays sound, and what is shown goes on by the step
pub record Follows (inside : Inside) (x y : Kept) : Type 0 where
  pub sound : IsSound y
  pub goes : GoesBy inside (shown x) (shown y)

-- a call that moves no bytes
abbrev pub ReturnsShow : Type 0
ReturnsShow =
    (x y : Kept) (pid event : ℕ) (e : Record) (before : Cpu) (old new : KeptMember) (numbers : List ℕ)
    → IsSound x → AreEmpty (event_len e) numbers → ReturnsTo old new → Becomes pid old (Some new) (plain_heard event numbers) x y
    → Follows (event_by_member pid before (Returns pid) event e) x y

-- a delivery to a handler, and the return from it
abbrev pub DeliversShow : Type 0
DeliversShow =
    (x y : Kept) (pid event : ℕ) (e : Record) (before : Cpu) (cut : Bool) (old new : KeptMember) (numbers : List ℕ)
    → IsSound x → AreEmpty (event_len e) numbers → DeliversTo cut old new → Becomes pid old (Some new) (plain_heard event numbers) x y
    → Follows (event_by_member pid before (Delivers pid cut) event e) x y

abbrev pub LeavesShow : Type 0
LeavesShow =
    (x y : Kept) (pid event : ℕ) (e : Record) (before : Cpu) (old new : KeptMember) (numbers : List ℕ)
    → IsSound x → AreEmpty (event_len e) numbers → LeavesTo old new → Becomes pid old (Some new) (plain_heard event numbers) x y
    → Follows (event_by_member pid before (Leaves pid) event e) x y

-- a member ends by a call, by a fault, or by a signal
abbrev pub ExitsShow : Type 0
ExitsShow =
    (x y : Kept) (pid event : ℕ) (e : Record) (before : Cpu) (old : KeptMember) (numbers : List ℕ)
    → IsSound x → IsStatus old.registers (event_len e) numbers → Becomes pid old None (plain_heard event numbers) x y
    → Follows (event_by_member pid before (Exits pid) event e) x y

abbrev pub FaultsShow : Type 0
FaultsShow =
    (x y : Kept) (pid event : ℕ) (e : Record) (before : Cpu) (old : KeptMember) (numbers : List ℕ)
    → IsSound x → AreEmpty (event_len e) numbers → Becomes pid old None (plain_heard event numbers) x y
    → Follows (event_by_member pid before (Faults pid) event e) x y

abbrev pub DiesShow : Type 0
DiesShow =
    (x y : Kept) (pid event : ℕ) (e : Record) (before : Cpu) (old : KeptMember) (numbers : List ℕ)
    → IsSound x → AreEmpty (event_len e) numbers → Becomes pid old None (plain_heard event numbers) x y
    → Follows (event_by_member pid before (Dies pid) event e) x y

-- a member gives bytes of its memory
abbrev pub GivesShow : Type 0
GivesShow =
    (x y : Kept) (pid event : ℕ) (e : Record) (before : Cpu) (at len : ℕ) (old new : KeptMember) (numbers : List ℕ)
    → IsSound x → len ≡ event_len e → AreGiven (number_at old at) len numbers → ReturnsTo old new
    → Becomes pid old (Some new) (plain_heard event numbers) x y
    → Follows (event_by_member pid before (Gives pid (place_of old.holds at len) len) event e) x y

-- it gets a fresh segment
abbrev pub SharesShow : Type 0
SharesShow =
    (x y : Kept) (pid event : ℕ) (e : Record) (before : Cpu) (old new : KeptMember) (numbers : List ℕ)
    → IsSound x → AreEmpty (event_len e) numbers → SharesTo event old new → BecomesShared pid old new (plain_heard event numbers) x y
    → Follows (event_by_member pid before (Shares pid event) event e) x y

-- it makes a child in the group
abbrev pub ForksShow : Type 0
ForksShow =
    (x y : Kept) (pid event : ℕ) (e : Record) (before : Cpu) (child : ℕ) (old new kid : KeptMember) (numbers : List ℕ)
    → IsSound x → AreEmpty (event_len e) numbers → ReturnsTo old new → ForksTo event old kid → BecomesTwo pid child old new kid (plain_heard event numbers) x y
    → Follows (event_by_member pid before (Forks pid child old.holds.window event) event e) x y

-- or one that starts a group
abbrev pub FoundsShow : Type 0
FoundsShow =
    (x y : Kept) (pid event : ℕ) (e : Record) (before : Cpu) (child : ℕ) (old new : KeptMember) (start : KeptStart) (numbers : List ℕ)
    → IsSound x → AreEmpty (event_len e) numbers → ReturnsTo old new → FoundsTo old start
    → Becomes pid old (Some new) (record { event = event; numbers = numbers; start = Some start }) x y
    → Follows (event_by_member pid before (Founds pid child old.holds.window event) event e) x y

-- it receives bytes
abbrev pub ReceivesShow : Type 0
ReceivesShow =
    (x y : Kept) (pid event : ℕ) (e : Record) (before : Cpu) (at len : ℕ) (old new : KeptMember) (numbers : List ℕ)
    → IsSound x → len ≡ event_len e → AreReceived y.sets event len numbers → ReceivesTo at numbers old new
    → BecomesShared pid old new (plain_heard event numbers) x y
    → Follows (event_by_member pid before (Receives pid (place_of old.holds at len) len) event e) x y

-- it starts from an image
abbrev pub StartsShow : Type 0
StartsShow =
    (x y : Kept) (pid event : ℕ) (e : Record) (before : Cpu) (load len block block_len : ℕ) (old new : KeptMember) (numbers : List ℕ)
    → IsSound x → len ≡ event_len e → AreReceived y.sets event len numbers → StartsTo event load numbers block block_len old new
    → BecomesShared pid old new (plain_heard event numbers) x y
    → Follows (event_by_member pid before (Starts pid event load len (place_of old.holds block block_len) block_len) event e) x y

-- a member begins without a parent
abbrev pub BeginsShow : Type 0
BeginsShow =
    (x y : Kept) (pid event : ℕ) (e : Record) (before : Cpu) (new : KeptMember) → IsSound x → BeginsTo y event new → Begins pid event new x y
    → Follows (begin_inside pid event e before) x y
