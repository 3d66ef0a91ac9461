-- The numbers of a member's bytes by address.
use Rattle.std.specs.Prelude.{◌≡◌, ◌≢◌, ℕ, ◌+◌, ◌-◌, ◌<◌, ◌≤◌, ◌==◌, ◌||◌, nat_lt, Bool, true, false, if◌then◌else◌, List, [], length, slice_index, slice_index_or, Option, Some, None, IfSome, option_map}
use Rattle.parts_model.specs.declared.limits.TheConstants.{WINDOW_START, SEGMENT_START}
use Rattle.acts_model.specs.Transfers.{is_private, is_shared}
use Rattle.taint_pages.specs.Pages.{Puts}
use Rattle.taint_pages.specs.Rows.{byte_in}
use Rattle.taint_members.specs.declared.access.KeyOffset.{KeyOffset}
use Rattle.taint_members.specs.declared.member.MemberSets.{MemberSets}
use Rattle.taint_members.specs.declared.member.Held.{Held}

-- the memories by key: windows and segments alike
abbrev pub Memories : Type 0
Memories = List (List ℕ)

-- a memory that may be held is in the table
abbrev pub HoldsKey : Option Held → Memories → Type 0
HoldsKey held memories = IfSome held (λ (h : Held). h.key < length memories)

-- so are those of a member
pub record HoldsKeys (m : MemberSets) (memories : Memories) : Type 0 where
  pub window : m.window.key < length memories
  pub segment : HoldsKey m.segment memories

-- its window isn't its segment
abbrev pub HasTwoKeys : MemberSets → Type 0
HasTwoKeys m = IfSome m.segment (λ (held : Held). m.window.key ≢ held.key)

-- the numbers of a memory that may be held
abbrev pub held_numbers : Option Held → Memories → List ℕ
held_numbers None memories = []
held_numbers (Some held) memories = slice_index_or memories held.key []

-- those of a member's window
abbrev pub window_numbers : MemberSets → Memories → List ℕ
window_numbers m memories = slice_index_or memories m.window.key []

-- the number of byte k from an address on, of a segment that may be held
abbrev pub shared_number : Option Held → Memories → ℕ → ℕ → ℕ
shared_number segment memories at k =
    if is_shared at then slice_index (held_numbers segment memories) (at - SEGMENT_START + k) else 0

-- and of the memories of a member
abbrev pub number_at : MemberSets → Memories → ℕ → ℕ → ℕ
number_at m memories at k =
    if is_private at then slice_index (window_numbers m memories) (at - WINDOW_START + k) else shared_number m.segment memories at k

-- where an address lies in a segment that may be held
abbrev pub segment_place : Option Held → ℕ → Option KeyOffset
segment_place segment at = option_map (λ (held : Held). record { key = held.key; offset = at - SEGMENT_START }) segment

-- and where it lies in the memories of a member
abbrev pub place_in : MemberSets → ℕ → Option KeyOffset
place_in m at =
    if is_private at then Some (record { key = m.window.key; offset = at - WINDOW_START }) else if is_shared at then segment_place m.segment at else None

-- eight numbers, of which so many are these, and zeros behind them
pub record AreFirst (count : ℕ) (number : ℕ → ℕ) (eight : List ℕ) : Type 0 where
  pub len : length eight ≡ 8
  pub bytes : (k : ℕ) → k < count → slice_index eight k ≡ number k
  pub zeros : (k : ℕ) → count ≤ k → slice_index eight k ≡ 0

abbrev pub AreRead : MemberSets → Memories → ℕ → ℕ → List ℕ → Type 0
AreRead m memories at count eight = AreFirst count (number_at m memories at) eight

-- the bytes of one register have the numbers of so many bytes, and zeros behind them
abbrev pub PutsFirst : ℕ → (ℕ → ℕ) → ℕ → List ℕ → List ℕ → Type 0
PutsFirst count number reg old new =
    (r i : ℕ) → i < 8 → byte_in new r i ≡ (if r == reg then (if nat_lt i count then number i else 0) else byte_in old r i)

-- a register gets the numbers of so many bytes from an address on, of the memories of a member
abbrev pub PutsRead : MemberSets → Memories → ℕ → ℕ → ℕ → List ℕ → List ℕ → Type 0
PutsRead m memories at count reg old new = PutsFirst count (number_at m memories at) reg old new

-- whether an address lies in the segment that may be held
abbrev pub in_segment : Option Held → ℕ → Bool
in_segment None at = false
in_segment (Some held) at = is_shared at

-- whether it lies in a memory of a member
abbrev pub in_memory : Option Held → ℕ → Bool
in_memory segment at = is_private at || in_segment segment at

-- the first, where the test holds, and else the other
abbrev pub ByTest : Bool → Type 0 → Type 0 → Type 0
ByTest true first other = first
ByTest false first other = other

-- one memory has other numbers from a place on, and all others what they had
pub record WritesKey (key at : ℕ) (numbers : List ℕ) (old new : Memories) : Type 0 where
  pub one : Puts at numbers (slice_index_or old key []) (slice_index_or new key [])
  pub others : (k : ℕ) → k ≢ key → slice_index_or new k [] ≡ slice_index_or old k []

-- the same of a place that may be there
abbrev pub WritesAt : Option KeyOffset → List ℕ → Memories → Memories → Type 0
WritesAt None numbers old new = new ≡ old
WritesAt (Some place) numbers old new = WritesKey place.key place.offset numbers old new

-- a memory of a member has these numbers from an address on, where the address lies in one
abbrev pub Writes : ℕ → List ℕ → MemberSets → Memories → Memories → Type 0
Writes at numbers m old new = WritesAt (place_in m at) numbers old new
