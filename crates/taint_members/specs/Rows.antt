-- What steps do to the numbers of registers.
use Rattle.std.specs.Prelude.{◌≡◌, ℕ, ◌<◌, ◌==◌, ◌&&◌, Bool, if◌then◌else◌, List}
use Rattle.taint_pages.specs.Rows.{byte_in}

-- how many pages a private window has
abbrev pub window_pages : ℕ
window_pages = 64

-- the bytes of x10 have 0, and all others what they had
abbrev pub ClearsResult : List ℕ → List ℕ → Type 0
ClearsResult old new = (r i : ℕ) → i < 8 → byte_in new r i ≡ (if r == 10 then 0 else byte_in old r i)

-- what a slot keeps: the registers, but no result of a call that was cut off
abbrev pub IsSaved : Bool → List ℕ → List ℕ → Type 0
IsSaved cut registers slot = (r i : ℕ) → i < 8 → byte_in slot r i ≡ (if cut && (r == 10) then 0 else byte_in registers r i)

-- no byte has a set
abbrev pub AreZero : List ℕ → Type 0
AreZero row = (r i : ℕ) → byte_in row r i ≡ 0
