-- A memory as windows: ranges of addresses that are present. Numbers are little-endian.
use Rattle.std.specs.Prelude.{◌≡◌, ℕ, zero, suc, ◌+◌, ◌-◌, ◌*◌, ◌/◌, ◌%◌, ◌⊎◌, ◌&&◌, nat_le, if◌then◌else◌, Bool, List, [], ◌∷◌, length, take, drop, Option, Some, None, option_map}
use Rattle.arn_base.specs.Disk.{overwrite}

-- a range of addresses that is present: the first address, and the bytes
pub record Window : Type 0 where
  pub from : ℕ
  pub bytes : List ℕ

-- how many bytes an instruction loads or stores
abbrev pub IsAccessLength : ℕ → Type 0
IsAccessLength len = (len ≡ 1) ⊎ (len ≡ 2) ⊎ (len ≡ 4) ⊎ (len ≡ 8)

-- so many bytes at an address lie whole in the window
abbrev pub is_whole_in : Window → ℕ → ℕ → Bool
is_whole_in window at len =
    nat_le window.from at && nat_le (at + len) (window.from + length window.bytes)

-- the window's bytes at an address in it
abbrev pub window_bytes : Window → ℕ → ℕ → List ℕ
window_bytes window at len = take len (drop (at - window.from) window.bytes)

-- the window after bytes are written at an address in it
abbrev pub window_with : Window → ℕ → List ℕ → Window
window_with window at bytes =
    record { from = window.from; bytes = overwrite window.bytes (at - window.from) bytes }

-- the bytes at an address, where they lie whole in one window
abbrev pub bytes_at : List Window → ℕ → ℕ → Option (List ℕ)
bytes_at [] at len = None
bytes_at (window ∷ windows) at len =
    if is_whole_in window at len then Some (window_bytes window at len)
    else bytes_at windows at len

-- the windows after bytes are written at an address, in the window where they lie whole
abbrev pub with_bytes : List Window → ℕ → List ℕ → List Window
with_bytes [] at bytes = []
with_bytes (window ∷ windows) at bytes =
    if is_whole_in window at (length bytes) then window_with window at bytes ∷ windows
    else window ∷ with_bytes windows at bytes

-- the number that bytes spell, the lowest byte first
abbrev pub number_of : List ℕ → ℕ
number_of [] = 0
number_of (byte ∷ bytes) = byte + 256 * number_of bytes

-- the lowest so many bytes of a number, the lowest first
unfoldable pub bytes_of : ℕ → ℕ → List ℕ
bytes_of zero number = []
bytes_of (suc len) number = number % 256 ∷ bytes_of len (number / 256)

-- the number that the bytes at an address spell, where they lie whole in one window
abbrev pub number_at : List Window → ℕ → ℕ → Option ℕ
number_at windows at len = option_map number_of (bytes_at windows at len)
