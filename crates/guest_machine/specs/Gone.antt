-- A device that was unplugged isn't asked.
use Rattle.std.specs.Prelude.{◌≡◌, ◌==◌, ℕ, Bool, true, false, Option, None, Some}
use Rattle.arn_model.specs.TransferCalls.{was_unplugged}
use Rattle.guest_devices.specs.Answers.{Asked, Here, Reads, Writes}
use Rattle.guest_legs.specs.Legs.{Ask, Picked}
use Rattle.guest_machine.specs.Asked.{slice_asks}

-- device n is asked this
abbrev pub is_to : ℕ → Asked → Bool
is_to n (Here m) = m == n
is_to n (Reads m len) = m == n
is_to n (Writes m bytes) = m == n

-- device n is asked, where anything may be asked
abbrev pub asks_device : ℕ → Option Asked → Bool
asks_device n None = false
asks_device n (Some asked) = is_to n asked

-- no slice asks a device that was unplugged before it
abbrev pub GoneUnasked : Type 0
GoneUnasked = (ask : Ask) (s : Picked) (n : ℕ) → was_unplugged ask.machine.kernel n ≡ true → asks_device n (slice_asks ask s) ≡ false
