-- Bytes of events by numbers.
use Rattle.std.specs.Prelude.{ℕ, ◌+◌, ◌-◌, ◌/◌, ◌%◌, nat_lt, if◌then◌else◌}
use Rattle.lineage_model.specs.Flow.{At, Byte, StartRegister, StartSlot, StartMemory}
use Rattle.taint_state.specs.Shown.{register_bytes}
use Rattle.lineage_join.specs.declared.demand.Place.{Place}
use Rattle.lineage_join.specs.declared.demand.Place.TheVariants as place

-- the byte with which a child begins that has this number: registers first, then those of the slot, then the window by address
abbrev pub start_at : ℕ → At
start_at n =
    if nat_lt n register_bytes then StartRegister (n / 8 + 1) (n % 8)
    else if nat_lt n (register_bytes + register_bytes) then StartSlot ((n - register_bytes) / 8 + 1) ((n - register_bytes) % 8)
    else StartMemory n

abbrev pub at_of : Place → At
at_of (place.Byte k) = Byte k
at_of (place.Start n) = start_at n
