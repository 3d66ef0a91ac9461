-- What a tracker is asked of a byte of an event.
use Rattle.std.specs.Prelude.{ℕ, nat_lt, if◌then◌else◌, Option, Some, None, option_and_then}
use Rattle.history_model.specs.Events.{len_of}
use Rattle.lineage_join.specs.declared.demand.Place.{Place}
use Rattle.lineage_join.specs.declared.demand.Place.TheVariants as place
use Rattle.taint_state.specs.declared.point.Point.{Point}
use Rattle.taint_state.specs.declared.point.Point.TheVariants as point
use Rattle.followed_groups.specs.Following.{Following}

-- of an event of so many bytes: nothing behind its end
abbrev pub point_of : ℕ → Place → ℕ → Option Point
point_of event (place.Byte k) len = if nat_lt k len then Some (point.Event event k) else None
point_of event (place.Start n) len = Some (point.Start event n)

-- of an event of these records, if there is such a one
abbrev pub point_at : Following → ℕ → Place → Option Point
point_at f event place = option_and_then (point_of event place) (len_of f.entries event)
