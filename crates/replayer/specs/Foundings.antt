-- How a group begins, as a record tells it.
use Rattle.std.specs.Prelude.{◌≡◌, ◌+◌, ◌==◌, ℕ, true, if◌then◌else◌, Option, Some, None, IfSome, option_and_then}
use Rattle.std.specs.List.{All}
use Rattle.arn_base.specs.declared.records.Record.{Record}
use Rattle.arn_base.specs.declared.records.Start.{Start}
use Rattle.acts_model.specs.Records.{Child, child_told}
use Rattle.guest_bodies.specs.Shown.{IsInside}
use Rattle.history_index.specs.Lookups.{founds}
use Rattle.history_model.specs.Broken.{start_in}

-- with what the group's first process begins, if a record tells it
abbrev pub own_start : ℕ → Child → Option Start
own_start group child = if child.number == group then child.start else None

abbrev pub start_of : ℕ → Record → Option Start
start_of group e = option_and_then (own_start group) (child_told e)

-- the number of the event that comes next, if the group begins by this one
abbrev pub event_behind : Option ℕ → ℕ
event_behind None = 0
event_behind (Some event) = event + 1

-- the group begins by this record
pub record Begins (group : ℕ) (e : Record) : Type 0 where
  pub founds : founds group e ≡ true
  pub inside : IfSome (start_in e) (λ start. All IsInside start.blocks)
