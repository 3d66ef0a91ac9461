-- Which events of a history have happened at a moment, and what each tells of a process.
use Rattle.std.specs.Prelude.{ℕ, ◌==◌, nat_le, Bool, true, false, if◌then◌else◌, List, Option, Some, None}
use Rattle.arn_base.specs.declared.records.Record.{Record}
use Rattle.acts_model.specs.Records.{LifeChange, BeginsLife, EndsLife, NoLife}
use Rattle.history_index.specs.Lookups.{event_moment}
use Rattle.history_model.specs.Events.{event_at}
use Rattle.past_lives.specs.declared.lives.Life.{Life}
use Rattle.past_lives.specs.declared.segments.Source.{Source}
use Rattle.past_lives.specs.declared.segments.Source.TheVariants as source

-- the record of an event that comes at this moment, if that isn't behind the other
abbrev pub happened_by : ℕ → Option Record → Option ℕ → Option Record
happened_by moment (Some e) (Some at) = if nat_le at moment then Some e else None
happened_by moment e at = None

-- the record of event n, if that has happened
abbrev pub happened : List Record → ℕ → ℕ → Option Record
happened entries moment n = happened_by moment (event_at entries n) (event_moment entries n)

-- the process that begins or ends, and whether it lives from then on
abbrev pub change_in : LifeChange → Option Life
change_in (BeginsLife p) = Some (record { pid = p; lives = true })
change_in (EndsLife p) = Some (record { pid = p; lives = false })
change_in NoLife = None

-- whether a process lives after a change, if that is one of its own
abbrev pub life_after : LifeChange → ℕ → Option Bool
life_after (BeginsLife p) pid = if p == pid then Some true else None
life_after (EndsLife p) pid = if p == pid then Some false else None
life_after NoLife pid = None

-- which segment a process holds, where one is traced to this, and processes held these
abbrev pub held_by : Source → (ℕ → Option ℕ) → Option ℕ
held_by (source.Holds segment) held = segment
held_by (source.Process pid) held = held pid
