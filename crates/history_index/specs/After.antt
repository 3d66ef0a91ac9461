-- What an index holds with one more record.
use Rattle.std.specs.Prelude.{ℕ, ◌+◌, ◌||◌, if◌then◌else◌, [], ◌∷◌, ◌++◌, length, Option, Some, None, option_and_then}
use Rattle.arn_base.specs.declared.records.Record.{Record}
use Rattle.arn_base.specs.declared.records.Record.TheVariants as entry
use Rattle.acts_model.specs.Records.{Child, LifeChange, BeginsLife, EndsLife, NoLife, child_called, is_founder, life_told, event_len, process_of}
use Rattle.history_model.specs.Broken.{ASlice, behind_record}
use Rattle.history_model.specs.Names.{is_boot}
use Rattle.replay_groups.specs.Groups.{group_at}
use Rattle.history_index.specs.declared.slices.SliceAt.{SliceAt}
use Rattle.history_index.specs.declared.events.EventAt.{EventAt}
use Rattle.history_index.specs.Families.{Families, with_ended, with_process, runs_after}
use Rattle.history_index.specs.Lookups.{moment_in}
use Rattle.history_index.specs.Tables.{Tables}

-- the group of a child of a process: a new one where it starts a group, else its maker's
abbrev pub child_group_in : Families → ℕ → Child → Option ℕ
child_group_in f pid child = if is_founder child then Some (length f.lives) else group_at f.groups pid

-- the group of the process that a record makes, if it makes one
abbrev pub born_group : Families → Record → Option ℕ
born_group f (entry.Boot name give) = Some (length f.lives)
born_group f (entry.Call pid number result more) = option_and_then (child_group_in f pid) (child_called number result more)
born_group f other = None

-- a process is made by an event, or none
abbrev pub with_born : Families → ℕ → Option ℕ → Families
with_born f event None = f
with_born f event (Some group) = with_process f event group

-- the process that ends, if one does
abbrev pub ended_by : LifeChange → Option ℕ
ended_by (EndsLife pid) = Some pid
ended_by (BeginsLife pid) = None
ended_by NoLife = None

-- a process ends, or none
abbrev pub with_end : Families → Option ℕ → Families
with_end f None = f
with_end f (Some pid) = record f { lives = with_ended f.lives pid }

-- the event that a record tells, behind so many records
abbrev pub event_of : Tables → Record → EventAt
event_of t e =
    record { place = t.records; moment = moment_in t.begins t.total e; pid = process_of e; len = event_len e }

abbrev pub with_event : Tables → Record → Tables
with_event t e =
    record {
      records = t.records + 1;
      total = t.total;
      begins = t.begins;
      is_booted = t.is_booted || is_boot e;
      at_hand = behind_record t.at_hand e;
      families = with_end (with_born t.families (length t.events) (born_group t.families e)) (ended_by (life_told e));
      events = t.events ++ event_of t e ∷ [];
    }

-- the slice that comes next
abbrev pub slice_next : Tables → ℕ → ℕ → SliceAt
slice_next t pid ran = record { place = t.records; moment = t.total; pid = pid; ran = ran; event = length t.events }

abbrev pub with_next : Tables → ℕ → ℕ → Tables
with_next t pid ran =
    record {
      records = t.records + 1;
      total = t.total + ran;
      begins = t.total;
      is_booted = t.is_booted;
      at_hand = ASlice pid;
      families =
          record t.families { runs = runs_after t.families.runs (group_at t.families.groups pid) (slice_next t pid ran) };
      events = t.events;
    }

abbrev pub after : Tables → Record → Tables
after t (entry.Slice pid ran) = with_next t pid ran
after t other = with_event t other
