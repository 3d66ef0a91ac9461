-- An index is that of a list of records.
use Rattle.std.specs.Prelude.{◌≡◌, ℕ, ◌+◌, ◌<◌, ◌≤◌, ◌^◌, List, [], ◌∷◌, length, map, false, None, IfSome, slice_get}
use Rattle.std.specs.List.{All}
use Rattle.arn_base.specs.declared.records.Record.{Record}
use Rattle.arn_base.specs.declared.records.Record.TheVariants as entry
use Rattle.parts_model.specs.Numbered.{nth}
use Rattle.acts_model.specs.Records.{event_len, process_of}
use Rattle.history_model.specs.Broken.{Behind, Nowhere, ASlice, ADelivery, behind, first_broken, greatest}
use Rattle.history_model.specs.Events.{events}
use Rattle.history_model.specs.Groups.{group_of, count_of}
use Rattle.history_model.specs.Moments.{lives_at, total}
use Rattle.history_model.specs.Names.{is_booted}
use Rattle.replay_groups.specs.Groups.{group_at}
use Rattle.history_index.specs.Families.{Families, lives_in, run_in}
use Rattle.history_index.specs.Lookups.{begin_after, places_from, moments_from, slices_of, groups_in, founding_event}
use Rattle.history_index.specs.Tables.{Tables}

-- so few records, with so few bytes each, that numbers of 32 bits count them
pub record AreCountable (entries : List Record) : Type 0 where
  pub few : length entries < 2 ^ 32
  pub short : All (λ e. event_len e < 2 ^ 32) entries

-- the moment at which the last slice begins
abbrev pub begin_from : ℕ → ℕ → List Record → ℕ
begin_from begins ends [] = begins
begin_from begins ends (e ∷ entries) = begin_from (begin_after begins ends e) (ends + total (e ∷ [])) entries

-- the process of the open slice was made
abbrev pub IsMade : ℕ → Behind → Type 0
IsMade processes Nowhere = Unit {0}
IsMade processes (ASlice pid) = (0 < pid) × (pid ≤ processes)
IsMade processes (ADelivery pid) = (0 < pid) × (pid ≤ processes)

-- and those of all slices
abbrev pub AreMade : ℕ → List Record → Type 0
AreMade processes [] = Unit {0}
AreMade processes (entry.Slice pid ran ∷ entries) = (pid ≤ processes) × AreMade processes entries
AreMade processes (e ∷ entries) = AreMade processes entries

-- a group has the number of a process
abbrev pub IsFounded : ℕ → ℕ → Type 0
IsFounded processes group = (0 < group) × (group ≤ processes)

-- what is kept of processes and groups
pub record TellsFamilies (f : Families) (entries : List Record) : Type 0 where
  pub processes : length f.groups ≡ greatest entries
  pub as_many_lives : length f.lives ≡ length f.groups + 1
  pub as_many_runs : length f.runs ≡ length f.groups + 1
  pub as_many_foundings : length f.foundings ≡ length f.groups + 1
  pub groups : (pid : ℕ) → group_at f.groups pid ≡ group_of entries pid
  pub founded : (i : ℕ) → IfSome (slice_get f.groups i) (IsFounded (length f.groups))
  pub no_zero : lives_in f.lives 0 ≡ false
  pub lives : (pid : ℕ) → lives_in f.lives pid ≡ lives_at entries (total entries) pid
  pub counts : (group : ℕ) → (run_in f.runs group).count ≡ count_of entries group
  pub slices : (group : ℕ) → (run_in f.runs group).slices ≡ slices_of entries group
  pub founders : f.founders ≡ groups_in entries
  pub foundings : (group : ℕ) → nth f.foundings group ≡ founding_event entries group
  pub made : AreMade (length f.groups) entries

-- what is kept of events
pub record TellsEvents (t : Tables) (entries : List Record) : Type 0 where
  pub places : map (λ e. e.place) t.events ≡ places_from 0 entries
  pub moments : map (λ e. e.moment) t.events ≡ moments_from 0 0 entries
  pub pids : map (λ e. e.pid) t.events ≡ map process_of (events entries)
  pub lens : map (λ e. e.len) t.events ≡ map event_len (events entries)

-- the index is that of these records, each of which can stand where it does
pub record Indexes (t : Tables) (entries : List Record) : Type 0 where
  pub stands : first_broken entries ≡ None
  pub records : t.records ≡ length entries
  pub total : t.total ≡ total entries
  pub begins : t.begins ≡ begin_from 0 0 entries
  pub is_booted : t.is_booted ≡ is_booted entries
  pub unbooted : t.is_booted ≡ false → length t.families.groups ≡ 0
  pub at_hand : t.at_hand ≡ behind entries
  pub hand_made : IsMade (length t.families.groups) t.at_hand
  pub families : TellsFamilies t.families entries
  pub events : TellsEvents t entries
