-- Moments of a history, and what stands at them: which processes live, and which segment each holds.
use Rattle.std.specs.Prelude.{ℕ, ◌+◌, ◌==◌, nat_le, ◌&&◌, Bool, false, if◌then◌else◌, List, [], ◌∷◌, Option, Some, None}
use Rattle.arn_base.specs.declared.records.Extra.{Extra}
use Rattle.arn_base.specs.declared.records.Extra.TheVariants as extra
use Rattle.arn_base.specs.declared.records.Record.{Record}
use Rattle.arn_base.specs.declared.records.Record.TheVariants as entry
use Rattle.parts_model.specs.declared.calls.TheConstants.{EXEC, SHM}
use Rattle.acts_model.specs.Records.{Child, child_called, is_founder, life_told, lives_after}

-- how many instructions a record counts
abbrev pub ran_in : Record → ℕ
ran_in (entry.Slice pid ran) = ran
ran_in other = 0

-- how many have run in a history
abbrev pub total : List Record → ℕ
total [] = 0
total (e ∷ entries) = ran_in e + total entries

-- an event and its number
pub record Numbered : Type 0 where
  pub number : ℕ
  pub entry : Record

-- an event that happens where the test holds
abbrev pub if_happened : Bool → ℕ → Record → List Numbered → List Numbered
if_happened test n e events = if test then record { number = n; entry = e } ∷ events else events

-- The events from event n on that have happened at a moment, where the slice at hand begins and ends at these: a delivery comes before the
-- slice's instructions, a call or an end by fault behind them. What comes from outside comes between slices.
abbrev pub events_from : ℕ → ℕ → ℕ → ℕ → List Record → List Numbered
events_from moment begins ends n [] = []
events_from moment begins ends n (entry.Slice pid ran ∷ entries) = events_from moment ends (ends + ran) n entries
events_from moment begins ends n (entry.Signal pid signal cut handler ∷ entries) =
    if_happened (nat_le begins moment) n (entry.Signal pid signal cut handler) (events_from moment begins ends (n + 1) entries)
events_from moment begins ends n (e ∷ entries) = if_happened (nat_le ends moment) n e (events_from moment begins ends (n + 1) entries)

-- the events that have happened at a moment, in order
abbrev pub events_until : ℕ → List Record → List Numbered
events_until moment entries = events_from moment 0 0 0 entries

-- whether a process lives after events
abbrev pub lives_by : List Numbered → ℕ → Bool → Bool
lives_by [] pid before = before
lives_by (e ∷ events) pid before = lives_by events pid (lives_after (life_told e.entry) pid before)

-- whether it lives at a moment
abbrev pub lives_at : List Record → ℕ → ℕ → Bool
lives_at entries moment pid = lives_by (events_until moment entries) pid false

-- f with another value at one number
abbrev pub changed : {A : Type 0} → (ℕ → A) → ℕ → A → ℕ → A
changed f k x i = if i == k then x else f i

-- Which segment, named by the event that made it, each process holds after an event: a fresh one, its maker's, or none. A child that
-- starts a group holds none, and nor does a process that starts from an image.
abbrev pub child_segment : Child → Option ℕ → Option ℕ
child_segment child maker = if is_founder child then None else maker

abbrev pub segment_made : ℕ → Option Child → (ℕ → Option ℕ) → ℕ → Option ℕ
segment_made pid None held = held
segment_made pid (Some child) held = changed held child.number (child_segment child (held pid))

abbrev pub segment_started : ℕ → Extra → (ℕ → Option ℕ) → ℕ → Option ℕ
segment_started pid (extra.Give give) held = changed held pid None
segment_started pid more held = held

abbrev pub segment_called : ℕ → ℕ → ℕ → ℕ → Extra → (ℕ → Option ℕ) → ℕ → Option ℕ
segment_called n pid number result more held =
    if (number == SHM) && (result == 0) then changed held pid (Some n)
    else if number == EXEC then segment_started pid more held
    else segment_made pid (child_called number result more) held

abbrev pub segments_told : ℕ → Record → (ℕ → Option ℕ) → ℕ → Option ℕ
segments_told n (entry.Call pid number result more) held = segment_called n pid number result more held
segments_told n (entry.Boot name give) held = changed held 1 None
segments_told n other held = held

abbrev pub segments_by : List Numbered → (ℕ → Option ℕ) → ℕ → Option ℕ
segments_by [] held = held
segments_by (e ∷ events) held = segments_by events (segments_told e.number e.entry held)

-- which segment a process holds at a moment
abbrev pub segment_at : List Record → ℕ → ℕ → Option ℕ
segment_at entries moment pid = segments_by (events_until moment entries) (λ q. None) pid
