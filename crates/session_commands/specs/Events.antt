-- What is given to the machine from outside, and the event that it becomes.
use Rattle.std.specs.Prelude.{◌≡◌, ◌<◌, ◌≤◌, ◌^◌, ℕ, List, [], ◌∷◌, Option, length, IsTrue}
use Rattle.arn_base.specs.declared.records.Record.{Record}
use Rattle.arn_base.specs.declared.records.Record.TheVariants as entry
use Rattle.parts_model.specs.declared.limits.TheConstants.{MOST_FILE_BYTES}
use Rattle.parts_model.specs.Files.{is_name}
use Rattle.arn_model.specs.Kernel.{Machine}
use Rattle.arn_model.specs.Run as run
use Rattle.arn_model.specs.Run.{Input}
use Rattle.log_model.specs.Records.{records_from}
use Rattle.arn_lines.specs.declared.answer.Refusal.{Refusal}
use Rattle.arn_lines.specs.Texts.{event_text}
use Rattle.session_effects.specs.Effects.{Effect, Commits, Prints}
use Rattle.session_runs.specs.Touches.{AtUnplug}
use Rattle.session_runs.specs.Turns.{Point, does}
use Rattle.session_commands.specs.declared.events.Event.{Event}
use Rattle.session_commands.specs.declared.events.Incoming.{Incoming}
use Rattle.session_commands.specs.declared.events.Incoming.TheVariants as incoming
use Rattle.session_commands.specs.Refusals.{boot_refusal, bring_refusal, early_refusal}

-- an input becomes an event: its records are committed, and then its number is printed
abbrev pub event_effects : Machine → Input → List Effect
event_effects m i = Commits (records_from m (i ∷ [])) ∷ Prints (event_text m.events) ∷ []

-- A device is unplugged: the record that says so is committed, and then the event's number is printed. On a run's history this is what the
-- input becomes that unplugs it, where it may be unplugged.
abbrev pub unplug_effects : Machine → ℕ → List Effect
unplug_effects m device = Commits (entry.Unplug device ∷ []) ∷ Prints (event_text m.events) ∷ []

-- and those who answer for devices lose it, before that
abbrev pub unplugging : Machine → ℕ → Point
unplugging m device = does (unplug_effects m device) (AtUnplug device ∷ [])

-- what is given, as the input of a run that it is
abbrev pub input_of : Incoming → Input
input_of (incoming.File name bytes) = run.File name.now bytes.now
input_of (incoming.Boot name) = run.Boot name.now
input_of (incoming.Typed bytes) = run.Typed bytes.now

-- names, files and pieces that the machine takes
abbrev pub IncomingFits : Incoming → Type 0
IncomingFits (incoming.File name bytes) = IsTrue (is_name name.now) × (length bytes.now ≤ MOST_FILE_BYTES)
IncomingFits (incoming.Boot name) = IsTrue (is_name name.now)
IncomingFits (incoming.Typed bytes) = length bytes.now < 2 ^ 32

-- why it is refused on a history, if it is
abbrev pub incoming_refusal : List Record → Incoming → Option Refusal
incoming_refusal history (incoming.File name bytes) = bring_refusal history name.now
incoming_refusal history (incoming.Boot name) = boot_refusal history name.now
incoming_refusal history (incoming.Typed bytes) = early_refusal history

-- the event that an input makes of a machine
pub record IsEvent (m : Machine) (i : Input) (event : Event) : Type 0 where
  pub is_number : event.number ≡ m.events
  pub are_records : event.entries.items ≡ records_from m (i ∷ [])
