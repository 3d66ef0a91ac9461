-- What is kept, where its sets are carried over.
use Rattle.std.specs.Prelude.{◌≡◌, ℕ, ◌<◌, List, length, Option, None, Some}
use Rattle.parts_model.specs.Numbered.{nth}
use Rattle.taint_spans.specs.Carried.{Carried, HasNumber, HaveNumbers}
use Rattle.taint_state.specs.declared.heard.HeardEvent.{HeardEvent}
use Rattle.taint_state.specs.Heard.{entry_at, event_at, kept_heard}
use Rattle.taint_state.specs.Kept.{Kept, KeptHeard, KeptMember, KeptStart, heard_among, shown}
use Rattle.taint_state.specs.Sound.{IsSound}

-- both are there or none is, and this holds of both
abbrev pub IfBoth : {A : Type 0} → (A → A → Type 0) → Option A → Option A → Type 0
IfBoth P None None = Unit {0}
IfBoth P (Some a) (Some b) = P a b
IfBoth P a b = ⊥

-- each byte of a member has the number that its set has from now on
pub record CarriesMember (sets : Carried) (old new : KeptMember) : Type 0 where
  pub holds : new.holds ≡ old.holds
  pub registers : HaveNumbers sets old.registers new.registers
  pub slot : HaveNumbers sets old.slot new.slot
  pub window : HaveNumbers sets old.window new.window
  pub segment : HaveNumbers sets old.segment new.segment

-- so has each with which a child began
pub record CarriesStart (sets : Carried) (old new : KeptStart) : Type 0 where
  pub registers : HaveNumbers sets old.registers new.registers
  pub slot : HaveNumbers sets old.slot new.slot
  pub window : HaveNumbers sets old.window new.window

-- and each of an event
pub record CarriesHeard (sets : Carried) (old new : KeptHeard) : Type 0 where
  pub event : new.event ≡ old.event
  pub numbers : HaveNumbers sets old.numbers new.numbers
  pub start : IfBoth (CarriesStart sets) old.start new.start

-- and each of all members and events
pub record Carries (sets : Carried) (x y : Kept) : Type 0 where
  pub linkage : y.linkage ≡ x.linkage
  pub from : sets.from ≡ x.sets
  pub into : y.sets ≡ sets.into
  pub zero : HasNumber sets 0 0
  pub members : (pid : ℕ) → IfBoth (CarriesMember sets) (nth x.members pid) (nth y.members pid)
  pub heard : (event : ℕ) → IfBoth (CarriesHeard sets) (heard_among x.heard event) (heard_among y.heard event)

-- what is shown is the same, and what is kept stays sound
pub record ShowsSame (x y : Kept) : Type 0 where
  pub shown : shown y ≡ shown x
  pub sound : IsSound x → IsSound y

-- where each byte has the number that its set has from now on, what is shown is the same
abbrev pub CarriesShow : Type 0
CarriesShow = (sets : Carried) (x y : Kept) → Carries sets x y → ShowsSame x y

-- events in a list, of which each is carried over
pub record CarriesList (sets : Carried) (old new : List HeardEvent) : Type 0 where
  pub len : length new ≡ length old
  pub each : (k : ℕ) → k < length old → CarriesHeard sets (kept_heard (entry_at old k)) (kept_heard (entry_at new k))

-- each event has the number that it had
pub record KeepEvents (old new : List HeardEvent) : Type 0 where
  pub len : length new ≡ length old
  pub same : (k : ℕ) → event_at new k ≡ event_at old k

-- and so has the event of each number
abbrev pub CarriesEvents : Carried → List KeptHeard → List KeptHeard → Type 0
CarriesEvents sets old new = (event : ℕ) → IfBoth (CarriesHeard sets) (heard_among old event) (heard_among new event)
