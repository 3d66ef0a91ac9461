-- When a record's act can be done, and what is wrong where it can't.
use Rattle.std.specs.Prelude.{◌≡◌, ◌<◌, ◌≤◌, ◌^◌, ℕ, Bool, true, false, IsTrue, List, Option, Some, None, IsNone}
use Rattle.arn_base.specs.declared.records.Record.{Record}
use Rattle.arn_base.specs.declared.records.Record.TheVariants as entry
use Rattle.parts_model.specs.Numbered.{nth}
use Rattle.parts_model.specs.declared.limits.TheConstants.{MOST_BLOCK_BYTES}
use Rattle.parts_model.specs.Image.{is_image}
use Rattle.acts_model.specs.Acts.{Act, Forks, Starts}
use Rattle.acts_model.specs.Bodies.{View}
use Rattle.acts_model.specs.Disagreement.{Wrong}
use Rattle.guest_bodies.specs.Shown.{Guests, seen_in}
use Rattle.replay_steps.specs.declared.wrong.Finding.{Finding}

-- what is said and what is found, as the definitions have it
abbrev pub wrong_as : Finding → Wrong
wrong_as finding = record { said = finding.said; found = finding.found }

-- a process of this number can be made
pub record IsFree (guests : Guests) (child : ℕ) : Type 0 where
  pub fits : child < 2 ^ 32
  pub dead : IsNone (nth guests child)

-- the child of an act that joins its parent's group can be made
abbrev pub ChildIsFree : Guests → Act → Type 0
ChildIsFree guests (Forks child) = IsFree guests child
ChildIsFree guests other = Unit {0}

-- its number is one of a process
abbrev pub ChildFits : Act → Type 0
ChildFits (Forks child) = child < 2 ^ 32
ChildFits other = Unit {0}

-- a process can start from a file with an argument block of so many bytes
pub record StartsFrom (file : List ℕ) (block_len : ℕ) : Type 0 where
  pub image : IsTrue (is_image file)
  pub few : block_len ≤ MOST_BLOCK_BYTES

-- the start of an act can be made
abbrev pub CanStart : Act → Type 0
CanStart (Starts file block block_len) = StartsFrom file block_len
CanStart other = Unit {0}

-- the child that joins its parent's group
abbrev pub child_joined : Act → Option ℕ
child_joined (Forks child) = Some child
child_joined other = None

-- an event that a process has in a slice of its own
abbrev pub is_own : Record → Bool
is_own (entry.Signal pid signal cut handler) = true
is_own (entry.Call pid number result more) = true
is_own (entry.End pid status) = true
is_own other = false

-- one is counted, or none
abbrev pub if_ticked : Bool → ℕ
if_ticked true = 1
if_ticked false = 0

-- what holds of all that a process sees, if it lives
abbrev pub OfSeen : Guests → ℕ → (View → Type 0) → Type 0
OfSeen guests p holds = (v : View) → seen_in guests p ≡ Some v → holds v
