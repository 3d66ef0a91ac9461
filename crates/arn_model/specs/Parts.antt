-- What the steps of a turn are: at most a delivery first, then instructions that the next one follows, then at most a call or an end.
use Rattle.std.specs.Prelude.{◌≡◌, ◌+◌, ℕ, Bool, true, false, List, [], ◌∷◌, length, Option, None, Some}
use Rattle.arn_base.specs.declared.records.Extra.{Extra}
use Rattle.arn_base.specs.declared.records.Record.TheVariants as entry
use Rattle.parts_model.specs.Replies.{Answered}
use Rattle.acts_model.specs.Moved.{is_instruction}
use Rattle.arn_model.specs.Kernel.{Machine}
use Rattle.arn_model.specs.Run.{instructions_in}
use Rattle.arn_model.specs.Step.{Step}
use Rattle.arn_model.specs.Turn.{Turn, steps_of, turn}

-- a delivery: a signal's record, and no instruction
pub record Delivery (s : Step) : Type 0 where
  pub number : ℕ
  pub pid : ℕ
  pub signal : ℕ
  pub cut : Bool
  pub handler : ℕ
  pub event : s.moved.inside.event ≡ Some (record { number = number; entry = entry.Signal pid signal cut handler })
  pub none : is_instruction s.moved.inside ≡ false

-- an instruction that the next one follows: no record
pub record Plain (s : Step) : Type 0 where
  pub event : s.moved.inside.event ≡ None
  pub one : is_instruction s.moved.inside ≡ true

-- a call or an end: its record, and an instruction
pub data Last (s : Step) : Type 0 where
  Calls : (number pid call result : ℕ) (more : Extra) → s.moved.inside.event ≡ Some (record { number = number; entry = entry.Call pid call result more })
      → is_instruction s.moved.inside ≡ true → Last s
  Ends : (number pid status : ℕ) → s.moved.inside.event ≡ Some (record { number = number; entry = entry.End pid status })
      → is_instruction s.moved.inside ≡ true → Last s

abbrev pub MaybeDelivery : Option Step → Type 0
MaybeDelivery None = Unit {0}
MaybeDelivery (Some s) = Delivery s

abbrev pub ArePlain : List Step → Type 0
ArePlain [] = Unit {0}
ArePlain (s ∷ steps) = Plain s × ArePlain steps

abbrev pub MaybeLast : Option Step → Type 0
MaybeLast None = Unit {0}
MaybeLast (Some s) = Last s

abbrev pub one_if_some : Option Step → ℕ
one_if_some None = 0
one_if_some (Some s) = 1

-- the parts of a turn, whose instructions are the plain ones and the last
pub record IsTurn (t : Turn) : Type 0 where
  pub delivery : MaybeDelivery t.delivery
  pub plain : ArePlain t.plain
  pub last : MaybeLast t.last
  pub instructions : instructions_in (steps_of t) ≡ length t.plain + one_if_some t.last

abbrev pub TurnsHaveParts : Type 0
TurnsHaveParts = (n pid : ℕ) (reply : Option Answered) (m : Machine) → IsTurn (turn n pid reply m)
