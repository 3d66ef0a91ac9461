-- What touches those who answer for devices: slices, each where it is asked for, and lines that unplug a device.
use Rattle.std.specs.Prelude.{◌≡◌, ℕ, Bool, List, [], ◌∷◌}
use Rattle.parts_model.specs.Replies.{Answered}
use Rattle.guest_devices.specs.Answers.{Asked}
use Rattle.guest_legs.specs.Legs.{Ask, Picked}
use Rattle.guest_legs.specs.LegLaws.{all_named}
use Rattle.guest_machine.specs.Slices.{RepliesIn}

-- one thing that comes to those who answer for devices
pub data Touch : Type 0 where
  -- a slice is taken where it is asked for
  AtSlice : Ask → Touch
  -- the device of this number is unplugged
  AtUnplug : ℕ → Touch

-- the asks among touches, in order
abbrev pub asks_in : List Touch → List Ask
asks_in [] = []
asks_in (AtSlice ask ∷ touches) = ask ∷ asks_in touches
asks_in (AtUnplug n ∷ touches) = asks_in touches

-- the numbers that touches unplug, in order
abbrev pub unplugs_in : List Touch → List ℕ
unplugs_in [] = []
unplugs_in (AtSlice ask ∷ touches) = unplugs_in touches
unplugs_in (AtUnplug n ∷ touches) = n ∷ unplugs_in touches

-- the slices of touches as their records name them
abbrev pub named_at : List Touch → List Picked → List Picked
named_at touches slices = all_named (asks_in touches) slices

-- who answers for devices: what a question may be answered and what that makes of it, what unplugging makes of it, and which devices are there
pub record Answering (A : Type 0) : Type 1 where
  pub answers : A → Asked → Answered → A → Type 0
  pub unplugs : ℕ → A → A → Type 0
  pub filled : A → ℕ → Bool

-- these as one value
abbrev pub answering : {A : Type 0} → (A → Asked → Answered → A → Type 0) → (ℕ → A → A → Type 0) → (A → ℕ → Bool) → Answering A
answering answers unplugs filled = record { answers = answers; unplugs = unplugs; filled = filled }

-- these touches were made, one after the other: devices gave the replies of these slices where they were asked, and those named were unplugged
abbrev pub TouchedBy : {A : Type 0} → Answering A → List Touch → List Picked → A → A → Type 0
TouchedBy who [] slices old new = (slices ≡ []) × (new ≡ old)
TouchedBy {A} who (AtUnplug n ∷ touches) slices old new = (between : A) × who.unplugs n old between × TouchedBy who touches slices between new
TouchedBy who (AtSlice ask ∷ touches) [] old new = ⊥
TouchedBy {A} who (AtSlice ask ∷ touches) (s ∷ slices) old new =
    (between : A) × RepliesIn who.answers s.pick.count s.pick.pid ask.machine s.reply old between × TouchedBy who touches slices between new
