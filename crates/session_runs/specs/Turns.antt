-- What a part of a session does with the slices to come.
use Rattle.std.specs.Prelude.{ℕ, List, [], ◌∷◌, ◌++◌, Option, Some, None}
use Rattle.guest_legs.specs.Legs.{Picked}
use Rattle.session_effects.specs.Effects.{Effect, Prints}
use Rattle.session_runs.specs.Touches.{Touch}

-- what is done, what touches those who answer for devices meanwhile, and the slices that are left; none where they end within a run
pub record Turn : Type 0 where
  pub effects : List Effect
  pub touches : List Touch
  pub left : Option (List Picked)

-- all that is still to be done, by the slices to come as the log names them
abbrev pub Point : Type 0
Point = List Picked → Turn

-- effects and touches, and then a turn
abbrev pub behind : List Effect → List Touch → Turn → Turn
behind effects touches t = record { effects = effects ++ t.effects; touches = touches ++ t.touches; left = t.left }

-- nothing more is asked for
abbrev pub finished : Point
finished slices = record { effects = []; touches = []; left = Some slices }

-- the slices end within a run
abbrev pub cut_off : Turn
cut_off = record { effects = []; touches = []; left = None }

-- effects and touches, for which no slice is taken
abbrev pub does : List Effect → List Touch → Point
does effects touches slices = record { effects = effects; touches = touches; left = Some slices }

-- a text is printed, and nothing is changed
abbrev pub prints : List ℕ → Point
prints text = does (Prints text ∷ []) []

-- a turn, and what follows it with the slices that it leaves; nothing where they ended within a run
abbrev pub followed_by : Turn → Option (List Picked) → Point → Turn
followed_by t None next = t
followed_by t (Some rest) next = behind t.effects t.touches (next rest)
