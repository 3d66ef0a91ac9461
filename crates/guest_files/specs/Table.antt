-- Files as they are kept, and what calls on one file ask for.
use Rattle.std.specs.Prelude.{◌≡◌, ℕ, ◌≤◌, ◌<◌, List, [], ◌∷◌, map, length, Option, IfSome, IsSome}
use Rattle.std.specs.Global.{Vec}
use Rattle.parts_model.specs.Files.{File, Files, Name}
use Rattle.parts_model.specs.Numbered.{how_many, nth}

-- a name as it is kept, with the number of its file
abbrev pub name_of : Vec ℕ × ℕ → Name
name_of entry = record { path = entry.0.items; file = entry.1 }

abbrev pub names_of : List (Vec ℕ × ℕ) → List Name
names_of entries = map name_of entries

-- each name's file is there
abbrev pub AreThere : List (Option File) → List Name → Type 0
AreThere all [] = Unit {0}
AreThere all (name ∷ names) = IsSome (nth all name.file) × AreThere all names

-- what is kept: so many files are there, and each name's file is one of them
pub record IsSound (files : Files) (count : ℕ) : Type 0 where
  pub counted : count ≡ how_many files.all
  pub named : AreThere files.all files.names

-- the file is there
abbrev pub IsThere : Files → ℕ → Type 0
IsThere files file = IsSome (nth files.all file)

-- the place lies in the file or at its end
abbrev pub IsPlace : Files → ℕ → ℕ → Type 0
IsPlace files file at = IfSome (nth files.all file) (λ f. at ≤ length f.bytes)

-- something holds the file
abbrev pub IsHeld : Files → ℕ → Type 0
IsHeld files file = IfSome (nth files.all file) (λ f. 0 < f.holders)
