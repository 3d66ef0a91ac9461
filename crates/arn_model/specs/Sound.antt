-- What every machine of a run keeps, whatever its calls do.
use Rattle.std.specs.Prelude.{◌≡◌, ℕ, ◌<◌, ◌≤◌, List, length, Some, IfSome, is_some, true}
use Rattle.parts_model.specs.declared.limits.TheConstants.{WINDOW_LEN}
use Rattle.parts_model.specs.declared.open.Description.{Description}
use Rattle.parts_model.specs.declared.open.Description.TheVariants as description
use Rattle.parts_model.specs.Files.{Files, find_file, file_bytes}
use Rattle.parts_model.specs.Numbered.{nth}
use Rattle.acts_model.specs.Bodies.{body_at, memory_at}
use Rattle.arn_model.specs.Kernel.{Kernel, Machine}
use Rattle.arn_model.specs.Tells.{lives}

-- the position of an open file lies in the file
pub record LiesInFile (files : Files) (file position : ℕ) : Type 0 where
  pub made : file < length files.all
  pub inside : IfSome (file_bytes files file) (λ bytes. position ≤ length bytes)

abbrev pub FitsFiles : Files → Description → Type 0
FitsFiles files (description.File file position) = LiesInFile files file position
FitsFiles files other = Unit {0}

-- the positions of all open files lie in their files, and a name stands for a file that was made, and that is there
pub record IsSound (k : Kernel) : Type 0 where
  pub fits : (n : ℕ) → IfSome (nth k.descriptions n) (λ o. FitsFiles k.files o.what)
  pub named : (path : List ℕ) (file : ℕ) → find_file k.files path ≡ Some file → file < length k.files.all
  pub there : (path : List ℕ) (file : ℕ) → find_file k.files path ≡ Some file → is_some (file_bytes k.files file) ≡ true

-- exactly those processes have a body that live, and no memory has more bytes than a private window
pub record IsSoundMachine (m : Machine) : Type 0 where
  pub kernel : IsSound m.kernel
  pub bodies : (pid : ℕ) → is_some (body_at m.bodies pid) ≡ lives m.kernel pid
  pub memories : (made : ℕ) → length (memory_at m.bodies made) ≤ WINDOW_LEN
