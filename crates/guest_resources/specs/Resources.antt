-- Descriptions and files, and what they have to do with each other.
use Rattle.std.specs.Prelude.{◌≡◌, ◌≤◌, ◌<◌, ◌+◌, ◌==◌, ℕ, Bool, true, false, List, [], ◌∷◌, ◌++◌, length, Option, None, Some, IfSome, IsSome}
use Rattle.parts_model.specs.declared.open.Description.{Description}
use Rattle.parts_model.specs.declared.open.Description.TheVariants.{Console, File, Reader, Writer, Connection, Listener, Device}
use Rattle.parts_model.specs.Files as files
use Rattle.parts_model.specs.Files.{Files, no_files}
use Rattle.parts_model.specs.Numbered.{nth}
use Rattle.arn_model.specs.Kernel.{Kernel, Opened}

-- descriptions by number, and files
pub record Resources : Type 0 where
  pub files : Files
  pub descriptions : List (Option Opened)

-- before any
abbrev pub no_resources : Resources
no_resources = record { files = no_files; descriptions = [] }

-- the kernel that has these
abbrev pub with_resources : Resources → Kernel → Kernel
with_resources r k = record k { files = r.files; descriptions = r.descriptions }

-- whatever else a kernel has, the change of it makes these of those
pub record Changes (old : Resources) (change : Kernel → Kernel) (new : Resources) : Type 0 where
  pub kernel : (k : Kernel) → change (with_resources old k) ≡ with_resources new k

-- the place lies in the file, or at its end
abbrev pub IsIn : Option files.File → ℕ → Type 0
IsIn None at = ⊥
IsIn (Some f) at = at ≤ length f.bytes

-- what can be open: a file that is there, at a place in it, and all that is no file
abbrev pub IsKnown : Files → Description → Type 0
IsKnown all Console = Unit {0}
IsKnown all (File file position) = IsIn (nth all.all file) position
IsKnown all (Reader pipe) = Unit {0}
IsKnown all (Writer pipe) = Unit {0}
IsKnown all (Connection reads writes) = Unit {0}
IsKnown all (Listener port) = Unit {0}
IsKnown all (Device device) = Unit {0}

-- a description that is no file
abbrev pub IsNoFile : Description → Type 0
IsNoFile Console = Unit {0}
IsNoFile (File file position) = ⊥
IsNoFile (Reader pipe) = Unit {0}
IsNoFile (Writer pipe) = Unit {0}
IsNoFile (Connection reads writes) = Unit {0}
IsNoFile (Listener port) = Unit {0}
IsNoFile (Device device) = Unit {0}

-- ends of pipes, ports, and devices
abbrev pub IsChannel : Description → Type 0
IsChannel Console = ⊥
IsChannel (File file position) = ⊥
IsChannel (Reader pipe) = Unit {0}
IsChannel (Writer pipe) = Unit {0}
IsChannel (Connection reads writes) = Unit {0}
IsChannel (Listener port) = Unit {0}
IsChannel (Device device) = Unit {0}

-- the last that was opened is a channel, for which one descriptor stands
pub record EndsWithChannel (descriptions : List (Option Opened)) : Type 0 where
  pub before : List (Option Opened)
  pub what : Description
  pub is_channel : IsChannel what
  pub last : descriptions ≡ before ++ Some (record { what = what; descriptors = 1 }) ∷ []

abbrev pub AreKnown : Files → List (Option Opened) → Type 0
AreKnown all [] = Unit {0}
AreKnown all (o ∷ descriptions) = IfSome o (λ d. IsKnown all d.what) × AreKnown all descriptions

-- the description is one of those that hold its file, if it is one of a file
abbrev pub HoldsFile : Files → Description → Type 0
HoldsFile all Console = Unit {0}
HoldsFile all (File file position) = IsSome (nth all.all file) × IfSome (nth all.all file) (λ f. 0 < f.holders)
HoldsFile all (Reader pipe) = Unit {0}
HoldsFile all (Writer pipe) = Unit {0}
HoldsFile all (Connection reads writes) = Unit {0}
HoldsFile all (Listener port) = Unit {0}
HoldsFile all (Device device) = Unit {0}

-- the files once the last descriptor of a description has gone
abbrev pub settled_files : Option Description → Files → Files
settled_files None all = all
settled_files (Some Console) all = all
settled_files (Some (File file position)) all = files.released all file
settled_files (Some (Reader pipe)) all = all
settled_files (Some (Writer pipe)) all = all
settled_files (Some (Connection reads writes)) all = all
settled_files (Some (Listener port)) all = all
settled_files (Some (Device device)) all = all

-- it stands for this file
abbrev pub is_of : ℕ → Description → Bool
is_of n Console = false
is_of n (File file position) = file == n
is_of n (Reader pipe) = false
is_of n (Writer pipe) = false
is_of n (Connection reads writes) = false
is_of n (Listener port) = false
is_of n (Device device) = false

-- 1 for a description that does
abbrev pub one_if : Bool → ℕ
one_if true = 1
one_if false = 0

abbrev pub holding : ℕ → Option Opened → ℕ
holding n None = 0
holding n (Some o) = one_if (is_of n o.what)

-- how many descriptions stand for a file
abbrev pub holders_of : ℕ → List (Option Opened) → ℕ
holders_of n [] = 0
holders_of n (o ∷ descriptions) = holding n o + holders_of n descriptions

-- every description is known, and each file is held by those that stand for it
pub record IsSound (r : Resources) : Type 0 where
  pub known : AreKnown r.files r.descriptions
  pub held : (n : ℕ) → IfSome (nth r.files.all n) (λ f. f.holders ≡ holders_of n r.descriptions)
