-- What each call is refused for.
use Rattle.std.specs.Prelude.{◌≡◌, ◌⊎◌}
use Rattle.guest_files.specs.declared.errors.FileError.{FileError}
use Rattle.guest_files.specs.declared.errors.FileError.TheVariants.{Exists, TooMany, TooLong, NoMemory}

-- the errors where a name is taken, or no further file may be made
abbrev pub IsRefusal : FileError → Type 0
IsRefusal error = (error ≡ Exists) ⊎ (error ≡ TooMany)

-- the errors of making a file
abbrev pub IsCreateError : FileError → Type 0
IsCreateError error = (error ≡ Exists) ⊎ (error ≡ TooMany) ⊎ (error ≡ NoMemory)

-- the errors of writing to a file
abbrev pub IsWriteError : FileError → Type 0
IsWriteError error = (error ≡ TooLong) ⊎ (error ≡ NoMemory)
