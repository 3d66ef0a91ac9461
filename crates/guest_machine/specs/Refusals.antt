-- Why a kernel's refusals are a machine's.
use Rattle.guest_calls.specs.declared.outcomes.BootError.{BootError}
use Rattle.guest_calls.specs.declared.outcomes.BootError.TheVariants as boot
use Rattle.guest_files.specs.declared.errors.FileError.{FileError}
use Rattle.guest_files.specs.declared.errors.FileError.TheVariants as file
use Rattle.guest_machine.specs.declared.errors.MachineError.{MachineError}
use Rattle.guest_machine.specs.declared.errors.MachineError.TheVariants.{NoName, NotImage, NoMemory}

-- of a boot
abbrev pub as_machine_error : BootError → MachineError
as_machine_error boot.NoName = NoName
as_machine_error boot.NotImage = NotImage
as_machine_error boot.NoMemory = NoMemory

-- of a file, which is there, or is one too many; one that is too long isn't added
abbrev pub of_file : FileError → MachineError
of_file file.NoFile = NoName
of_file file.Exists = NoName
of_file file.TooMany = NoName
of_file file.TooLong = NoName
of_file file.NoMemory = NoMemory
