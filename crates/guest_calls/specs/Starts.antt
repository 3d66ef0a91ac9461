-- The boot of a kernel from a file.
use Rattle.std.specs.Prelude.{◌≡◌, ◌+◌, ℕ, [], List, IsTrue, Some, false}
use Rattle.arn_base.specs.declared.records.Give.{Give}
use Rattle.parts_model.specs.declared.tagged.TaggedByte.{TaggedByte}
use Rattle.parts_model.specs.Files.{find_file, file_bytes}
use Rattle.parts_model.specs.Image.{is_image}
use Rattle.parts_model.specs.Processes as table
use Rattle.parts_model.specs.Processes.{Processes, placed, with_change}
use Rattle.parts_model.specs.Tagged.{given, values}
use Rattle.acts_model.specs.Acts.{Starts, done, unborn}
use Rattle.acts_model.specs.Bodies.{put}
use Rattle.arn_model.specs.Kernel.{Machine, booted}
use Rattle.arn_model.specs.Run.{boot_step}
use Rattle.guest_calls.specs.State.{State, StandsFor, Becomes}

-- process 1, of which three descriptors stand for description 0
abbrev pub first_processes : Processes
first_processes = with_change (with_change (with_change (table.booted []) 1 (placed 0)) 1 (placed 0)) 1 (placed 0)

-- process 1 has begun with the image in the file of a name, and these are its bytes
pub record BootedFrom (name : List ℕ) (give : Give) (old new : State) : Type 0 where
  pub file : ℕ
  pub held : List TaggedByte
  pub named : find_file old.kernel.files name ≡ Some file
  pub bytes : file_bytes old.kernel.files file ≡ Some held
  pub image : IsTrue (is_image (values held))
  pub gives : give ≡ given held
  pub becomes : Becomes old (λ m. (boot_step m name file held).after) new

-- the file of a name is there, and is no image
pub record HasNoImage (name : List ℕ) (old : State) : Type 0 where
  pub file : ℕ
  pub held : List TaggedByte
  pub named : find_file old.kernel.files name ≡ Some file
  pub bytes : file_bytes old.kernel.files file ≡ Some held
  pub no_image : is_image (values held) ≡ false

-- process 1 begins with an image, among machines without a process
pub record Begins (image : List ℕ) (old new : State) : Type 0 where
  pub stands : (m : Machine) → StandsFor old m → StandsFor new (record { bodies = done 1 m.events (Starts image 0 0) (put 1 (unborn m.events) m.bodies); kernel = booted m.kernel; events = m.events + 1 })
