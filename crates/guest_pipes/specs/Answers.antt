-- What calls on pipes ask for, and why they are refused.
use Rattle.std.specs.Prelude.{◌≡◌, ◌⊎◌, ◌&&◌, ◌==◌, ℕ, nat_lt, Bool, List, length, Option, Some, None, IsSome}
use Rattle.parts_model.specs.Numbered.{nth}
use Rattle.parts_model.specs.Pipes.{End, ReadEnd, WriteEnd, Pipe, Pipes, room}
use Rattle.guest_pipes.specs.declared.errors.PipeError.{PipeError}
use Rattle.guest_pipes.specs.declared.errors.PipeError.TheVariants.{TooMany, Broken, NotReady, NoMemory}
use Rattle.guest_pipes.specs.declared.errors.Side.{Side}
use Rattle.guest_pipes.specs.declared.errors.Side.TheVariants.{Reader, Writer}

-- the pipe is there
abbrev pub IsThere : Pipes → ℕ → Type 0
IsThere pipes n = IsSome (nth pipes n)

-- the end of a side
abbrev pub end_of : Side → End
end_of Reader = ReadEnd
end_of Writer = WriteEnd

-- it holds of the pipe that is there
abbrev pub holds : (Pipe → Type 0) → Option Pipe → Type 0
holds test None = ⊥
holds test (Some p) = test p

-- bytes have to wait: something reads the pipe, and it is full
abbrev pub has_to_wait : List ℕ → Pipe → Bool
has_to_wait bytes pipe = pipe.has_reader && (room pipe == 0) && nat_lt 0 (length bytes)

-- the errors of making a pipe
abbrev pub IsMakeError : PipeError → Type 0
IsMakeError error = (error ≡ TooMany) ⊎ (error ≡ NoMemory)

-- the errors of putting bytes into a pipe
abbrev pub IsPutError : PipeError → Type 0
IsPutError error = (error ≡ Broken) ⊎ (error ≡ NotReady) ⊎ (error ≡ NoMemory)

-- the errors of taking bytes from a pipe
abbrev pub IsTakeError : PipeError → Type 0
IsTakeError error = (error ≡ NotReady) ⊎ (error ≡ NoMemory)
