-- Which error of the reading a halt is of.
use Rattle.std.proofs.Common.{◌≡◌, ◌≢◌, ℕ, refl}
use Rattle.arn_base.specs.declared.records.Differs.{Differs}
use Rattle.arn_commands.specs.declared.error.ReadError.{ReadError}
use Rattle.arn_commands.specs.declared.error.ReadError.TheVariants as read
use Rattle.session_effects.specs.declared.halt.Halt.{Halt}
use Rattle.session_effects.specs.declared.halt.Halt.TheVariants as halt
use Rattle.session_commands.specs.Answering.{IsLineCause}
use Rattle.session_text.specs.Halts.{read_halt_of}

pub source-was : (error : ReadError) → read_halt_of error ≡ halt.Source → error ≡ read.Source
source-was read.Source is = refl
source-was _ is = cc is

pub long-was : (error : ReadError) → read_halt_of error ≡ halt.Long → error ≡ read.Long
long-was read.Long is = refl
long-was _ is = cc is

-- an error of the reading finds out nothing of the records
pub read-finds-none : (error : ReadError) (d : Differs) → read_halt_of error ≡ halt.Differs d → ⊥
read-finds-none read.Source d is = cc is
read-finds-none _ d is = cc is

-- where the reading ended neither at the source nor at the bound, memory ran out
pub memory-was : (P : Halt → Type 0) (error : ReadError) → P halt.NoMemory → read_halt_of error ≢ halt.Source → read_halt_of error ≢ halt.Long → P (read_halt_of error)
memory-was P read.Source p not_source not_long = absurd (not_source refl)
memory-was P read.Long p not_source not_long = absurd (not_long refl)
memory-was P read.NoMemory p not_source not_long = p

-- nor does it come of the sink, the disk or a full log
pub read-never-sink : (error : ReadError) → read_halt_of error ≡ halt.Sink → ⊥
read-never-sink read.Source is = cc is
read-never-sink _ is = cc is

pub read-never-disk : (error : ReadError) → read_halt_of error ≡ halt.Disk → ⊥
read-never-disk read.Source is = cc is
read-never-disk _ is = cc is

pub read-never-full : (error : ReadError) (log payload : ℕ) → read_halt_of error ≡ halt.Full log payload → ⊥
read-never-full read.Source log payload is = cc is
read-never-full _ log payload is = cc is

-- a command halts neither by the source nor by the bound
pub never-source : (why : Halt) (d0 d1 s0 s1 : ℕ) → IsLineCause why d0 d1 s0 s1 → why ≡ halt.Source → ⊥
never-source halt.Source d0 d1 s0 s1 cause is = cause
never-source halt.Long d0 d1 s0 s1 cause is = cause
never-source _ d0 d1 s0 s1 cause is = cc is

pub never-long : (why : Halt) (d0 d1 s0 s1 : ℕ) → IsLineCause why d0 d1 s0 s1 → why ≡ halt.Long → ⊥
never-long halt.Source d0 d1 s0 s1 cause is = cause
never-long halt.Long d0 d1 s0 s1 cause is = cause
never-long _ d0 d1 s0 s1 cause is = cc is
