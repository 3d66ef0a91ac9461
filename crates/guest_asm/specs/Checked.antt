-- The fault that is told of several.
use Rattle.std.specs.Prelude.{ℕ, ◌==◌, if◌then◌else◌, Option, Some, None, option_map}
use Rattle.guest_asm.specs.Assembled.{Fault, first_kind}
use Rattle.guest_asm.specs.declared.checking.Fault as kept_fault
use Rattle.asm_text.specs.declared.fault.AsmKind.{AsmKind}

-- the fault that is kept, if one is
abbrev pub told : Option kept_fault.Fault → Option Fault
told found = option_map (λ f. record { line = f.line; kind = f.kind }) found

-- the fault that is told where one more line has a fault of this kind, or has none
abbrev pub added : Option Fault → ℕ → Option AsmKind → Option Fault
added found line None = found
added None line (Some kind) = Some (record { line = line; kind = kind })
added (Some f) line (Some kind) = Some (if line == f.line then record { line = f.line; kind = first_kind f.kind kind } else f)
