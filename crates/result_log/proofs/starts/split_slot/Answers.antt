use Rattle.std.proofs.Common.{◌≡◌, ℕ, ◌<◌, List, ◌++◌, length, drop, sym, ap, subst, ◌∙◌, length-append, arith}
use Rattle.std.specs.Prelude.{Bool, true, false, Option, Some, None}
use Rattle.arn_base.specs.declared.machine.Cpu.{Cpu}
use Rattle.schedule_log.specs.Fields.{BeginsFlag}
use Rattle.result_log.specs.States.{cpu_fields, BeginsSlot}
use Rattle.result_log.proofs.OneWay.{first, length-cpu}
use Rattle.result_log.proofs.starts.split_slot.Goals as goal

no-slot-by-flag : (bytes : List ℕ) → ((flag : Bool) (rest : List ℕ) → ¬ BeginsFlag bytes flag rest)
    → (slot : Option Cpu) (rest : List ℕ) → ¬ BeginsSlot bytes slot rest
no-slot-by-flag bytes h None rest b = h false rest (record { is_bytes = b.is_bytes })
no-slot-by-flag bytes h (Some cpu) rest b = h true (cpu_fields cpu ++ rest) (record { is_bytes = b.is_bytes })

no-slot-by-cpu : (bytes behind : List ℕ) → BeginsFlag bytes true behind → length behind < 256
    → (slot : Option Cpu) (rest : List ℕ) → ¬ BeginsSlot bytes slot rest
no-slot-by-cpu bytes behind f few None rest b = let e = ap first (sym f.is_bytes ∙ b.is_bytes) in absurd (omega (arith, e))
no-slot-by-cpu bytes behind f few (Some cpu) rest b =
    let same : behind ≡ cpu_fields cpu ++ rest = ap (drop 1) (sym f.is_bytes ∙ b.is_bytes) in
    let long : length behind ≡ length (cpu_fields cpu ++ rest) = ap (λ (xs : List ℕ). length xs) same in
    absurd (omega (arith, long, few, length-append (cpu_fields cpu) rest, length-cpu cpu b.fits))

pub returns-in_err-is_some-clause-none : goal.returns-in_err-is_some-clause-none
returns-in_err-is_some-clause-none c =
    rw c.from_residual.ensures (no-slot-by-flag c.args.bytes.now c.in_err-is_some.ensures.none)

pub returns-in_err-cpu-clause-none : goal.returns-in_err-cpu-clause-none
returns-in_err-cpu-clause-none c =
    rw c.from_residual-in_err-cpu.ensures
    (no-slot-by-cpu c.args.bytes.now c.in_ok-is_some.behind.now
    (subst (λ flag. BeginsFlag c.args.bytes.now flag c.in_ok-is_some.behind.now) c.if-not-is_some.false c.in_ok-is_some.ensures.some)
    c.in_err-cpu.ensures.none)
