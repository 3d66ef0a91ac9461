use Rattle.std.proofs.Common.{◌≡◌, ℕ, ◌^◌, ◌-◌, min, drop}
use Rattle.asm_text.specs.Numbers as number
use Rattle.asm_text.proofs.numbers.digits.Given as goal

abbrev pub invariant-loop-byte : goal.invariant-loop-byte
invariant-loop-byte l =
    (n : ℕ) × (l.value ≡ min n (2 ^ 64 - 1)) × (number.digits l.base l.text ≡ number.digits_from l.base n (drop l.byte-index l.text))
