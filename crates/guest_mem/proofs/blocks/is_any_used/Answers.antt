-- Bytes have a bit together exactly where one of them isn't zero.
use Rattle.std.proofs.Common.{◌≡◌, ◌<◌, ◌==◌, ◌||◌, ◌∙◌, [], ◌∷◌, Bool, List, ℕ, zero, suc, ap, arith, not, refl, sym}
use Rattle.std.proofs.lemmas.Bool.{ne_eqb}
use Rattle.std.proofs.lemmas.Nat.{le_or_l}
use Rattle.std.specs.Int.Bits.{bit_or}
use Rattle.std.specs.List.{list_any}
use Rattle.std.specs.Simd.Lanes.{fold_l}
use Rattle.guest_mem.proofs.blocks.is_any_used.Goals as goal

or-some : (bits : ℕ) (bytes : List ℕ) → 0 < bits → 0 < fold_l bit_or bits bytes
or-some bits [] some = some
or-some bits (byte ∷ bytes) some = let more = le_or_l bits byte in or-some (bit_or bits byte) bytes (omega arith)

or-any : (bytes : List ℕ) → not (fold_l bit_or 0 bytes == 0) ≡ list_any (λ byte. not (byte == 0)) bytes
or-any [] = refl
or-any (zero ∷ bytes) = or-any bytes
or-any (suc byte ∷ bytes) =
    let some = or-some (suc byte) bytes (omega arith) in
    let all = ne_eqb (fold_l bit_or (suc byte) bytes) 0 (λ none. absurd (omega arith)) in
    let first = ne_eqb (suc byte) 0 (λ none. absurd (omega arith)) in
    ap (λ (b : Bool). not b) all
    ∙ sym (ap (λ (b : Bool). not b || list_any (λ (byte : ℕ). not (byte == 0)) bytes) first)

pub returns : goal.returns
returns c = or-any c.args.bytes.now
