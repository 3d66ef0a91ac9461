use Rattle.std.proofs.Common.{◌≡◌, ◌⊎◌, ◌/◌, ◌^◌, ℕ, max, nat_lt, Bool, true, false, refl, subst, inl, inr, arith}
use Rattle.std.proofs.lemmas.Bool.{ltb-true, ltb-false}
use Rattle.set_store.proofs.Sides.{differ-at, same-over, top-bit}
use Rattle.set_store.proofs.node.apart_from.Goals as goal

pub returns-clause-alike : goal.returns-clause-alike
returns-clause-alike c =
    let t = top-bit c.args.x c.args.y (omega (arith, c.ranges.x)) (omega (arith, c.ranges.y)) c.if-apart-eq0.false in
    let at = t.1 in
    let m = c.max.ensures in
    same-over c.args.x c.args.y t.0 c.max.result t.3 (omega arith)

either : (x y low high bit : ℕ) → bit ≡ max low high → (x / 2 ^ high ≡ y / 2 ^ high → ⊥) → (b : Bool) → nat_lt low high ≡ b → (bit ≡ low) ⊎ (x / 2 ^ bit ≡ y / 2 ^ bit → ⊥)
either x y low high bit e differ true t = let less = ltb-true low high t in let same : high ≡ bit = omega arith in inr (subst (λ n. x / 2 ^ n ≡ y / 2 ^ n → ⊥) same differ)
either x y low high bit e differ false t = let least = ltb-false low high t in inl (omega arith)

pub returns-clause-apart : goal.returns-clause-apart
returns-clause-apart c =
    let t = top-bit c.args.x c.args.y (omega (arith, c.ranges.x)) (omega (arith, c.ranges.y)) c.if-apart-eq0.false in
    let at = t.1 in
    let e = c.max.ensures in
    let m : c.max.result ≡ max c.args.least t.0 = omega arith in
    either c.args.x c.args.y c.args.least t.0 c.max.result m (differ-at c.args.x c.args.y t.0 t.2) (nat_lt c.args.least t.0) refl

pub overflow_sub-apart : goal.overflow_sub-apart
overflow_sub-apart c =
    let t = top-bit c.args.x c.args.y (omega (arith, c.ranges.x)) (omega (arith, c.ranges.y)) c.if-apart-eq0.false in
    let at = t.1 in
    omega arith
