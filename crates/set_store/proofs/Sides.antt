-- The bits of keys.
use Rattle.std.proofs.Common.{◌≡◌, ◌⊎◌, ℕ, ◌+◌, ◌-◌, ◌/◌, ◌%◌, ◌^◌, ◌<◌, ◌≤◌, refl, sym, ap, ◌∙◌, arith, ◌*◌, suc}
use Rattle.std.proofs.lemmas.Bool.Decides.{nat_tests}
use Rattle.std.proofs.lemmas.Bool.{ltb-true, ltb-false}
use Rattle.std.proofs.lemmas.Nat.{pow_pos, leading_top, xor_lt, div-mul-add, mod_below, xor_shr, shr_below, shr-shr, le-div, div-add-mod'}
use Rattle.std.proofs.Math.Nat.{div-mul-le_self, pow-le-pow_right}
use Rattle.std.specs.Int.{bit_at}
use lib.Count.{count_leading_zeros}
use Rattle.std.specs.Int.Bits.{bit_xor, xor_self}
use Rattle.std.proofs.lemmas.Nat.Bits.{bit_at-zero, bit_at_xor, same_from_bits}
use Rattle.std.specs.Cmp.{nat_cmp_is}
use Rattle.std.specs.Ordering.{nat_cmp, ordering_then}
use Rattle.std.specs.declared.cmp.Ordering.{Ordering}
use Rattle.std.specs.declared.cmp.Ordering.TheVariants.{Less, Equal}
use Rattle.set_store.specs.declared.item.Item.{Item}
use Rattle.set_store.specs.Sets.{item_cmp}
use Rattle.set_store.specs.Tries.{key_of, side, IsLow, IsHigh, AreAlike}

-- a byte's place is so
abbrev pub Fits : Item → Type 0
Fits item = item.at < 18446744073709551616

pub next-side : (bit : ℕ) (x : Item) → side bit x / 2 ≡ side (bit + 1) x
next-side bit x = shr-shr (key_of x) bit 1

-- items that are alike above a bit have the same bits from any higher one on
pub same-above : (low high : ℕ) (x y : Item) → low < high → AreAlike low x y → side high x ≡ side high y
same-above low high x y h e =
    let d = high - (low + 1) in
    let up : (low + 1) + d ≡ high = omega arith in
    let to : (z : Item) → side low z / 2 / 2 ^ d ≡ side high z = λ z. ap (λ n. n / 2 ^ d) (next-side low z) ∙ shr-shr (key_of z) (low + 1) d ∙ ap (λ n. key_of z / 2 ^ n) up in
    sym (to x) ∙ ap (λ n. n / 2 ^ d) e ∙ to y

pub alike-above : (low high : ℕ) (x y : Item) → low ≤ high → AreAlike low x y → AreAlike high x y
alike-above low high x y h1 h2 = grind (arith, nat_tests, ltb-false, ltb-true, same-above)

halves-less : (u v : ℕ) → u / 2 ≡ v / 2 → u % 2 ≡ 0 → v % 2 ≡ 1 → u < v
halves-less u v h1 h2 h3 = grind (arith, nat_tests, div-add-mod')

div-le : (a b k : ℕ) → 0 < k → a ≤ b → a / k ≤ b / k
div-le a b k pos h = le-div (a / k) b k pos (let low = div-mul-le_self a k in omega arith)

-- an item without a bit is below one with it
pub key-below : (bit : ℕ) (x y : Item) → AreAlike bit x y → IsLow bit x → IsHigh bit y → key_of x < key_of y
key-below bit x y h1 h2 h3 = grind (arith, nat_tests, div-le, halves-less, ltb-false, ltb-true, pow_pos)

-- two items with the same bits can't part there
pub not-both : (bit : ℕ) (x y : Item) → side bit x ≡ side bit y → IsLow bit x → IsHigh bit y → ⊥
not-both bit x y e l h = let clash : 0 ≡ 1 = sym l ∙ ap (λ n. n % 2) e ∙ h in omega arith

pub low-or-high : (bit : ℕ) (x : Item) → IsLow bit x ⊎ IsHigh bit x
low-or-high bit x = grind (arith, nat_tests, ltb-false, ltb-true)

-- items that are alike and both have a bit, or both have not, have the same bits from it on
same-parts : (u v r : ℕ) → u / 2 ≡ v / 2 → u % 2 ≡ r → v % 2 ≡ r → u ≡ v
same-parts u v r e a b = let p = div-add-mod' u 2 in let q = div-add-mod' v 2 in omega arith

pub same-low : (bit : ℕ) (x y : Item) → AreAlike bit x y → IsLow bit x → IsLow bit y → side bit x ≡ side bit y
same-low bit x y e a b = same-parts (side bit x) (side bit y) 0 e a b

pub same-high : (bit : ℕ) (x y : Item) → AreAlike bit x y → IsHigh bit x → IsHigh bit y → side bit x ≡ side bit y
same-high bit x y e a b = same-parts (side bit x) (side bit y) 1 e a b

-- of two items of one event, the one with the lower place is below
pub at-less : (x y : Item) → x.event ≡ y.event → x.at < y.at → item_cmp x y ≡ Less
at-less x y e h = ap (λ (o : Ordering). ordering_then o (nat_cmp x.at y.at)) (sym (nat_cmp_is x.event y.event Equal e)) ∙ sym (nat_cmp_is x.at y.at Less h)

-- keys are ordered as items are
pub item-less : (x y : Item) → Fits x → Fits y → key_of x < key_of y → item_cmp x y ≡ Less
item-less x y h1 h2 h3 = grind (arith, nat_tests, at-less, div-add-mod', div-le, ltb-false, ltb-true)

pub side-zero : (x : Item) → side 0 x ≡ key_of x
side-zero x = let one : 2 ^ 0 ≡ 1 = refl in let p = div-add-mod' (key_of x) 1 in omega arith

pub side-fits : (key bit : ℕ) → key < 340282366920938463463374607431768211456 → bit < 128 → key / 2 ^ bit < 2 ^ (128 - bit)
side-fits key bit h1 h2 = grind (arith, nat_tests, shr_below)

bits-even : (m n : ℕ) → m < 2 → n < 2 → (m + n) % 2 ≡ 0 → m ≡ n
bits-even m n h k e = let p = div-add-mod' (m + n) 2 in omega arith

pub xor-same : (a b : ℕ) → bit_xor a b ≡ 0 → a ≡ b
xor-same a b e = same_from_bits a b (λ i. bits-even (bit_at a i) (bit_at b i) (mod_below (a / 2 ^ i) 2 (omega arith)) (mod_below (b / 2 ^ i) 2 (omega arith)) (sym (bit_at_xor a b i) ∙ ap (λ n. bit_at n i) e ∙ bit_at-zero i))

div-small : (a k : ℕ) → a < 2 ^ k → a / 2 ^ k ≡ 0
div-small a k h = let p = div-mul-add 0 (2 ^ k) a h in ap (λ n. n / 2 ^ k) (let e : a ≡ 0 * 2 ^ k + a = omega arith in e) ∙ p

-- above the highest bit of their difference two numbers have the same bits
pub same-over : (x y high bit : ℕ) → bit_xor x y < 2 ^ suc high → high ≤ bit → x / 2 ^ bit / 2 ≡ y / 2 ^ bit / 2
same-over x y high bit h least =
    let up : suc high ≤ bit + 1 = omega arith in
    let below : bit_xor x y < 2 ^ (bit + 1) = let more = pow-le-pow_right {n = 2} (omega arith) up in omega arith in
    let none : bit_xor (x / 2 ^ (bit + 1)) (y / 2 ^ (bit + 1)) ≡ 0 = sym (xor_shr x y (bit + 1)) ∙ div-small (bit_xor x y) (bit + 1) below in
    shr-shr x bit 1 ∙ xor-same (x / 2 ^ (bit + 1)) (y / 2 ^ (bit + 1)) none ∙ sym (shr-shr y bit 1)

-- and from it on they don't
pub differ-at : (x y high : ℕ) → 2 ^ high ≤ bit_xor x y → x / 2 ^ high ≡ y / 2 ^ high → ⊥
differ-at x y high h e =
    let none : bit_xor x y / 2 ^ high ≡ 0 = xor_shr x y high ∙ ap (λ n. bit_xor n (y / 2 ^ high)) e ∙ xor_self (y / 2 ^ high) in
    let some = le-div 1 (bit_xor x y) (2 ^ high) (pow_pos high) (omega arith) in
    omega arith

pub top-bit : (x y : ℕ) → x < 2 ^ 128 → y < 2 ^ 128 → (bit_xor x y ≡ 0 → ⊥) → (j : ℕ) × (count_leading_zeros 128 (bit_xor x y) + suc j ≡ 128) × (2 ^ j ≤ bit_xor x y) × (bit_xor x y < 2 ^ suc j)
top-bit x y h k differ = leading_top 128 (bit_xor x y) (omega (arith, differ)) (xor_lt 128 x y h k)
