use Rattle.std.proofs.Common.{◌≡◌, ℕ, zero, suc, ◌+◌, ◌*◌, List, [], ◌∷◌, take, drop, slice_index, refl, arith}
use Rattle.arn_base.specs.Window.{number_of}
use Rattle.taint_state.proofs.layout.load_of.Goals as goal

-- bytes behind the end of a list count for nothing
none : (n k : ℕ) → number_of (take n (drop k [])) ≡ 0
none zero zero = refl
none zero (suc k) = refl
none (suc n) zero = refl
none (suc n) (suc k) = refl

-- the lowest byte, and the others
lowest : (n k : ℕ) (file : List ℕ) → number_of (take (suc n) (drop k file)) ≡ slice_index file k + 256 * number_of (take n (drop (suc k) file))
lowest n zero [] = let rest = none n 1 in omega arith
lowest n (suc k) [] = let rest = none n (suc (suc k)) in omega arith
lowest n zero (byte ∷ file) = refl
lowest n (suc k) (byte ∷ file) = lowest n k file

eight : (file : List ℕ) (number a b c d e f g h : ℕ) → a ≡ slice_index file 16 → b ≡ slice_index file 17 → c ≡ slice_index file 18 → d ≡ slice_index file 19 → e ≡ slice_index file 20 → f ≡ slice_index file 21
    → g ≡ slice_index file 22 → h ≡ slice_index file 23
    → number ≡ a + b * 256 + c * 65536 + d * 16777216 + e * 4294967296 + f * 1099511627776 + g * 281474976710656 + h * 72057594037927936 → number ≡ number_of (take 8 (drop 16 file))
eight file number a b c d e f g h at_a at_b at_c at_d at_e at_f at_g at_h is =
    let from_a = lowest 7 16 file in
    let from_b = lowest 6 17 file in
    let from_c = lowest 5 18 file in
    let from_d = lowest 4 19 file in
    let from_e = lowest 3 20 file in
    let from_f = lowest 2 21 file in
    let from_g = lowest 1 22 file in
    let from_h = lowest 0 23 file in
    let end : number_of (take 0 (drop 24 file)) ≡ 0 = refl in
    omega arith

pub returns : goal.returns
returns c =
    eight c.args.file.now c.from_le_bytes.result c.byte_at.result c.byte_at-2.result c.byte_at-3.result c.byte_at-4.result c.byte_at-5.result c.byte_at-6.result c.byte_at-7.result c.byte_at-8.result
    c.byte_at.ensures c.byte_at-2.ensures c.byte_at-3.ensures c.byte_at-4.ensures c.byte_at-5.ensures c.byte_at-6.ensures c.byte_at-7.ensures c.byte_at-8.ensures c.from_le_bytes.ensures
