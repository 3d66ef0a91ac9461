-- Distances and addresses at the ends of their fields.
use Rattle.std.proofs.Common.{◌≡◌, true, false, refl, pos, neg_ℤ}
use Rattle.guest_asm.specs.Meanings.{is_distance, lower_part, upper_part}

branch-distances :
    (is_distance 13 (neg_ℤ (pos 4096)) ≡ true)
    × (is_distance 13 (pos 4094) ≡ true)
    × (is_distance 13 (pos 4096) ≡ false)
    × (is_distance 13 (neg_ℤ (pos 4098)) ≡ false)
    × (is_distance 13 (pos 3) ≡ false)
branch-distances = (refl, refl, refl, refl, refl)

jump-distances :
    (is_distance 21 (neg_ℤ (pos 1048576)) ≡ true)
    × (is_distance 21 (pos 1048574) ≡ true)
    × (is_distance 21 (pos 1048576) ≡ false)
jump-distances = (refl, refl, refl)

address-parts :
    (upper_part 0x107ff ≡ 0x10)
    × (lower_part 0x107ff ≡ pos 2047)
    × (upper_part 0x10800 ≡ 0x11)
    × (lower_part 0x10800 ≡ neg_ℤ (pos 2048))
address-parts = (refl, refl, refl, refl)
