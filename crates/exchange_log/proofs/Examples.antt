-- The spelling of a give at literal values.
use Rattle.std.proofs.Common.{◌≡◌, [], ◌∷◌, refl}
use Rattle.exchange_log.specs.Gives.{give_fields}

-- 00000000 00000000
nothing : give_fields (record { bytes = []; origins = [] }) ≡ 0 ∷ 0 ∷ 0 ∷ 0 ∷ 0 ∷ 0 ∷ 0 ∷ 0 ∷ []
nothing = refl

-- 02000000 abcd 01000000 0300000000000000 07000000 02000000: two bytes from place 7 of event 3
give : give_fields (record {
  bytes = 0xab ∷ 0xcd ∷ [];
  origins = record { event = 3; at = 7; len = 2 } ∷ [];
})
    ≡ 2 ∷ 0 ∷ 0 ∷ 0 ∷ 0xab ∷ 0xcd ∷ 1 ∷ 0 ∷ 0 ∷ 0
    ∷ 3 ∷ 0 ∷ 0 ∷ 0 ∷ 0 ∷ 0 ∷ 0 ∷ 0 ∷ 7 ∷ 0 ∷ 0 ∷ 0 ∷ 2 ∷ 0 ∷ 0 ∷ 0 ∷ []
give = refl
