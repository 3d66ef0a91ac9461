-- The definitions at literal values.
use Rattle.std.proofs.Common.{◌≡◌, ℕ, ◌++◌, List, [], ◌∷◌, Some, None, replicate, codes, refl}
use Rattle.arn_base.specs.declared.records.Src.{Src}
use Rattle.parts_model.specs.Image.{image_of}
use Rattle.parts_model.specs.Tagged.{origins_of}

-- the program that reads three bytes, writes them and exits, as a file
program : List ℕ
program =
    codes "ARNIMG01" ++ (0 ∷ 0 ∷ 1 ∷ 0 ∷ 0 ∷ 0 ∷ 0 ∷ 0 ∷ []) ++ (0 ∷ 0 ∷ 1 ∷ 0 ∷ 0 ∷ 0 ∷ 0 ∷ 0 ∷ []) ++ (0x93 ∷ 0x08 ∷ 0xb0 ∷ 0x00 ∷ 0x73 ∷ 0 ∷ 0 ∷ 0 ∷ [])

image-header :
    (image_of program ≡ Some (record { entry = 0x10000; load = 0x10000; body = 0x93 ∷ 0x08 ∷ 0xb0 ∷ 0x00 ∷ 0x73 ∷ 0 ∷ 0 ∷ 0 ∷ [] }))
    -- a name that differs, and a file that ends in its header, are no images
    × (image_of (codes "ARNIMG02" ++ replicate 16 0) ≡ None)
    × (image_of (codes "ARNIMG01") ≡ None)
unfolding program
image-header = (refl, refl, refl)

-- places of two events, as the longest runs
place_of : ℕ → ℕ → Src
place_of event at = record { event = event; at = at }

origins-joined : origins_of (place_of 7 0 ∷ place_of 7 1 ∷ place_of 9 0 ∷ place_of 7 1 ∷ []) ≡ record { event = 7; at = 0; len = 2 } ∷ record { event = 9; at = 0; len = 1 } ∷ record { event = 7; at = 1; len = 1 } ∷ []
unfolding place_of
origins-joined = refl

-- an image with an entry and a load address, of three bytes each, and a body
image_at : List ℕ → List ℕ → List ℕ → List ℕ
image_at entry load body = codes "ARNIMG01" ++ entry ++ replicate 5 0 ++ load ++ replicate 5 0 ++ body

-- an empty body may lie at the window's end, and one byte may not
image-body :
    (image_of (image_at (0 ∷ 0 ∷ 1 ∷ []) (0 ∷ 0 ∷ 5 ∷ []) []) ≡ Some (record { entry = 0x10000; load = 0x50000; body = [] }))
    × (image_of (image_at (0 ∷ 0 ∷ 1 ∷ []) (1 ∷ 0 ∷ 5 ∷ []) []) ≡ None)
    × (image_of (image_at (0 ∷ 0 ∷ 1 ∷ []) (0xff ∷ 0xff ∷ 4 ∷ []) (7 ∷ 8 ∷ [])) ≡ None)
    × (image_of (image_at (0 ∷ 0 ∷ 1 ∷ []) (0xff ∷ 0xff ∷ 4 ∷ []) (7 ∷ [])) ≡ Some (record { entry = 0x10000; load = 0x4ffff; body = 7 ∷ [] }))
    × (image_of (image_at (0 ∷ 0 ∷ 1 ∷ []) (0xff ∷ 0xff ∷ 0 ∷ []) (7 ∷ 8 ∷ [])) ≡ None)
unfolding image_at
image-body = (refl, refl, refl, refl, refl)

-- the entry is a multiple of 4 in the window, also outside the body
image-entry :
    (image_of (image_at (0xfc ∷ 0xff ∷ 4 ∷ []) (0 ∷ 0 ∷ 1 ∷ []) (7 ∷ [])) ≡ Some (record { entry = 0x4fffc; load = 0x10000; body = 7 ∷ [] }))
    × (image_of (image_at (0 ∷ 0 ∷ 5 ∷ []) (0 ∷ 0 ∷ 1 ∷ []) (7 ∷ [])) ≡ None)
    × (image_of (image_at (0xfc ∷ 0xff ∷ 0 ∷ []) (0 ∷ 0 ∷ 1 ∷ []) (7 ∷ [])) ≡ None)
    × (image_of (image_at (2 ∷ 0 ∷ 1 ∷ []) (0 ∷ 0 ∷ 1 ∷ []) (7 ∷ [])) ≡ None)
unfolding image_at
image-entry = (refl, refl, refl, refl)
