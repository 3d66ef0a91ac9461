-- What the header of an image says.
use Rattle.std.specs.Prelude.{◌≡◌, ℕ, List, Some, drop}
use Rattle.parts_model.specs.Image.{image_of, header_len}
use Rattle.guest_image.specs.declared.image.Image.{Image}

-- the file is an image with this header; its body is the rest
abbrev pub IsHeaderOf : List ℕ → Image → Type 0
IsHeaderOf file header = image_of file ≡ Some (record { entry = header.entry; load = header.load; body = drop header_len file })
