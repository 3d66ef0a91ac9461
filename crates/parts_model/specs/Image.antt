-- Images of programs.
use Rattle.std.specs.Prelude.{ℕ, ◌+◌, ◌%◌, ◌==◌, nat_lt, nat_le, ◌&&◌, Bool, List, Option, Some, None, if◌then◌else◌, length, take, drop, codes, bytes_eq}
use Rattle.arn_base.specs.Window.{number_of}
use Rattle.parts_model.specs.declared.limits.TheConstants.{WINDOW_START, WINDOW_END}

-- where the first instruction stands, and the bytes that stand at an address
pub record Image : Type 0 where
  pub entry : ℕ
  pub load : ℕ
  pub body : List ℕ

-- an image's name, and how many bytes stand before its body: the name, entry and load address, 8 bytes each
abbrev pub image_name : List ℕ
image_name = codes "ARNIMG01"

abbrev pub header_len : ℕ
header_len = 24

-- the three parts of a file, read as an image
abbrev pub read_as_image : List ℕ → Image
read_as_image file =
    record { entry = number_of (take 8 (drop 8 file)); load = number_of (take 8 (drop 16 file)); body = drop header_len file }

-- the entry is a multiple of 4 in the private window
abbrev pub can_enter : ℕ → Bool
can_enter entry = (entry % 4 == 0) && (nat_le WINDOW_START entry && nat_lt entry WINDOW_END)

-- the body lies whole in the private window
abbrev pub fits_window : Image → Bool
fits_window image = nat_le WINDOW_START image.load && nat_le (image.load + length image.body) WINDOW_END

abbrev pub is_image : List ℕ → Bool
is_image file =
    nat_le header_len (length file) && (bytes_eq (take 8 file) image_name && (can_enter (read_as_image file).entry && fits_window (read_as_image file)))

-- the image that a file holds, if it is one
abbrev pub image_of : List ℕ → Option Image
image_of file = if is_image file then Some (read_as_image file) else None
