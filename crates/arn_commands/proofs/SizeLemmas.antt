-- How much the lines of a session hold.
use Rattle.std.proofs.Common.{◌≡◌, ℕ, ◌+◌, ◌≤◌, ◌++◌, Bool, List, [], ◌∷◌, length, take, ap, arith, length-append, length-drop, inl, inr, codes, true}
use Rattle.std.specs.Prelude.{◌&&◌, nat_le, bytes_eq}
use Rattle.std.specs.List.{list_all}
use Rattle.std.proofs.lemmas.Bool.{and_parts, leb-true}
use Rattle.std.proofs.lemmas.Bool.Decides.{nat_tests}
use Rattle.parts_model.specs.declared.limits.TheConstants.{MOST_FILE_BYTES, WINDOW_END, WINDOW_START}
use Rattle.parts_model.specs.Image.{can_enter, fits_window, header_len, image_name, is_image, read_as_image}
use Rattle.parts_model.specs.Files.{is_name}
use Rattle.arn_lines.specs.declared.line.Line.{Line}
use Rattle.arn_lines.specs.declared.line.Line.TheVariants as line
use Rattle.arn_lines.specs.Words.{IsHex, IsBytes, IsName, is_name_byte, space}
use Rattle.arn_lines.specs.Grammar.{IsLine}
use Rattle.arn_commands.specs.Sizes.{LineFits}

-- hex text is at least as long as its bytes
length-hex : (text bytes : List ℕ) → IsHex text bytes → length bytes ≤ length text
length-hex [] [] is = omega arith
length-hex [] (b ∷ bytes) is = absurd is
length-hex (h ∷ []) bytes is = absurd (odd bytes is)
  where
    odd : (bs : List ℕ) → IsHex (h ∷ []) bs → ⊥
    odd [] is = is
    odd (b ∷ bs) is = is
length-hex (h ∷ l ∷ text) [] is = absurd is
length-hex (h ∷ l ∷ text) (b ∷ bytes) is = let rest = length-hex text bytes is.1 in omega (arith, rest)

length-bytes : (text bytes : List ℕ) → IsBytes text bytes → length bytes ≤ length text
length-bytes text bytes (inl is) = length-hex text bytes is.1
length-bytes text bytes (inr is) = let none = ap length is.1 in omega (arith, none)

-- a name of the grammar is one of the machine's
pub name-is_name : (text : List ℕ) → IsName text → is_name text ≡ true
name-is_name text is =
    let parts = and_parts (nat_le 1 (length text)) (nat_le (length text) 64 && list_all is_name_byte text) is in
    let low = parts.0 in
    let high = (and_parts (nat_le (length text) 64) (list_all is_name_byte text) parts.1).0 in
    grind (arith, nat_tests)

-- what a line of a session says fits the machine
pub line-fits : (text : List ℕ) (l : Line) → length text ≤ 1048576 → IsLine text l → LineFits l
line-fits text (line.File name bytes) short is =
    let size = length-bytes is.hex bytes is.is_bytes in
    let whole = ap length is.is_text in
    (name-is_name name is.is_name, omega (arith, size, whole, short, length-append (codes "file " ++ name ++ space) is.hex))
line-fits text (line.Boot name) short is = name-is_name name is.is_name
line-fits text (line.Type bytes) short is =
    let size = length-bytes is.hex bytes is.is_bytes in
    let whole = ap length is.is_text in
    omega (arith, size, whole, short, length-append (codes "type ") is.hex)
line-fits text (line.Run count) short is = is.at_most
line-fits text l short is = tt

-- an image fits
pub is_image-fits : (file : List ℕ) → is_image file ≡ true → length file ≤ MOST_FILE_BYTES
is_image-fits file is =
    let enter : Bool = can_enter (read_as_image file).entry in
    let fits : Bool = fits_window (read_as_image file) in
    let named = and_parts (nat_le header_len (length file)) (bytes_eq (take 8 file) image_name && (enter && fits)) is in
    let entered = and_parts (bytes_eq (take 8 file) image_name) (enter && fits) named.1 in
    let whole = and_parts enter fits entered.1 in
    let image = read_as_image file in
    let window = and_parts (nat_le WINDOW_START image.load) (nat_le (image.load + length image.body) WINDOW_END) whole.1 in
    omega (arith, leb-true WINDOW_START image.load window.0, leb-true (image.load + length image.body) WINDOW_END window.1, length-drop header_len file)
