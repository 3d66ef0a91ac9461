-- The pieces of a line that is written.
use Rattle.std.specs.Prelude.{◌<◌, nat_lt, ℕ, Bool, true, List, decimal, slice_index}
use Rattle.arn_lines.specs.declared.pieces.Piece.{Piece}
use Rattle.arn_lines.specs.declared.pieces.Piece.TheVariants.{Text, Number, Sum, Bytes, Words, Groups}
use Rattle.arn_lines.specs.Texts.{bytes_text, groups_text, words_text}

-- a text that begins with an ASCII character, or is empty: a line may be cut off before it
abbrev pub IsPlain : List ℕ → Type 0
IsPlain text = slice_index text 0 < 128

-- what is written of a piece
abbrev pub piece_text : Piece → List ℕ
piece_text (Text text) = text.now
piece_text (Number n) = decimal n
piece_text (Sum n) = decimal n
piece_text (Bytes bytes) = bytes_text bytes.now
piece_text (Words words) = words_text words.now
piece_text (Groups groups) = groups_text groups.now

-- the test of a piece: where it is a text, that one must be as `IsPlain` says; what is written of any other piece always is
abbrev pub is_plain : Piece → Bool
is_plain (Text text) = nat_lt (slice_index text.now 0) 128
is_plain (Number n) = true
is_plain (Sum n) = true
is_plain (Bytes bytes) = true
is_plain (Words words) = true
is_plain (Groups groups) = true
