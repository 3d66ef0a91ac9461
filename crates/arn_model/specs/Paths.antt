-- Paths as arguments: an address and a length.
use Rattle.std.specs.Prelude.{ℕ, nat_le, ◌&&◌, not, Bool, List}
use Rattle.parts_model.specs.declared.limits.TheConstants.{MOST_NAME_BYTES}
use Rattle.acts_model.specs.Bodies.{View}
use Rattle.acts_model.specs.Views.{read}

-- a path has 1 to 64 bytes
abbrev pub isnt_path_len : ℕ → Bool
isnt_path_len len = not (nat_le 1 len && nat_le len MOST_NAME_BYTES)

abbrev pub path_of : View → ℕ → ℕ → List ℕ
path_of v at len = read v at len
