-- Which operands masks of bytes stand for.
use Rattle.std.specs.Prelude.{ℕ, ◌==◌, ◌&&◌, nat_lt, Bool}
use Rattle.std.specs.Int.{bit_at}
use Rattle.rv64_model.specs.Carries.{Operand, Left, Right, Loaded, Address}
use Rattle.link_rules.specs.declared.masks.Operands.{Operands}

-- bit i of a mask of eight bits is set
abbrev pub has_byte : ℕ → ℕ → Bool
has_byte mask i = nat_lt i 8 && bit_at mask i == 1

-- an operand is in the masks: by the bit of its byte, or as one of the eight bytes of the address's register
abbrev pub is_in : Operands → Operand → Bool
is_in masks (Left i) = has_byte masks.first i
is_in masks (Right i) = has_byte masks.second i
is_in masks (Loaded k) = has_byte masks.loaded k
is_in masks (Address i) = masks.address && nat_lt i 8
