-- Ports as they are kept.
use Rattle.std.specs.Prelude.{◌≡◌, false, [], ◌∷◌}
use Rattle.parts_model.specs.Ports.{Ports, is_in_use}

-- no number stands twice
abbrev pub AreApart : Ports → Type 0
AreApart [] = Unit {0}
AreApart (p ∷ ports) = (is_in_use ports p.number ≡ false) × AreApart ports
