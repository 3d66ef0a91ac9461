-- Words that are remembered with their instructions.
use Rattle.std.specs.Prelude.{◌≡◌, Some}
use Rattle.rv64_isa.specs.Decoded.{decoded}
use Rattle.rv64_core.specs.declared.decoder.Known.{Known}

-- the instruction is the word's
abbrev pub IsDecoded : Known → Type 0
IsDecoded known = decoded known.word ≡ Some known.instr
