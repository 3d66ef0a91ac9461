-- What a past state holds, each with its LF: registers and bytes.
use Rattle.std.specs.Prelude.{ℕ, List, ◌∷◌, ◌++◌, codes}
use Rattle.arn_base.specs.declared.machine.Cpu.{Cpu}
use Rattle.arn_lines.specs.Texts.{bytes_text, line_end, words_text}

-- `regs PC X1 X2 .. X31`
abbrev pub regs_line : Cpu → List ℕ
regs_line cpu = codes "regs" ++ words_text (cpu.pc ∷ cpu.x) ++ line_end

-- `mem HEX`
abbrev pub mem_line : List ℕ → List ℕ
mem_line bytes = codes "mem " ++ bytes_text bytes ++ line_end

-- `file HEX`
abbrev pub file_line : List ℕ → List ℕ
file_line bytes = codes "file " ++ bytes_text bytes ++ line_end
