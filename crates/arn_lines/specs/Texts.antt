-- The lines that answer, each with its LF.
use Rattle.std.specs.Prelude.{ℕ, List, [], ◌∷◌, ◌++◌, codes, decimal, flat_map}
use Rattle.std.specs.Int.{w64, to_be_bytes}
use Rattle.hex.specs.Hex.{encode_lower}
use Rattle.arn_base.specs.declared.records.Pair.{Pair}
use Rattle.arn_lines.specs.declared.answer.RunEnd.{RunEnd}
use Rattle.arn_lines.specs.declared.answer.RunEnd.TheVariants.{Done, Stalled, Budget}
use Rattle.arn_lines.specs.declared.answer.Refusal.{Refusal}
use Rattle.arn_lines.specs.declared.answer.Refusal.TheVariants.{NoLong, NoLine, NoBoot, NoBooted, NoAsm, NoName, NoImage, NoDevice, NoPoint}

abbrev pub line_end : List ℕ
line_end = 10 ∷ []

-- bytes in lower-case hex, `-` for none
abbrev pub bytes_text : List ℕ → List ℕ
bytes_text [] = codes "-"
bytes_text (b ∷ bytes) = encode_lower (b ∷ bytes)

-- a number of 64 bits, in 16 hex digits
abbrev pub word_text : ℕ → List ℕ
word_text n = encode_lower (to_be_bytes w64 n)

-- such numbers behind one another
abbrev pub words_text : List ℕ → List ℕ
words_text words = flat_map (λ n. codes " " ++ word_text n) words

-- `event E`
abbrev pub event_text : ℕ → List ℕ
event_text event = codes "event " ++ decimal event ++ line_end

-- `out E PID HEX`
abbrev pub out_text : ℕ → ℕ → List ℕ → List ℕ
out_text event pid bytes = codes "out " ++ decimal event ++ codes " " ++ decimal pid ++ codes " " ++ bytes_text bytes ++ line_end

abbrev pub end_word : RunEnd → List ℕ
end_word Done = codes "done"
end_word Stalled = codes "stalled"
end_word Budget = codes "budget"

-- `ran K END`
abbrev pub ran_text : ℕ → RunEnd → List ℕ
ran_text ran end = codes "ran " ++ decimal ran ++ codes " " ++ end_word end ++ line_end

abbrev pub refusal_text : Refusal → List ℕ
refusal_text NoLong = codes "no long" ++ line_end
refusal_text NoLine = codes "no line" ++ line_end
refusal_text NoBoot = codes "no boot" ++ line_end
refusal_text NoBooted = codes "no booted" ++ line_end
refusal_text (NoAsm line) = codes "no asm " ++ decimal line ++ line_end
refusal_text NoName = codes "no name" ++ line_end
refusal_text NoImage = codes "no image" ++ line_end
refusal_text NoDevice = codes "no device" ++ line_end
refusal_text NoPoint = codes "no point" ++ line_end

-- `pair E A K`
abbrev pub pair_text : Pair → List ℕ
pair_text p = codes "pair " ++ decimal p.event ++ codes " " ++ decimal p.at ++ codes " " ++ decimal p.byte ++ line_end

-- numbers of groups behind one another, `-` for none
abbrev pub groups_text : List ℕ → List ℕ
groups_text [] = codes " -"
groups_text (g ∷ groups) = flat_map (λ h. codes " " ++ decimal h) (g ∷ groups)

-- how many pairs there are, and which groups were asked for them: WORD` pairs P instructions I groups G ..`
abbrev pub count_text : List ℕ → ℕ → ℕ → List ℕ → List ℕ
count_text word pairs instructions groups =
    word ++ codes " pairs " ++ decimal pairs ++ codes " instructions " ++ decimal instructions ++ codes " groups" ++ groups_text groups ++ line_end

-- `back pairs P instructions I groups G ..`
abbrev pub back_text : ℕ → ℕ → List ℕ → List ℕ
back_text pairs instructions groups = count_text (codes "back") pairs instructions groups

-- `forth pairs P instructions I groups G ..`
abbrev pub forth_text : ℕ → ℕ → List ℕ → List ℕ
forth_text pairs instructions groups = count_text (codes "forth") pairs instructions groups

-- `damaged E SAID FOUND`
abbrev pub damaged_text : ℕ → ℕ → ℕ → List ℕ
damaged_text event said found =
    codes "damaged " ++ decimal event ++ codes " " ++ decimal said ++ codes " " ++ decimal found ++ line_end
