use Rattle.std.proofs.Common.{◌≡◌, ◌++◌, take, string_bytes}
use Rattle.arn_lines.specs.Pieces.{LeavesFront}
use Rattle.arn_lines.specs.Texts.{words_text}
use Rattle.arn_lines.proofs.pieces.push_words.Given as goal

-- the words so far are written
abbrev pub invariant-loop-word : goal.invariant-loop-word
invariant-loop-word l = record {
  written : string_bytes l.text ≡ string_bytes l.initial.text ++ words_text (take l.word-index l.words);
  front : LeavesFront (string_bytes l.initial.text) (string_bytes l.text);
}
