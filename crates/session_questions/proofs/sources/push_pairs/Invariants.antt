use Rattle.std.proofs.Common.{◌≡◌, ◌++◌, take, flat_map, string_bytes}
use Rattle.arn_lines.specs.Texts.{pair_text}
use Rattle.session_questions.proofs.sources.push_pairs.Given as goal

abbrev pub invariant-loop-pair : goal.invariant-loop-pair
invariant-loop-pair l =
    string_bytes l.text ≡ string_bytes l.initial.text ++ flat_map pair_text (take l.pair-index l.pairs)
