use Rattle.std.proofs.Common.{◌≡◌, ℕ, ◌+◌, ◌<◌, List, [], ◌∷◌, ◌++◌, length, get_or, take, codes, sym, ap, ◌∙◌, append_assoc, arith}
use Rattle.std.specs.Int.{w64, to_be_bytes}
use Rattle.std.specs.Prelude.{slice_index}
use Rattle.std.specs.String.{string_bytes}
use Rattle.std.proofs.lemmas.Grind.{flat_map-append}
use Rattle.std.proofs.lemmas.List.{append-nil, take_more}
use Rattle.hex.specs.Hex.{encode_lower}
use Rattle.arn_lines.specs.Pieces.{LeavesFront}
use Rattle.arn_lines.specs.Texts.{word_text, words_text}
use Rattle.arn_lines.specs.Words.{space}
use Rattle.arn_lines.proofs.pieces.push_words.Goals as goal

-- the digits of one word more stand behind a space
words-more : (words : List ℕ) (i : ℕ) (old before mid after bytes : List ℕ) → i < length words → before ≡ old ++ words_text (take i words)
    → mid ≡ before ++ space → after ≡ mid ++ encode_lower bytes → bytes ≡ to_be_bytes w64 (get_or words i 0)
    → after ≡ old ++ words_text (take (i + 1) words)
words-more words i old before mid after bytes below so_far spaced pushed are_bytes =
    let word = space ++ word_text (get_or words i 0) in
    let others = words_text (take i words) in
    let one : words_text (get_or words i 0 ∷ []) ≡ word = append-nil word in
    let all : words_text (take (i + 1) words) ≡ others ++ word =
    ap words_text (take_more words i 0 below) ∙ flat_map-append (λ n. codes " " ++ word_text n) (take i words) (get_or words i 0 ∷ []) ∙ ap (λ xs. others ++ xs) one in
    let behind : after ≡ before ++ word =
    pushed ∙ ap (λ xs. xs ++ encode_lower bytes) spaced ∙ append_assoc before space (encode_lower bytes)
    ∙ ap (λ (xs : List ℕ). before ++ (space ++ encode_lower xs)) are_bytes in
    behind ∙ ap (λ xs. xs ++ word) so_far ∙ append_assoc old others word ∙ ap (λ xs. old ++ xs) (sym all)

-- words begin with a space, also with more behind them
words-cut : (words : List ℕ) → slice_index (words_text words) 0 < 128
words-cut [] = omega arith
words-cut (w ∷ words) = omega arith

spaced-cut : (words : List ℕ) → slice_index (words_text words ++ space) 0 < 128
spaced-cut [] = omega arith
spaced-cut (w ∷ words) = omega arith

words-front : (words old new : List ℕ) → new ≡ old ++ words_text words → LeavesFront old new
words-front words old new e = record { more = words_text words; is_text = e; is_cut = words-cut words }

pub loop-word-preserved : goal.loop-word-preserved
loop-word-preserved c =
    let old = string_bytes c.args.text.now in
    let new = string_bytes c.push_hex.new.text in
    let words = c.args.words.now in
    let i = c.loop-word.word-index in
    let written : new ≡ old ++ words_text (take (i + 1) words) =
    words-more words i old (string_bytes c.loop-word.text) (string_bytes c.push_str.new.self) new c.to_be_bytes.result (omega arith)
    c.loop-word.invariant.written c.in_ok-push_str.ensures.bytes c.in_ok-push_hex.ensures.ok c.to_be_bytes.ensures in
    record { written = written; front = words-front (take (i + 1) words) old new written }

pub returns-in_err-push_hex-clause-front : goal.returns-in_err-push_hex-clause-front
returns-in_err-push_hex-clause-front c =
    let old = string_bytes c.args.text.now in
    let words = take c.loop-word.word-index c.args.words.now in
    record {
      more = words_text words ++ space;
      is_text = c.in_err-push_hex.ensures.err ∙ c.in_ok-push_str.ensures.bytes ∙ ap (λ xs. xs ++ space) c.loop-word.invariant.written
          ∙ append_assoc old (words_text words) space;
      is_cut = spaced-cut words;
    }
