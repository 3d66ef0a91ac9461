-- What is printed of an answer.
use Rattle.std.proofs.Common.{◌≡◌, ◌∙◌, ◌++◌, List, ℕ, append_assoc, length, ap, flat_map}
use Rattle.arn_base.specs.declared.records.Pair.{Pair}
use Rattle.arn_lines.specs.Texts.{count_text, pair_text}
use Rattle.session_questions.specs.Texts.{pairs_text}

pub answer-printed : (word old middle new : List ℕ) (pairs : List Pair) (count instructions given : ℕ) (groups listed : List ℕ)
    → middle ≡ old ++ flat_map pair_text pairs → new ≡ middle ++ count_text word count given listed → count ≡ length pairs → given ≡ instructions → listed ≡ groups
    → new ≡ old ++ pairs_text word pairs instructions groups
answer-printed word old middle new pairs count instructions given groups listed first second many ran are =
    second
    ∙ (ap (λ (n : ℕ). middle ++ count_text word n given listed) many
    ∙ (ap (λ (n : ℕ). middle ++ count_text word (length pairs) n listed) ran
    ∙ (ap (λ (g : List ℕ). middle ++ count_text word (length pairs) instructions g) are
    ∙ (ap (λ (x : List ℕ). x ++ count_text word (length pairs) instructions groups) first
    ∙ append_assoc old (flat_map pair_text pairs) (count_text word (length pairs) instructions groups)))))
