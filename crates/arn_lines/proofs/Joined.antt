-- Parts of a line that stand behind one another, joined from the right.
use Rattle.std.proofs.Common.{◌≡◌, ℕ, List, ◌∷◌, ◌++◌, ◌∙◌, append_assoc}
use Rattle.arn_lines.specs.Words.{space}

pub two-joined : (a b e : List ℕ) → (a ++ space ++ b) ++ e ≡ a ++ (32 ∷ (b ++ e))
two-joined a b e = append_assoc (a ++ space) b e ∙ append_assoc a space (b ++ e)

pub three-joined : (a b c e : List ℕ) → (a ++ space ++ b ++ space ++ c) ++ e ≡ a ++ (32 ∷ (b ++ (32 ∷ (c ++ e))))
three-joined a b c e = two-joined (a ++ space ++ b) c e ∙ two-joined a b (32 ∷ (c ++ e))

-- all parts of the last line of an answer
pub all-joined : (a b c d e f g h : List ℕ)
    → a ++ b ++ c ++ d ++ e ++ f ++ g ++ h ≡ a ++ (b ++ (c ++ (d ++ (e ++ (f ++ (g ++ h))))))
all-joined a b c d e f g h =
    append_assoc (a ++ b ++ c ++ d ++ e ++ f) g h
    ∙ append_assoc (a ++ b ++ c ++ d ++ e) f (g ++ h)
    ∙ append_assoc (a ++ b ++ c ++ d) e (f ++ (g ++ h))
    ∙ append_assoc (a ++ b ++ c) d (e ++ (f ++ (g ++ h)))
    ∙ append_assoc (a ++ b) c (d ++ (e ++ (f ++ (g ++ h))))
    ∙ append_assoc a b (c ++ (d ++ (e ++ (f ++ (g ++ h)))))
