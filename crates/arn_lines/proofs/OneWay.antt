-- A line reads one way.
use Rattle.std.proofs.Common.{◌≡◌, ◌≢◌, ℕ, ◌==◌, false, eq-eqb, List, [], ◌∷◌, refl, sym, ap, subst, ◌∙◌, arith}
use Rattle.std.proofs.lemmas.Bool.{false≢true}
use Rattle.arn_lines.specs.declared.line.Line.{Line}
use Rattle.arn_lines.specs.declared.line.Question.{Question}
use Rattle.arn_lines.specs.declared.line.Question.TheVariants as question
use Rattle.arn_lines.specs.declared.line.LineReading.{LineReading}
use Rattle.arn_lines.specs.declared.line.LineReading.TheVariants.{PassedOver, TooLong, Unreadable, Says, Generates}
use Rattle.arn_lines.specs.Grammar.{IsGen, IsLine, IsPassedOver, Reads}
use Rattle.arn_lines.specs.Questions.{IsQuestion}
use Rattle.arn_lines.proofs.GenWords.{IsGen-same, no_gen_line}
use Rattle.arn_lines.proofs.Keywords.{AtQuestion, IsLine-kind, IsLine-same, IsLineOf}

-- a byte that is no `#`, by a test that computes
no_hash : (c : ℕ) → (c == 35) ≡ false → c ≢ 35
no_hash c other e = false≢true (sym other ∙ eq-eqb c 35 e)

-- a question isn't passed over
question-begins : (text : List ℕ) (q : Question) → IsQuestion text q → ¬ IsPassedOver text
question-begins text (question.Show moment shown) h over = no_hash 115 refl (subst IsPassedOver h.is_text over)
question-begins text (question.Back linkage bytes) h over = no_hash 98 refl (subst IsPassedOver h.is_text over)
question-begins text (question.Forth linkage event from len) h over = no_hash 102 refl (subst IsPassedOver h.is_text over)
question-begins text question.Groups h over = no_hash 103 refl (subst IsPassedOver h over)
question-begins text question.Events h over = no_hash 101 refl (subst IsPassedOver h over)
question-begins text question.Verify h over = no_hash 118 refl (subst IsPassedOver h over)

-- a line that says something is not passed over: what is passed over begins with no keyword of another line
IsLine-begins : (text : List ℕ) (l : Line) → IsLine text l → ¬ IsPassedOver text
IsLine-begins [] l h over =
    let asks : IsLineOf AtQuestion [] l = IsLine-kind [] l h in
    question-begins [] asks.0 asks.2 over
IsLine-begins (c ∷ text) l h over =
    let asks : IsLineOf AtQuestion (35 ∷ text) l = IsLine-kind (35 ∷ text) l (subst (λ (d : ℕ). IsLine (d ∷ text) l) over h) in
    question-begins (35 ∷ text) asks.0 asks.2 refl

IsGen-begins : (text : List ℕ) (seed processes : ℕ) → IsGen text seed processes → ¬ IsPassedOver text
IsGen-begins text seed processes h over = no_hash 103 refl (subst IsPassedOver h.is_text over)

pub Reads-same : (text : List ℕ) (a b : LineReading) → Reads text a → Reads text b → a ≡ b
Reads-same text PassedOver TooLong h k = absurd (k.not_passed_over h)
Reads-same text PassedOver Unreadable h k = absurd (k.not_passed_over h)
Reads-same text PassedOver (Says l) h k = absurd (IsLine-begins text l k.1 h)
Reads-same text PassedOver (Generates seed processes) h k = absurd (IsGen-begins text seed processes k.1 h)
Reads-same text TooLong PassedOver h k = absurd (h.not_passed_over k)
Reads-same text TooLong Unreadable h k = absurd (omega (arith, h.long, k.not_long))
Reads-same text TooLong (Says l) h k = absurd (omega (arith, h.long, k.0))
Reads-same text TooLong (Generates seed processes) h k = absurd (omega (arith, h.long, k.0))
Reads-same text Unreadable PassedOver h k = absurd (h.not_passed_over k)
Reads-same text Unreadable TooLong h k = absurd (omega (arith, h.not_long, k.long))
Reads-same text Unreadable (Says l) h k = absurd (h.says_nothing l k.1)
Reads-same text Unreadable (Generates seed processes) h k = absurd (h.generates_nothing seed processes k.1)
Reads-same text (Says l) PassedOver h k = absurd (IsLine-begins text l h.1 k)
Reads-same text (Says l) TooLong h k = absurd (omega (arith, h.0, k.long))
Reads-same text (Says l) Unreadable h k = absurd (k.says_nothing l h.1)
Reads-same text (Says l) (Says m) h k = ap Says (IsLine-same text l m h.1 k.1)
Reads-same text (Says l) (Generates seed processes) h k = absurd (no_gen_line text l seed processes k.1 h.1)
Reads-same text (Generates seed processes) PassedOver h k = absurd (IsGen-begins text seed processes h.1 k)
Reads-same text (Generates seed processes) TooLong h k = absurd (omega (arith, h.0, k.long))
Reads-same text (Generates seed processes) Unreadable h k = absurd (k.generates_nothing seed processes h.1)
Reads-same text (Generates seed processes) (Says l) h k = absurd (no_gen_line text l seed processes h.1 k.1)
Reads-same text (Generates seed processes) (Generates other many) h k =
    let same = IsGen-same text seed other processes many h.1 k.1 in
    cc (same.0, same.1)
Reads-same text _ _ h k = refl
