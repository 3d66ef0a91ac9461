-- The words of `gen SEED N`.
use Rattle.std.proofs.Common.{◌≡◌, ℕ, List, [], ◌∷◌, ◌++◌, drop, codes, refl, sym, ap, subst, ◌∙◌}
use Rattle.arn_lines.specs.declared.line.Line.{Line}
use Rattle.arn_lines.specs.Grammar.{IsGen, IsLine}
use Rattle.arn_lines.specs.Questions.{AreNumbers}
use Rattle.arn_lines.specs.Words.{space}
use Rattle.arn_lines.proofs.Asks.{apart}
use Rattle.arn_lines.proofs.Keywords.{AtQuestion, IsLine-kind, IsLineOf}
use Rattle.arn_lines.proofs.Lists.{AreNumbers-same}
use Rattle.arn_lines.proofs.QuestionKinds.{IsQuestion-kind}

-- behind `gen ` stand the two numbers
pub IsGen-numbers : (text rest : List ℕ) (seed processes : ℕ) → text ≡ codes "gen " ++ rest → IsGen text seed processes
    → AreNumbers rest (seed ∷ processes ∷ [])
IsGen-numbers text rest seed processes is g =
    (g.processes_word, record { number = g.seed_word; is_number = g.is_seed; is_text = ap (drop 4) (sym is ∙ g.is_text) }, g.is_processes)

-- they are those that the line says
pub IsGen-read : (text rest : List ℕ) (a b m n : ℕ) → text ≡ codes "gen " ++ rest → AreNumbers rest (a ∷ m ∷ []) → IsGen text b n
    → (a ≡ b) × (m ≡ n)
IsGen-read text rest a b m n is are g =
    let same = AreNumbers-same rest (a ∷ m ∷ []) (b ∷ n ∷ []) refl are (IsGen-numbers text rest b n is g) in
    (cc same, cc same)

pub IsGen-same : (text : List ℕ) (a b m n : ℕ) → IsGen text a m → IsGen text b n → (a ≡ b) × (m ≡ n)
IsGen-same text a b m n g h =
    let rest = g.seed_word ++ space ++ g.processes_word in
    IsGen-read text rest a b m n g.is_text (IsGen-numbers text rest a m g.is_text g) h

-- no other line begins so
pub no_gen_line : (text : List ℕ) (l : Line) (seed processes : ℕ) → IsGen text seed processes → ¬ IsLine text l
no_gen_line text l seed processes g h =
    let words = codes "gen " ++ g.seed_word ++ space ++ g.processes_word in
    let said : IsLine words l = subst (λ (t : List ℕ). IsLine t l) g.is_text h in
    let asks : IsLineOf AtQuestion words l = IsLine-kind words l said in
    apart words (codes "groups") 1 refl (IsQuestion-kind words asks.0 asks.2).1
