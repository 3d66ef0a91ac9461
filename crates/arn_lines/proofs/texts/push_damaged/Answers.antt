use Rattle.std.proofs.Common.{◌≡◌, ◌∷◌, ◌++◌, List, ℕ, ap, codes, decimal, sym, subst, OnOk, string_bytes}
use Rattle.arn_lines.specs.Texts.{damaged_text, line_end}
use Rattle.arn_lines.proofs.Joined.{three-joined}
use Rattle.arn_lines.proofs.texts.push_damaged.Goals as goal

pub returns-clause-ok : goal.returns-clause-ok
returns-clause-ok c =
    let a = c.args in
    let joined : codes "damaged " ++ (decimal a.event ++ (32 ∷ (decimal a.said ++ (32 ∷ (decimal a.found ++ line_end))))) ≡ damaged_text a.event a.said a.found =
    ap (λ behind. codes "damaged " ++ behind) (sym (three-joined (decimal a.event) (decimal a.said) (decimal a.found) line_end)) in
    subst (λ (line : List ℕ). OnOk c.push_line.result (string_bytes c.push_line.new.text ≡ string_bytes a.text.now ++ line)) joined c.push_line.ensures.ok
