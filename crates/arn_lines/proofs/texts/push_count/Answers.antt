use Rattle.std.proofs.Common.{◌≡◌, ◌++◌, List, ℕ, codes, decimal, sym, subst, OnOk, string_bytes}
use Rattle.arn_lines.specs.Texts.{groups_text, line_end}
use Rattle.arn_lines.proofs.Joined.{all-joined}
use Rattle.arn_lines.proofs.texts.push_count.Goals as goal

pub returns-clause-ok : goal.returns-clause-ok
returns-clause-ok c =
    let a = c.args in
    let joined =
    all-joined a.word.now (codes " pairs ") (decimal a.pairs) (codes " instructions ") (decimal a.instructions) (codes " groups") (groups_text a.groups.now) line_end in
    subst (λ (line : List ℕ). OnOk c.push_line.result (string_bytes c.push_line.new.text ≡ string_bytes a.text.now ++ line)) (sym joined) c.push_line.ensures.ok
