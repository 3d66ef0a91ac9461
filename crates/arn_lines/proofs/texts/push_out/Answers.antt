use Rattle.std.proofs.Common.{◌≡◌, ◌∷◌, ◌++◌, List, ℕ, ap, codes, decimal, sym, subst, OnOk, string_bytes}
use Rattle.arn_lines.specs.Texts.{bytes_text, line_end, out_text}
use Rattle.arn_lines.proofs.Joined.{three-joined}
use Rattle.arn_lines.proofs.texts.push_out.Goals as goal

pub returns-clause-ok : goal.returns-clause-ok
returns-clause-ok c =
    let a = c.args in
    let bytes = bytes_text a.bytes.now in
    let joined : codes "out " ++ (decimal a.event ++ (32 ∷ (decimal c.from.result ++ (32 ∷ (bytes ++ line_end))))) ≡ out_text a.event a.pid a.bytes.now =
    rw c.from.ensures (ap (λ behind. codes "out " ++ behind) (sym (three-joined (decimal a.event) (decimal a.pid) bytes line_end))) in
    subst (λ (line : List ℕ). OnOk c.push_line.result (string_bytes c.push_line.new.text ≡ string_bytes a.text.now ++ line)) joined c.push_line.ensures.ok
