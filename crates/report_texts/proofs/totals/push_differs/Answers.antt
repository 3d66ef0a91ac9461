-- The pieces are joined from the right.
use Rattle.std.proofs.Common.{◌≡◌, ◌++◌, List, ℕ, Some, append_assoc, codes, decimal, subst}
use Rattle.std.specs.Prelude.{OnOk}
use Rattle.std.specs.String.{string_bytes}
use Rattle.arn_lines.specs.Printed.{piece_text}
use Rattle.arn_lines.specs.Texts.{line_end}
use Rattle.report_texts.specs.Totals.{verify_line}
use Rattle.report_texts.proofs.totals.push_differs.Goals as goal

pub returns-clause-ok : goal.returns-clause-ok
returns-clause-ok c =
    let d = c.args.differs.now in
    let behind = codes " " ++ (piece_text c.byte-said.result ++ (codes " " ++ (piece_text c.byte-found.result ++ line_end))) in
    let joined : codes "verify differs " ++ (decimal d.place ++ (codes " " ++ (decimal d.at ++ behind))) ≡ verify_line (Some d) =
    rw (c.byte-said.ensures.text, c.byte-found.ensures.text) (simp append_assoc) in
    subst (λ (line : List ℕ). OnOk c.push_line.result (string_bytes c.push_line.new.text ≡ string_bytes c.args.text.now ++ line)) joined c.push_line.ensures.ok
