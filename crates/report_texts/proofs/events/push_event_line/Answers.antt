-- The pieces are joined from the right.
use Rattle.std.proofs.Common.{◌≡◌, ◌++◌, List, ℕ, append_assoc, codes, decimal, subst}
use Rattle.std.specs.Prelude.{OnOk}
use Rattle.std.specs.String.{string_bytes}
use Rattle.arn_lines.specs.Printed.{piece_text}
use Rattle.arn_lines.specs.Texts.{line_end}
use Rattle.report_texts.specs.Events.{event_line}
use Rattle.report_texts.proofs.events.push_event_line.Goals as goal

pub returns-clause-ok : goal.returns-clause-ok
returns-clause-ok c =
    let a = c.args in
    let behind = codes " " ++ (c.as_str.result.now ++ (codes " " ++ (decimal a.len ++ line_end))) in
    let joined : codes "event " ++ (decimal a.event ++ (codes " " ++ (decimal a.moment ++ (codes " " ++ (piece_text c.number-process.result ++ behind))))) ≡ event_line a.event a.moment a.entry.now a.len =
    rw (c.number-process.ensures.text, c.process.ensures, c.as_str.ensures.value, c.in_ok-what.ensures.text) (simp append_assoc) in
    subst (λ (line : List ℕ). OnOk c.push_line.result (string_bytes c.push_line.new.text ≡ string_bytes a.text.now ++ line)) joined c.push_line.ensures.ok
