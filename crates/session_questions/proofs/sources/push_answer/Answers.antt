use Rattle.std.proofs.Common.{◌≡◌, ◌∙◌, ◌++◌, List, ap, codes, flat_map, string_bytes}
use Rattle.std.proofs.lemmas.Result.{IfOk-weaker}
use Rattle.arn_base.specs.declared.records.Pair.{Pair}
use Rattle.arn_lines.specs.Texts.{pair_text}
use Rattle.session_questions.proofs.Printed.{answer-printed}
use Rattle.session_questions.proofs.sources.push_answer.Goals as goal

pub returns : goal.returns
returns c =
    let answer = c.args.answer.now in
    let first : string_bytes c.push_pairs.new.text ≡ string_bytes c.args.text.now ++ flat_map pair_text answer.pairs =
    c.in_ok-push_pairs.ensures ∙ ap (λ (pairs : List Pair). string_bytes c.args.text.now ++ flat_map pair_text pairs) c.as_slice.ensures in
    IfOk-weaker c.push_back.result _ _
    (λ _ second. answer-printed (codes "back") _ _ _ answer.pairs c.len.result answer.instructions c.into.result answer.groups _ first second c.len.ensures c.into.ensures c.as_slice-2.ensures)
    c.push_back.ensures.ok
