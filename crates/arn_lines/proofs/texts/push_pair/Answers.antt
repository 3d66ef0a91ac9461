use Rattle.std.proofs.Common.{◌≡◌, ◌∷◌, ◌++◌, List, ℕ, ap, codes, decimal, sym, subst, OnOk, string_bytes}
use Rattle.arn_lines.specs.Texts.{line_end, pair_text}
use Rattle.arn_lines.proofs.Joined.{three-joined}
use Rattle.arn_lines.proofs.texts.push_pair.Goals as goal

pub returns-clause-ok : goal.returns-clause-ok
returns-clause-ok c =
    let p = c.args.pair.now in
    let joined : codes "pair " ++ (decimal p.event ++ (32 ∷ (decimal c.from.result ++ (32 ∷ (decimal c.from-2.result ++ line_end))))) ≡ pair_text p =
    rw (c.from.ensures, c.from-2.ensures) (ap (λ behind. codes "pair " ++ behind) (sym (three-joined (decimal p.event) (decimal p.at) (decimal p.byte) line_end))) in
    subst (λ (line : List ℕ). OnOk c.push_line.result (string_bytes c.push_line.new.text ≡ string_bytes c.args.text.now ++ line)) joined c.push_line.ensures.ok
