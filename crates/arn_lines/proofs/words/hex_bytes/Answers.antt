use Rattle.std.proofs.Common.{inl, inr, rules, subst, sym}
use Rattle.arn_lines.specs.Words.{IsHex}
use Rattle.arn_lines.proofs.HexBytes.{IsHex-decode_of, decode_of-IsHex}
use Rattle.arn_lines.proofs.words.hex_bytes.Goals as goal

pub returns-in-Ok-clause-some : goal.returns-in-Ok-clause-some
returns-in-Ok-clause-some c = subst (IsHex c.args.text.now) (sym c.from.ensures) (IsHex-decode_of c.args.text.now c.in-Ok.bytes.items c.in-Ok.ensures.ok)

pub returns-in-Err-2-clause-none : goal.returns-in-Err-2-clause-none
returns-in-Err-2-clause-none c = λ bytes h.
    elim c.in-Err.ensures.err [
      | inl full ↦ search rules
      | inr refused ↦ cc (refused, decode_of-IsHex c.args.text.now bytes h)
    ]
