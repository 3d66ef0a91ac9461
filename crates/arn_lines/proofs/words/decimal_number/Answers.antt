use Rattle.std.specs.Str.Parse.{ParsesUnsigned}
use Rattle.arn_lines.specs.Pieces.{IsUnpadded}
use Rattle.arn_lines.proofs.Decimals.{IsUnpadded-decimal, parsed_decimal, unparsed_decimal, unreadable_decimal}
use Rattle.arn_lines.proofs.Options.{ok_at_none, ok_at_some}
use Rattle.arn_lines.proofs.words.decimal_number.Goals as goal
use Rattle.arn_lines.proofs.words.decimal_number.Goals.{After-ok-2}

pub returns-then-not-is_unpadded-clause-none : goal.returns-then-not-is_unpadded-clause-none
returns-then-not-is_unpadded-clause-none c n small e =
    cc (c.if-not-is_unpadded.true, c.is_unpadded.ensures.1 (rw e (IsUnpadded-decimal n small)))

pub returns-in_err-ok-clause-none : goal.returns-in_err-ok-clause-none
returns-in_err-ok-clause-none c =
    rw c.from_residual.ensures
    (unreadable_decimal c.args.text.now (ok_at_none c.from_utf8.result _ _ c.from_utf8.ensures.cases c.in_err-ok.ensures.value (λ e h. h.0)))

parsed : (c : After-ok-2) → ParsesUnsigned 64 10 c.args.text.now c.parse.result
parsed c =
    let text = ok_at_some c.from_utf8.result _ _ _ c.from_utf8.ensures.cases c.in_ok-ok.ensures.value in
    rw text.0 at c.parse.ensures.value.0

pub returns-clause-some : goal.returns-clause-some
returns-clause-some c =
    let unpadded : IsUnpadded c.args.text.now = c.is_unpadded.ensures.0 c.if-not-is_unpadded.false in
    rw c.ok-2.ensures.value (parsed_decimal c.args.text.now c.parse.result unpadded (parsed c))

pub returns-clause-none : goal.returns-clause-none
returns-clause-none c =
    let unpadded : IsUnpadded c.args.text.now = c.is_unpadded.ensures.0 c.if-not-is_unpadded.false in
    rw c.ok-2.ensures.value (unparsed_decimal c.args.text.now c.parse.result unpadded (parsed c))
