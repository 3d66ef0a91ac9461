-- `strip_prefix` says of the prefix what `≡` does, since `==` on bytes decides `≡`.
use Rattle.std.proofs.lemmas.Bool.Decides.{Decides-eqb}
use Rattle.std.proofs.lemmas.Slice.Eq.{strip_prefix_is}
use Rattle.arn_lines.proofs.Options.{IfNone-from_match, IfSome-from_match}
use Rattle.arn_lines.proofs.words.after.Goals as goal

pub returns-clause-some : goal.returns-clause-some
returns-clause-some c =
    IfSome-from_match c.strip_prefix.result _ _
    (strip_prefix_is Decides-eqb c.args.text.now c.args.start.now c.strip_prefix.result c.strip_prefix.ensures.cases)

pub returns-clause-none : goal.returns-clause-none
returns-clause-none c =
    IfNone-from_match c.strip_prefix.result _ _
    (strip_prefix_is Decides-eqb c.args.text.now c.args.start.now c.strip_prefix.result c.strip_prefix.ensures.cases)
