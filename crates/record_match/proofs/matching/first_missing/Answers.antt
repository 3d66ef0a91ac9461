use Rattle.std.proofs.Common.{sym, ◌∙◌}
use Rattle.record_match.proofs.Compared.{slice_get-some}
use Rattle.record_match.proofs.matching.first_missing.Goals as goal

pub difference_at-requires-clause-differ : goal.difference_at-requires-clause-differ
difference_at-requires-clause-differ c same =
    slice_get-some c.args.entries.now c.args.matched c.requires.more (sym c.record_at.ensures.there ∙ same)
