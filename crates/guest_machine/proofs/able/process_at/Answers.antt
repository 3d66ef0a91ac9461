use Rattle.std.proofs.Common.{◌∙◌, ℕ, List, slice_get, ap}
use Rattle.arn_model.specs.Turn.{runnable}
use Rattle.guest_machine.specs.declared.able.TheConstants.{MOST_KEPT}
use Rattle.guest_machine.proofs.AbleLemmas.{first-get}
use Rattle.guest_machine.proofs.able.process_at.Goals as goal

pub returns-then-place-lt-MOST_KEPT : goal.returns-then-place-lt-MOST_KEPT
returns-then-place-lt-MOST_KEPT c m stands =
    c.number_at.ensures
    ∙ ap (λ (xs : List ℕ). slice_get xs c.args.place) (c.as_slice.ensures.value ∙ (c.requires.able m stands).kept)
    ∙ first-get MOST_KEPT (runnable m) c.args.place c.if-place-lt-MOST_KEPT.true
