-- The words were accepted as they were given.
use Rattle.std.proofs.Common.{◌≡◌, ◌⊎◌, ◌∙◌, ℕ, List, [], IfOk, ap, subst}
use Rattle.arn_words.specs.Words.{AreAcceptedTexts, texts}
use Rattle.arn_session.specs.declared.status.Status.TheVariants as status
use Rattle.session_trials.proofs.sessions.run_with.Goals as goal

pub returns-clause-usage : goal.returns-clause-usage
returns-clause-usage g c =
    let P : List (List ℕ) → Type 0 = λ words. IfOk c.run_over.result (λ ended. ended.status ≡ status.Usage → ¬ AreAcceptedTexts words) in
    subst P (ap texts c.as_slice.ensures.value ∙ c.in_ok-words.ensures) c.run_over.ensures.usage

pub returns-clause-unaccepted : goal.returns-clause-unaccepted
returns-clause-unaccepted g c =
    let P : List (List ℕ) → Type 0 = λ words. IfOk c.run_over.result (λ ended. ¬ AreAcceptedTexts words → (ended.status ≡ status.Usage) ⊎ (ended.status ≡ status.NoMemory)) in
    subst P (ap texts c.as_slice.ensures.value ∙ c.in_ok-words.ensures) c.run_over.ensures.unaccepted

pub returns-clause-silent : goal.returns-clause-silent
returns-clause-silent g c =
    let P : List (List ℕ) → Type 0 = λ words. IfOk c.run_over.result (λ ended. ¬ AreAcceptedTexts words → ended.sink.held ≡ []) in
    subst P (ap texts c.as_slice.ensures.value ∙ c.in_ok-words.ensures) c.run_over.ensures.silent
