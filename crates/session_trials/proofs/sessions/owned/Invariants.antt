use Rattle.std.proofs.Common.{◌≡◌, map, take}
use Rattle.arn_words.specs.Words.{texts}
use Rattle.session_trials.proofs.sessions.owned.Given as goal

abbrev pub invariant-loop-word : goal.invariant-loop-word
invariant-loop-word l = texts l.made.items ≡ map (λ word. word.now) (take l.word-index l.words)
