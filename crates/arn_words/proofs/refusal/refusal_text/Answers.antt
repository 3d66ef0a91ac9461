use Rattle.arn_words.specs.Words.{texts}
use Rattle.arn_words.proofs.ProgramLemmas.{none_faulty}
use Rattle.arn_words.proofs.refusal.refusal_text.Goals as goal

pub returns-in-Ok-clause-none : goal.returns-in-Ok-clause-none
returns-in-Ok-clause-none c =
    none_faulty c.in_ok-command.command c.in_ok-command.ensures (texts c.args.words.now) c.in-Ok.ensures.kinds
