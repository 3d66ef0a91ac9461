use Rattle.arn_session.proofs.ResultLemmas.{err-told, ok-untold}
use Rattle.arn_words.specs.Words.{AreAccepted}
use Rattle.arn_words.specs.declared.options.WordsError.TheVariants as error
use Rattle.arn_session.proofs.session.words_error.Goals as goal

pub returns-clause-none : goal.returns-clause-none
returns-clause-none c = ok-untold c.read_words.result (AreAccepted c.args.words.now) c.err.result c.err.ensures.value c.read_words.ensures.accepted

pub returns-clause-usage : goal.returns-clause-usage
returns-clause-usage c = λ told. c.read_words.ensures.usage (err-told c.read_words.result c.err.result error.Usage c.err.ensures.value told)
