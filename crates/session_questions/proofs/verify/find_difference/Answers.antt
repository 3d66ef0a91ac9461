use Rattle.session_questions.proofs.Compared.{made-differs, made-none}
use Rattle.session_questions.proofs.verify.find_difference.Goals as goal

pub returns-in-None-clause-found : goal.returns-in-None-clause-found
returns-in-None-clause-found g c =
    made-none c.records_compare.ensures c.args.entries.now c.rebuild.result c.in-None.ensures.value c.rebuild.ensures.is_run

pub returns-in-Some-Differs-clause-found : goal.returns-in-Some-Differs-clause-found
returns-in-Some-Differs-clause-found g c =
    made-differs c.records_compare.ensures c.args.entries.now c.rebuild.result c.in-Some-Differs.differs (rw c.in-Some-Differs.field-0-is at c.in-Some-Differs.ensures.value) c.rebuild.ensures.differs
