use Rattle.std.proofs.Common.{◌+◌, ◌≤◌, List, Option, Some, IfOk, ap, sym, subst, ◌∙◌}
use Rattle.parts_model.specs.declared.tagged.TaggedByte.{TaggedByte}
use Rattle.query_engine.specs.Asked.{in_file, ran_for_bytes}
use Rattle.query_engine.specs.Names.{AnswersBytes}
use Rattle.query_engine.proofs.Concluded.{fails-bytes, runs-no-bytes}
use Rattle.query_engine.proofs.Named.{named-is}
use Rattle.query_engine.proofs.engine.Engine.name_back.Goals as goal

pub written_back-requires-clause-written : goal.written_back-requires-clause-written
written_back-requires-clause-written g c =
    let a = c.args in
    let n = in_file a.moment a.name.now a.from a.len in
    c.laws_of_names.ensures.written a.entries.now n c.in-Some.bytes.now
    (named-is a.entries.now n c.as_slice.result.now (Some c.in-Some.bytes.now) (c.in_ok-held.ensures.ok ∙ ap Some (sym c.as_slice.ensures.value)) c.in-Some.ensures.some)

pub returns-clause-ok : goal.returns-clause-ok
returns-clause-ok g c =
    subst (λ (o : Option (List TaggedByte)). IfOk c.written_back.result (AnswersBytes c.args.linkage c.args.entries.now c.args.moment o))
    (sym (named-is c.args.entries.now (in_file c.args.moment c.args.name.now c.args.from c.args.len) c.as_slice.result.now (Some c.in-Some.bytes.now)
    (c.in_ok-held.ensures.ok ∙ ap Some (sym c.as_slice.ensures.value)) c.in-Some.ensures.some))
    c.written_back.ensures.ok

pub returns-clause-err : goal.returns-clause-err
returns-clause-err g c =
    fails-bytes c.args.entries.now c.args.moment c.in-Some.bytes.now _
    (sym (named-is c.args.entries.now (in_file c.args.moment c.args.name.now c.args.from c.args.len) c.as_slice.result.now (Some c.in-Some.bytes.now)
    (c.in_ok-held.ensures.ok ∙ ap Some (sym c.as_slice.ensures.value)) c.in-Some.ensures.some))
    c.written_back.result c.written_back.ensures.err

pub returns-clause-unasked : goal.returns-clause-unasked
returns-clause-unasked g c = runs-no-bytes c.args.entries.now c.args.moment c.in-Some.bytes.now c.args.steps.now c.written_back.new.steps c.written_back.result c.written_back.ensures.err

pub returns-clause-bounded : goal.returns-clause-bounded
returns-clause-bounded g c =
    subst (λ (o : Option (List TaggedByte)). c.written_back.new.steps ≤ c.args.steps.now + ran_for_bytes c.args.entries.now c.args.moment o)
    (sym (named-is c.args.entries.now (in_file c.args.moment c.args.name.now c.args.from c.args.len) c.as_slice.result.now (Some c.in-Some.bytes.now)
    (c.in_ok-held.ensures.ok ∙ ap Some (sym c.as_slice.ensures.value)) c.in-Some.ensures.some))
    c.written_back.ensures.bounded
