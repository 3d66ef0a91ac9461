-- What is told of the bytes that others reach is what is answered of them.
use Rattle.std.proofs.Common.{◌≡◌, ◌≤◌, ◌+◌, ◌++◌, ◌∙◌, OnOk, arith, string_bytes, subst}
use Rattle.std.proofs.lemmas.Result.{on_ok_weaker}
use Rattle.rv64_model.specs.Carries.{operands}
use Rattle.session_questions.specs.Texts.{forth_telling}
use Rattle.session_questions.proofs.Sought.{forth-cost, forth-put}
use Rattle.session_questions.proofs.asking.Asking.sinks.Goals as goal

pub returns-in-Ok-forth-clause-text : goal.returns-in-Ok-forth-clause-text
returns-in-Ok-forth-clause-text g c =
    let entries = c.args.entries.now in
    let linkage = c.args.linkage in
    let event = c.args.bytes.event in
    let old = string_bytes c.args.text.now in
    let new = string_bytes c.push_reached-pushed.new.text in
    subst (λ from. OnOk c.push_reached-pushed.result (new ≡ old ++ (forth_telling (operands linkage) entries event from c.args.bytes.len).text)) c.in-Ok.ensures.1
    (subst (λ len. OnOk c.push_reached-pushed.result (new ≡ old ++ (forth_telling (operands linkage) entries event c.in-Ok.from len).text)) c.in-Ok-try_from.ensures.1
    (on_ok_weaker c.push_reached-pushed.result
    (forth-put linkage entries event c.in-Ok.from c.in-Ok-try_from.len c.in-Ok-forth.answer old new c.in-Ok-forth.ensures.ok)
    c.push_reached-pushed.ensures))

pub returns-in-Ok-forth-clause-steps : goal.returns-in-Ok-forth-clause-steps
returns-in-Ok-forth-clause-steps g c =
    let entries = c.args.entries.now in
    let linkage = c.args.linkage in
    let event = c.args.bytes.event in
    subst (λ from. c.forth.new.steps ≤ c.args.steps.now + (forth_telling (operands linkage) entries event from c.args.bytes.len).cost) c.in-Ok.ensures.1
    (subst (λ len. c.forth.new.steps ≤ c.args.steps.now + (forth_telling (operands linkage) entries event c.in-Ok.from len).cost) c.in-Ok-try_from.ensures.1
    (forth-cost linkage entries event c.in-Ok.from c.in-Ok-try_from.len c.in-Ok-forth.answer c.args.steps.now c.forth.new.steps c.in-Ok-forth.ensures.ok c.forth.ensures.bounded))

pub returns-in_default-clause-known : goal.returns-in_default-clause-known
returns-in_default-clause-known g c = c.requires.known

pub returns-in_default-try_from-clause-known : goal.returns-in_default-try_from-clause-known
returns-in_default-try_from-clause-known g c = c.requires.known

pub returns-in_default-clause-steps : goal.returns-in_default-clause-steps
returns-in_default-clause-steps g c = omega arith

pub returns-in_default-try_from-clause-steps : goal.returns-in_default-try_from-clause-steps
returns-in_default-try_from-clause-steps g c = omega arith

pub returns-in-Ok-forth-clause-known : goal.returns-in-Ok-forth-clause-known
returns-in-Ok-forth-clause-known g c = record { indexed = c.requires.known.indexed; seen = c.forth.ensures.seen; keeps = c.forth.ensures.keep ∙ c.requires.known.keeps }

pub returns-in-Err-clause-known : goal.returns-in-Err-clause-known
returns-in-Err-clause-known g c = record { indexed = c.requires.known.indexed; seen = c.forth.ensures.seen; keeps = c.forth.ensures.keep ∙ c.requires.known.keeps }

pub forth-requires-clause-countable : goal.forth-requires-clause-countable
forth-requires-clause-countable g c = c.requires.countable

pub forth-requires-clause-indexed : goal.forth-requires-clause-indexed
forth-requires-clause-indexed g c = c.requires.known.indexed

pub forth-requires-clause-seen : goal.forth-requires-clause-seen
forth-requires-clause-seen g c = c.requires.known.seen
