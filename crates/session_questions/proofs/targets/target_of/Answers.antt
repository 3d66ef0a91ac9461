use Rattle.std.proofs.Common.{◌≡◌, ◌∙◌, ◌≤◌, ◌^◌, ℕ, List, Option, Result, Ok, Err, IfOk, IfSome, ap, subst}
use Rattle.std.specs.Prelude.{IfNone}
use Rattle.arn_lines.specs.declared.line.Sought.{Sought}
use Rattle.query_engine.specs.Asked.{in_file}
use Rattle.query_engine.specs.declared.engine.Target.{Target}
use Rattle.query_engine.specs.declared.engine.Target.TheVariants as target
use Rattle.rv64_model.specs.Carries.{operands}
use Rattle.session_questions.specs.Texts.{back_telling, named_telling, target_telling}
use Rattle.session_questions.proofs.Sought.{event-told, memory-told, name-told, register-told}
use Rattle.session_questions.proofs.targets.target_of.Goals as goal

pub returns-in-Event : goal.returns-in-Event
returns-in-Event c = λ linkage.
    let entries = c.args.entries.now in
    let found = c.event_target in
    ap (λ (s : Sought). back_telling entries linkage s) c.in-Event.is
    ∙ event-told linkage entries c.in-Event.event c.in-Event.from c.in-Event.len found.result found.ensures.some found.ensures.none

pub returns-in-Memory : goal.returns-in-Memory
returns-in-Memory c = λ linkage.
    let entries = c.args.entries.now in
    let found = c.memory_target in
    ap (λ (s : Sought). back_telling entries linkage s) c.in-Memory.is
    ∙ memory-told linkage entries c.args._index.now c.far_is_nowhere.ensures c.requires.countable c.requires.known c.in-Memory.moment c.in-Memory.pid c.in-Memory.at c.in-Memory.len found.result found.ensures.some found.ensures.none

pub returns-in-Register : goal.returns-in-Register
returns-in-Register c = λ linkage.
    let entries = c.args.entries.now in
    let found = c.register_target in
    ap (λ (s : Sought). back_telling entries linkage s) c.in-Register.is
    ∙ register-told linkage entries c.args._index.now c.far_is_nowhere.ensures c.requires.countable c.requires.known c.in-Register.moment c.in-Register.pid c.in-Register.register found.result found.ensures.some found.ensures.none

-- what holds of a target that was made
made : {E : Type 0} (r : Result (Option Target) E) (P Q : Option Target → Type 0) (R : Option Target → Type 0) → ((o : Option Target) → P o → Q o → R o) → IfOk r P → IfOk r Q → IfOk r R
made (Ok o) P Q R f p q = f o p q
made (Err e) P Q R f p q = tt

pub returns-in-Name : goal.returns-in-Name
returns-in-Name c =
    let entries = c.args.entries.now in
    let n = c.in-Name in
    made c.name_target.result (λ o. IfSome o (λ t. t ≡ target.Name n.moment c.as_slice.result.now n.from n.len)) (λ o. IfNone o (2 ^ 32 ≤ n.len)) _
    (λ o some none linkage.
    ap (λ (s : Sought). back_telling entries linkage s) n.is
    ∙ subst (λ (name : List ℕ). named_telling (operands linkage) entries (in_file n.moment name n.from n.len) ≡ target_telling linkage entries o) c.as_slice.ensures
    (name-told linkage entries n.moment c.as_slice.result.now n.from n.len o some none))
    c.name_target.ensures.some c.name_target.ensures.none
