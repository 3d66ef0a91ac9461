use Rattle.std.proofs.Common.{◌≡◌, ℕ, ◌+◌, ◌≤◌, List, ap, IfErr, IfOk, sym, subst, ◌∙◌}
use Rattle.followed_groups.specs.Parts.{ran_in}
use Rattle.query_engine.specs.Asked.{Answers, Fails, moment_asked, ran_about}
use Rattle.query_engine.specs.declared.engine.Answer.{Answer}
use Rattle.query_engine.specs.declared.engine.Target.{Target}
use Rattle.query_engine.specs.declared.engine.Target.TheVariants as target
use Rattle.query_engine.proofs.Concluded.{runs-nothing}
use Rattle.query_engine.proofs.engine.Engine.back.Goals as goal

pub returns-else-not-has_range-clause-ok : goal.returns-else-not-has_range-clause-ok
returns-else-not-has_range-clause-ok g c =
    subst (λ (t : Target). IfOk c.event_back.result (Answers c.args.linkage c.args.entries.now t)) (sym c.in-Event.is) c.event_back.ensures.ok

pub returns-else-not-has_range-clause-err : goal.returns-else-not-has_range-clause-err
returns-else-not-has_range-clause-err g c =
    subst (λ (t : Target). IfErr c.event_back.result (Fails c.args.entries.now t)) (sym c.in-Event.is) c.event_back.ensures.err

pub returns-else-not-has_range-clause-counted : goal.returns-else-not-has_range-clause-counted
returns-else-not-has_range-clause-counted g c =
    subst (λ (t : Target). IfOk c.event_back.result (λ (answer : Answer). c.event_back.new.steps ≡ c.args.steps.now + ran_in c.args.entries.now (moment_asked c.args.entries.now t) answer.replayed))
    (sym c.in-Event.is) c.event_back.ensures.counted

pub returns-else-not-has_range-clause-unasked : goal.returns-else-not-has_range-clause-unasked
returns-else-not-has_range-clause-unasked g c =
    runs-nothing c.args.entries.now c.in-Event.event c.in-Event.from c.in-Event.len (sym (c.has_range.ensures c.args.entries.now c.requires.indexed) ∙ c.if-not-has_range.false)
    c.args.steps.now c.event_back.new.steps c.event_back.result c.event_back.ensures.err

pub returns-else-not-has_range-clause-bounded : goal.returns-else-not-has_range-clause-bounded
returns-else-not-has_range-clause-bounded g c =
    subst (λ (t : Target). c.event_back.new.steps ≤ c.args.steps.now + ran_about c.args.entries.now t) (sym c.in-Event.is) c.event_back.ensures.bounded

pub returns-else-not-has_range-clause-first : goal.returns-else-not-has_range-clause-first
returns-else-not-has_range-clause-first g c = c.event_back.ensures.all

pub returns-else-not-has_range-clause-without : goal.returns-else-not-has_range-clause-without
returns-else-not-has_range-clause-without g c bare = c.event_back.ensures.all (c.have_room.ensures bare)

pub returns-else-not-has_range-clause-left : goal.returns-else-not-has_range-clause-left
returns-else-not-has_range-clause-left g c = c.event_back.ensures.left

pub returns-in-Mem-clause-ok : goal.returns-in-Mem-clause-ok
returns-in-Mem-clause-ok g c = subst (λ (t : Target). IfOk c.state_back.result (Answers c.args.linkage c.args.entries.now t)) (sym c.in-Mem.is) c.state_back.ensures.ok

pub returns-in-Mem-clause-err : goal.returns-in-Mem-clause-err
returns-in-Mem-clause-err g c = subst (λ (t : Target). IfErr c.state_back.result (Fails c.args.entries.now t)) (sym c.in-Mem.is) c.state_back.ensures.err

pub returns-in-Mem-clause-counted : goal.returns-in-Mem-clause-counted
returns-in-Mem-clause-counted g c = subst (λ (t : Target). IfOk c.state_back.result (λ (answer : Answer). c.state_back.new.steps ≡ c.args.steps.now + ran_in c.args.entries.now (moment_asked c.args.entries.now t) answer.replayed)) (sym c.in-Mem.is) c.state_back.ensures.counted

pub returns-in-Mem-clause-unasked : goal.returns-in-Mem-clause-unasked
returns-in-Mem-clause-unasked g c = c.state_back.ensures.unasked

pub returns-in-Mem-clause-bounded : goal.returns-in-Mem-clause-bounded
returns-in-Mem-clause-bounded g c = subst (λ (t : Target). c.state_back.new.steps ≤ c.args.steps.now + ran_about c.args.entries.now t) (sym c.in-Mem.is) c.state_back.ensures.bounded

pub returns-in-Mem-clause-first : goal.returns-in-Mem-clause-first
returns-in-Mem-clause-first g c = c.state_back.ensures.all

pub returns-in-Mem-clause-without : goal.returns-in-Mem-clause-without
returns-in-Mem-clause-without g c bare = c.state_back.ensures.all (c.have_room.ensures bare)

pub returns-in-Mem-clause-left : goal.returns-in-Mem-clause-left
returns-in-Mem-clause-left g c = c.state_back.ensures.left

pub returns-in-Reg-clause-ok : goal.returns-in-Reg-clause-ok
returns-in-Reg-clause-ok g c = subst (λ (t : Target). IfOk c.state_back-in-Reg.result (Answers c.args.linkage c.args.entries.now t)) (sym c.in-Reg.is) c.state_back-in-Reg.ensures.ok

pub returns-in-Reg-clause-err : goal.returns-in-Reg-clause-err
returns-in-Reg-clause-err g c = subst (λ (t : Target). IfErr c.state_back-in-Reg.result (Fails c.args.entries.now t)) (sym c.in-Reg.is) c.state_back-in-Reg.ensures.err

pub returns-in-Reg-clause-counted : goal.returns-in-Reg-clause-counted
returns-in-Reg-clause-counted g c = subst (λ (t : Target). IfOk c.state_back-in-Reg.result (λ (answer : Answer). c.state_back-in-Reg.new.steps ≡ c.args.steps.now + ran_in c.args.entries.now (moment_asked c.args.entries.now t) answer.replayed)) (sym c.in-Reg.is) c.state_back-in-Reg.ensures.counted

pub returns-in-Reg-clause-unasked : goal.returns-in-Reg-clause-unasked
returns-in-Reg-clause-unasked g c = c.state_back-in-Reg.ensures.unasked

pub returns-in-Reg-clause-bounded : goal.returns-in-Reg-clause-bounded
returns-in-Reg-clause-bounded g c = subst (λ (t : Target). c.state_back-in-Reg.new.steps ≤ c.args.steps.now + ran_about c.args.entries.now t) (sym c.in-Reg.is) c.state_back-in-Reg.ensures.bounded

pub returns-in-Reg-clause-first : goal.returns-in-Reg-clause-first
returns-in-Reg-clause-first g c = c.state_back-in-Reg.ensures.all

pub returns-in-Reg-clause-without : goal.returns-in-Reg-clause-without
returns-in-Reg-clause-without g c bare = c.state_back-in-Reg.ensures.all (c.have_room.ensures bare)

pub returns-in-Reg-clause-left : goal.returns-in-Reg-clause-left
returns-in-Reg-clause-left g c = c.state_back-in-Reg.ensures.left

pub returns-in-Name-clause-ok : goal.returns-in-Name-clause-ok
returns-in-Name-clause-ok g c = subst (λ (t : Target). IfOk c.name_back.result (Answers c.args.linkage c.args.entries.now t)) (sym (c.in-Name.is ∙ ap (λ (name : List ℕ). target.Name c.in-Name.moment name c.in-Name.from c.in-Name.len) (sym c.as_slice.ensures))) c.name_back.ensures.ok

pub returns-in-Name-clause-err : goal.returns-in-Name-clause-err
returns-in-Name-clause-err g c = subst (λ (t : Target). IfErr c.name_back.result (Fails c.args.entries.now t)) (sym (c.in-Name.is ∙ ap (λ (name : List ℕ). target.Name c.in-Name.moment name c.in-Name.from c.in-Name.len) (sym c.as_slice.ensures))) c.name_back.ensures.err

pub returns-in-Name-clause-counted : goal.returns-in-Name-clause-counted
returns-in-Name-clause-counted g c = subst (λ (t : Target). IfOk c.name_back.result (λ (answer : Answer). c.name_back.new.steps ≡ c.args.steps.now + ran_in c.args.entries.now (moment_asked c.args.entries.now t) answer.replayed)) (sym (c.in-Name.is ∙ ap (λ (name : List ℕ). target.Name c.in-Name.moment name c.in-Name.from c.in-Name.len) (sym c.as_slice.ensures))) c.name_back.ensures.counted

pub returns-in-Name-clause-unasked : goal.returns-in-Name-clause-unasked
returns-in-Name-clause-unasked g c = c.name_back.ensures.unasked

pub returns-in-Name-clause-bounded : goal.returns-in-Name-clause-bounded
returns-in-Name-clause-bounded g c = subst (λ (t : Target). c.name_back.new.steps ≤ c.args.steps.now + ran_about c.args.entries.now t) (sym (c.in-Name.is ∙ ap (λ (name : List ℕ). target.Name c.in-Name.moment name c.in-Name.from c.in-Name.len) (sym c.as_slice.ensures))) c.name_back.ensures.bounded

pub returns-in-Name-clause-first : goal.returns-in-Name-clause-first
returns-in-Name-clause-first g c = c.name_back.ensures.all

pub returns-in-Name-clause-without : goal.returns-in-Name-clause-without
returns-in-Name-clause-without g c bare = c.name_back.ensures.all (c.have_room.ensures bare)

pub returns-in-Name-clause-left : goal.returns-in-Name-clause-left
returns-in-Name-clause-left g c = c.name_back.ensures.left
