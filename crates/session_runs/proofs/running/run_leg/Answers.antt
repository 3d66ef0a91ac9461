use Rattle.std.proofs.Common.{◌≡◌, ◌<◌, ◌^◌, ◌++◌, ◌∙◌, ℕ, List, [], ◌∷◌, length, map, inl, arith, refl, sym, ap, subst, append-nil}
use Rattle.std.proofs.lemmas.Bool.{eqb-false, eqb-true}
use Rattle.std.proofs.lemmas.Result.{IfOk-from_err}
use Rattle.arn_base.specs.declared.records.Record.{Record}
use Rattle.log_model.specs.Records.{IsRun, named}
use Rattle.guest_legs.specs.Legs.{fresh, going_by, input_of, unanswered}
use Rattle.session_effects.specs.Carrying.{CarriesOut, StopsBetween}
use Rattle.session_effects.specs.Effects.{Effect, Commits, committed}
use Rattle.session_effects.specs.Printing.{StopsPut}
use Rattle.session_effects.specs.Standing.{Carries}
use Rattle.session_effects.specs.declared.halt.Halt.TheVariants as halt
use Rattle.session_runs.specs.Outputs.{outputs_text}
use Rattle.session_runs.specs.Points.{around}
use Rattle.session_runs.specs.Ready.{IsReady, machine_of}
use Rattle.session_runs.specs.Runs.{leg_effects}
use Rattle.session_runs.specs.Touches.{answering}
use Rattle.session_runs.proofs.LegLemmas.{ready-recorded}
use Rattle.session_runs.proofs.LoopLemmas.{still-falls, still-goes}
use Rattle.session_runs.proofs.StopLemmas.{Stops-lost, Stops-memory, Stops-text, cut-executed}
use Rattle.session_runs.proofs.TakenLemmas.{Advances-taken, Carries-leg, Carries-none, Taken, ends-taken, err-same, leg-text, more-taken, room-for, taken}
use Rattle.session_runs.proofs.running.run_leg.Goals as goal

pub run_leg_from-requires : goal.run_leg_from-requires
run_leg_from-requires g c = record {
  room = room-for c.history_laws.ensures.room c.args.machine.now c.args.store.now.entries _ c.args.left c.requires.ready c.count_records.ensures (omega arith) (omega (arith, c.requires.few));
}

pub returns-in_err-leg-clause-stops : goal.returns-in_err-leg-clause-stops
returns-in_err-leg-clause-stops g c =
    let history = c.args.store.now.entries in
    let m = machine_of history in
    let cut = c.in_err-leg.ensures.cut m c.requires.ready.is_after.leads in
    let old = around (g.C.Chooser.choices c.args.outside.now.chooser.now) c.args.outside.now.answers.now c.args.outside.now.steps.now in
    let new = around (g.C.Chooser.choices c.run_leg_from.new.chooser) c.run_leg_from.new.answers c.run_leg_from.new.steps in
    err-same c.from_residual.result halt.NoMemory _ c.from_residual.ensures.1
    (λ budget.
    Stops-memory IsRun g.D.Disk (answering g.A.Answers.answers g.A.Plugs.unplugs g.A.Plugs.filled) c.halts_follow.ensures budget m c.args.left cut.slices (c.history_laws.ensures.legs (named history) c.args.left [] cut.slices cut.took.in_range) cut.took.open_before c.args.outside.now.disk.now history (g.K.Sink.holds c.args.outside.now.sink.now) old new (unanswered cut.lost) cut.is_open cut.picked cut.took.in_range cut.in_range cut.took.replied
    (cut-executed g.A.Answers.answers m c.args.left c.args.machine.now c.run_leg_from.new.self old.choices new.choices c.args.outside.now.answers.now c.run_leg_from.new.answers c.new-entries.result.items c.run_leg_from.new.out.items old.steps new.steps cut))

nothing : (xs : List Record) → length xs ≡ 0 → xs ≡ []
nothing [] none = refl
nothing (x ∷ xs) none = absurd (omega (arith, none))

there-are : (xs : List Record) → (length xs ≡ 0 → ⊥) → 0 < length xs
there-are [] some = absurd (some refl)
there-are (x ∷ xs) some = omega arith

-- a leg without records leaves the history as it is
pub returns-then-is_empty-clause-ready : goal.returns-then-is_empty-clause-ready
returns-then-is_empty-clause-ready g c =
    let history = c.args.store.now.entries in
    let m = machine_of history in
    let laws = c.history_laws.ensures in
    let leg = c.in_ok-leg.leg in
    let entries = c.run_leg_from.new.out.items in
    let is_leg = c.in_ok-leg.ensures.leg m c.requires.ready.is_after.leads in
    let old = around (g.C.Chooser.choices c.args.outside.now.chooser.now) c.args.outside.now.answers.now c.args.outside.now.steps.now in
    let new = around (g.C.Chooser.choices c.run_leg_from.new.chooser) c.run_leg_from.new.answers c.run_leg_from.new.steps in
    let t : Taken g.A.Answers.answers m c.args.left leg entries old new = taken g.A.Answers.answers laws.legs history c.args.left leg c.args.machine.now c.run_leg_from.new.self old.choices new.choices c.args.outside.now.answers.now c.run_leg_from.new.answers c.new-entries.result.items entries old.steps new.steps is_leg c.new-entries.ensures.items in
    let none : entries ≡ [] = nothing entries (sym c.run_leg_from.new.out.ok.0 ∙ eqb-true c.run_leg_from.new.out.len 0 (sym c.is_empty.ensures ∙ c.if-is_empty.true)) in
    let same : history ≡ history ++ entries = sym (ap (λ (x : List Record). history ++ x) none ∙ append-nil history) in
    subst (λ (x : List Record). IsReady c.run_leg_from.new.self x) (sym same) (ready-recorded laws.named laws.records laws.runs laws.are_run c.args.machine.now c.run_leg_from.new.self history (map input_of is_leg.slices) c.new-entries.result.items entries c.requires.ready is_leg.took.runs c.new-entries.ensures.items)

pub returns-then-is_empty-clause-advances : goal.returns-then-is_empty-clause-advances
returns-then-is_empty-clause-advances g c budget =
    let history = c.args.store.now.entries in
    let m = machine_of history in
    let laws = c.history_laws.ensures in
    let leg = c.in_ok-leg.leg in
    let entries = c.run_leg_from.new.out.items in
    let is_leg = c.in_ok-leg.ensures.leg m c.requires.ready.is_after.leads in
    let old = around (g.C.Chooser.choices c.args.outside.now.chooser.now) c.args.outside.now.answers.now c.args.outside.now.steps.now in
    let new = around (g.C.Chooser.choices c.run_leg_from.new.chooser) c.run_leg_from.new.answers c.run_leg_from.new.steps in
    let t : Taken g.A.Answers.answers m c.args.left leg entries old new = taken g.A.Answers.answers laws.legs history c.args.left leg c.args.machine.now c.run_leg_from.new.self old.choices new.choices c.args.outside.now.answers.now c.run_leg_from.new.answers c.new-entries.result.items entries old.steps new.steps is_leg c.new-entries.ensures.items in
    let none : entries ≡ [] = nothing entries (sym c.run_leg_from.new.out.ok.0 ∙ eqb-true c.run_leg_from.new.out.len 0 (sym c.is_empty.ensures ∙ c.if-is_empty.true)) in
    let same : history ≡ history ++ entries = sym (ap (λ (x : List Record). history ++ x) none ∙ append-nil history) in
    let holds = g.K.Sink.holds c.args.outside.now.sink.now in
    let carries : Carries IsRun g.D.Disk c.args.outside.now.disk.now c.args.outside.now.disk.now c.args.store.now c.args.store.now holds holds (leg_effects m.events entries) =
    subst (λ (x : List Record). Carries IsRun g.D.Disk c.args.outside.now.disk.now c.args.outside.now.disk.now c.args.store.now c.args.store.now holds holds (leg_effects m.events x)) (sym none)
    (Carries-none IsRun g.D.Disk c.effects_follow.ensures.follow c.args.outside.now.disk.now c.args.store.now holds c.requires.open) in
    Advances-taken (answering g.A.Answers.answers g.A.Plugs.unplugs g.A.Plugs.filled) laws.names laws.begin laws.append history history c.args.left leg entries old new t same budget _ carries

pub returns-then-is_empty-clause-end : goal.returns-then-is_empty-clause-end
returns-then-is_empty-clause-end g c =
    let history = c.args.store.now.entries in
    let m = machine_of history in
    let laws = c.history_laws.ensures in
    let leg = c.in_ok-leg.leg in
    let entries = c.run_leg_from.new.out.items in
    let is_leg = c.in_ok-leg.ensures.leg m c.requires.ready.is_after.leads in
    let old = around (g.C.Chooser.choices c.args.outside.now.chooser.now) c.args.outside.now.answers.now c.args.outside.now.steps.now in
    let new = around (g.C.Chooser.choices c.run_leg_from.new.chooser) c.run_leg_from.new.answers c.run_leg_from.new.steps in
    let t : Taken g.A.Answers.answers m c.args.left leg entries old new = taken g.A.Answers.answers laws.legs history c.args.left leg c.args.machine.now c.run_leg_from.new.self old.choices new.choices c.args.outside.now.answers.now c.run_leg_from.new.answers c.new-entries.result.items entries old.steps new.steps is_leg c.new-entries.ensures.items in
    let none : entries ≡ [] = nothing entries (sym c.run_leg_from.new.out.ok.0 ∙ eqb-true c.run_leg_from.new.out.len 0 (sym c.is_empty.ensures ∙ c.if-is_empty.true)) in
    let same : history ≡ history ++ entries = sym (ap (λ (x : List Record). history ++ x) none ∙ append-nil history) in
    ends-taken (answering g.A.Answers.answers g.A.Plugs.unplugs g.A.Plugs.filled) laws.names laws.begin laws.append history history c.args.left leg entries old new t same

pub returns-then-is_empty-clause-more : goal.returns-then-is_empty-clause-more
returns-then-is_empty-clause-more g c more =
    let history = c.args.store.now.entries in
    let m = machine_of history in
    let laws = c.history_laws.ensures in
    let leg = c.in_ok-leg.leg in
    let entries = c.run_leg_from.new.out.items in
    let is_leg = c.in_ok-leg.ensures.leg m c.requires.ready.is_after.leads in
    let old = around (g.C.Chooser.choices c.args.outside.now.chooser.now) c.args.outside.now.answers.now c.args.outside.now.steps.now in
    let new = around (g.C.Chooser.choices c.run_leg_from.new.chooser) c.run_leg_from.new.answers c.run_leg_from.new.steps in
    let t : Taken g.A.Answers.answers m c.args.left leg entries old new = taken g.A.Answers.answers laws.legs history c.args.left leg c.args.machine.now c.run_leg_from.new.self old.choices new.choices c.args.outside.now.answers.now c.run_leg_from.new.answers c.new-entries.result.items entries old.steps new.steps is_leg c.new-entries.ensures.items in
    let none : entries ≡ [] = nothing entries (sym c.run_leg_from.new.out.ok.0 ∙ eqb-true c.run_leg_from.new.out.len 0 (sym c.is_empty.ensures ∙ c.if-is_empty.true)) in
    let same : history ≡ history ++ entries = sym (ap (λ (x : List Record). history ++ x) none ∙ append-nil history) in
    more-taken (answering g.A.Answers.answers g.A.Plugs.unplugs g.A.Plugs.filled) laws.names laws.begin laws.append history history c.args.left leg entries old new t same more

pub push_outputs-requires : goal.push_outputs-requires
push_outputs-requires g c =
    let room = room-for c.history_laws.ensures.room c.args.machine.now c.args.store.now.entries (2 ^ 63) 0 c.requires.ready c.count_records.ensures (omega arith) (omega arith) in
    record { room = omega (arith, room.events, c.events-event.ensures, c.as_slice.type_inv.1) }

pub returns-in_err-push_outputs-clause-stops : goal.returns-in_err-push_outputs-clause-stops
returns-in_err-push_outputs-clause-stops g c =
    let history = c.args.store.now.entries in
    let m = machine_of history in
    let laws = c.history_laws.ensures in
    let leg = c.in_ok-leg.leg in
    let entries = c.run_leg_from.new.out.items in
    let is_leg = c.in_ok-leg.ensures.leg m c.requires.ready.is_after.leads in
    let old = around (g.C.Chooser.choices c.args.outside.now.chooser.now) c.args.outside.now.answers.now c.args.outside.now.steps.now in
    let new = around (g.C.Chooser.choices c.run_leg_from.new.chooser) c.run_leg_from.new.answers c.run_leg_from.new.steps in
    let t : Taken g.A.Answers.answers m c.args.left leg entries old new = taken g.A.Answers.answers laws.legs history c.args.left leg c.args.machine.now c.run_leg_from.new.self old.choices new.choices c.args.outside.now.answers.now c.run_leg_from.new.answers c.new-entries.result.items entries old.steps new.steps is_leg c.new-entries.ensures.items in
    let some : 0 < length entries = there-are entries (λ none. eqb-false c.run_leg_from.new.out.len 0 (sym c.is_empty.ensures ∙ c.if-is_empty.false) (c.run_leg_from.new.out.ok.0 ∙ none)) in
    let some_taken : 0 < length (going_by (fresh m c.args.left) t.slices).entries = subst (λ (x : List Record). 0 < length x) t.are some in
    let holds = g.K.Sink.holds c.args.outside.now.sink.now in
    err-same c.from_residual-in_err-push_outputs.result halt.NoMemory _ c.from_residual-in_err-push_outputs.ensures.1
    (λ budget.
    Stops-lost IsRun g.D.Disk (answering g.A.Answers.answers g.A.Plugs.unplugs g.A.Plugs.filled) c.halts_follow.ensures budget m c.args.left t.slices t.same t.opens c.args.outside.now.disk.now c.args.outside.now.disk.now history holds holds halt.NoMemory old new leg.end t.closed some_taken t.picked t.in_range t.replied t.executed
    (λ more. c.halts_follow.ensures.nothing c.args.outside.now.disk.now history holds halt.NoMemory _ (inl refl, inl refl)))

pub commit-requires-clause-run : goal.commit-requires-clause-run
commit-requires-clause-run g c =
    let history = c.args.store.now.entries in
    let m = machine_of history in
    let laws = c.history_laws.ensures in
    let leg = c.in_ok-leg.leg in
    let entries = c.run_leg_from.new.out.items in
    let is_leg = c.in_ok-leg.ensures.leg m c.requires.ready.is_after.leads in
    let old = around (g.C.Chooser.choices c.args.outside.now.chooser.now) c.args.outside.now.answers.now c.args.outside.now.steps.now in
    let new = around (g.C.Chooser.choices c.run_leg_from.new.chooser) c.run_leg_from.new.answers c.run_leg_from.new.steps in
    let t : Taken g.A.Answers.answers m c.args.left leg entries old new = taken g.A.Answers.answers laws.legs history c.args.left leg c.args.machine.now c.run_leg_from.new.self old.choices new.choices c.args.outside.now.answers.now c.run_leg_from.new.answers c.new-entries.result.items entries old.steps new.steps is_leg c.new-entries.ensures.items in
    λ was. (ready-recorded laws.named laws.records laws.runs laws.are_run c.args.machine.now c.run_leg_from.new.self history (map input_of is_leg.slices) c.new-entries.result.items entries c.requires.ready is_leg.took.runs c.new-entries.ensures.items).is_run

pub returns-in_err-commit-clause-stops : goal.returns-in_err-commit-clause-stops
returns-in_err-commit-clause-stops g c =
    let history = c.args.store.now.entries in
    let m = machine_of history in
    let laws = c.history_laws.ensures in
    let leg = c.in_ok-leg.leg in
    let entries = c.run_leg_from.new.out.items in
    let is_leg = c.in_ok-leg.ensures.leg m c.requires.ready.is_after.leads in
    let old = around (g.C.Chooser.choices c.args.outside.now.chooser.now) c.args.outside.now.answers.now c.args.outside.now.steps.now in
    let new = around (g.C.Chooser.choices c.run_leg_from.new.chooser) c.run_leg_from.new.answers c.run_leg_from.new.steps in
    let t : Taken g.A.Answers.answers m c.args.left leg entries old new = taken g.A.Answers.answers laws.legs history c.args.left leg c.args.machine.now c.run_leg_from.new.self old.choices new.choices c.args.outside.now.answers.now c.run_leg_from.new.answers c.new-entries.result.items entries old.steps new.steps is_leg c.new-entries.ensures.items in
    let some : 0 < length entries = there-are entries (λ none. eqb-false c.run_leg_from.new.out.len 0 (sym c.is_empty.ensures ∙ c.if-is_empty.false) (c.run_leg_from.new.out.ok.0 ∙ none)) in
    let some_taken : 0 < length (going_by (fresh m c.args.left) t.slices).entries = subst (λ (x : List Record). 0 < length x) t.are some in
    let holds = g.K.Sink.holds c.args.outside.now.sink.now in
    let why = c.in_err-commit.field-0.0 in
    let stopped : (more : List Effect) → StopsBetween IsRun g.D.Disk c.args.outside.now.disk.now c.commit.new.disk history holds holds why [] (Commits (going_by (fresh m c.args.left) t.slices).entries ∷ more) =
    λ more. subst (λ (x : List Record). StopsBetween IsRun g.D.Disk c.args.outside.now.disk.now c.commit.new.disk history holds holds why [] (Commits x ∷ more)) t.are
    (c.halts_follow.ensures.before c.args.outside.now.disk.now c.commit.new.disk history holds holds why [] (Commits entries ∷ []) more (c.in_err-commit.ensures.undone holds)) in
    err-same c.from_residual-in_err-commit.result why _ c.from_residual-in_err-commit.ensures.1
    (λ budget. Stops-lost IsRun g.D.Disk (answering g.A.Answers.answers g.A.Plugs.unplugs g.A.Plugs.filled) c.halts_follow.ensures budget m c.args.left t.slices t.same t.opens c.args.outside.now.disk.now c.commit.new.disk history holds holds why old new leg.end t.closed some_taken t.picked t.in_range t.replied t.executed stopped)

pub returns-in_err-put_all-clause-stops : goal.returns-in_err-put_all-clause-stops
returns-in_err-put_all-clause-stops g c =
    let history = c.args.store.now.entries in
    let m = machine_of history in
    let laws = c.history_laws.ensures in
    let leg = c.in_ok-leg.leg in
    let entries = c.run_leg_from.new.out.items in
    let is_leg = c.in_ok-leg.ensures.leg m c.requires.ready.is_after.leads in
    let old = around (g.C.Chooser.choices c.args.outside.now.chooser.now) c.args.outside.now.answers.now c.args.outside.now.steps.now in
    let new = around (g.C.Chooser.choices c.run_leg_from.new.chooser) c.run_leg_from.new.answers c.run_leg_from.new.steps in
    let t : Taken g.A.Answers.answers m c.args.left leg entries old new = taken g.A.Answers.answers laws.legs history c.args.left leg c.args.machine.now c.run_leg_from.new.self old.choices new.choices c.args.outside.now.answers.now c.run_leg_from.new.answers c.new-entries.result.items entries old.steps new.steps is_leg c.new-entries.ensures.items in
    let some : 0 < length entries = there-are entries (λ none. eqb-false c.run_leg_from.new.out.len 0 (sym c.is_empty.ensures ∙ c.if-is_empty.false) (c.run_leg_from.new.out.ok.0 ∙ none)) in
    let some_taken : 0 < length (going_by (fresh m c.args.left) t.slices).entries = subst (λ (x : List Record). 0 < length x) t.are some in
    let holds = g.K.Sink.holds c.args.outside.now.sink.now in
    let why = c.in_err-put_all.field-0.0 in
    let carried = c.in_ok-commit.ensures.carries holds in
    let text = leg-text c.requires.ready.is_after.leads.events c.events-event.ensures c.as_slice.ensures.value c.clear.ensures.bytes c.in_ok-push_outputs.ensures in
    err-same c.from_residual-in_err-put_all.result why _ c.from_residual-in_err-put_all.ensures.1
    (λ budget.
    Stops-text IsRun g.D.Disk (answering g.A.Answers.answers g.A.Plugs.unplugs g.A.Plugs.filled) c.halts_follow.ensures budget m c.args.left t.slices t.same t.opens laws.begin c.args.outside.now.disk.now c.commit.new.disk history c.commit.new.store.entries holds (g.K.Sink.holds c.put_all.new.sink) why old new leg.end t.closed some_taken t.picked t.in_range t.replied t.executed
    (subst (λ (x : List Record). c.commit.new.store.entries ≡ history ++ committed (Commits x ∷ [])) t.are carried.entries)
    (subst (λ (x : List Record). CarriesOut IsRun g.D.Disk c.args.outside.now.disk.now c.commit.new.disk history holds holds (Commits x ∷ [])) t.are carried.out)
    (subst (λ (x : List ℕ). StopsPut why x holds (g.K.Sink.holds c.put_all.new.sink)) (c.as_bytes.ensures.value ∙ text ∙ ap (outputs_text m.events) t.are) c.in_err-put_all.ensures.stops))

pub returns-clause-ready : goal.returns-clause-ready
returns-clause-ready g c =
    let history = c.args.store.now.entries in
    let m = machine_of history in
    let laws = c.history_laws.ensures in
    let leg = c.in_ok-leg.leg in
    let entries = c.run_leg_from.new.out.items in
    let is_leg = c.in_ok-leg.ensures.leg m c.requires.ready.is_after.leads in
    let old = around (g.C.Chooser.choices c.args.outside.now.chooser.now) c.args.outside.now.answers.now c.args.outside.now.steps.now in
    let new = around (g.C.Chooser.choices c.run_leg_from.new.chooser) c.run_leg_from.new.answers c.run_leg_from.new.steps in
    let t : Taken g.A.Answers.answers m c.args.left leg entries old new = taken g.A.Answers.answers laws.legs history c.args.left leg c.args.machine.now c.run_leg_from.new.self old.choices new.choices c.args.outside.now.answers.now c.run_leg_from.new.answers c.new-entries.result.items entries old.steps new.steps is_leg c.new-entries.ensures.items in
    let all : c.commit.new.store.entries ≡ history ++ entries = (c.in_ok-commit.ensures.carries (g.K.Sink.holds c.args.outside.now.sink.now)).entries ∙ ap (λ (x : List Record). history ++ x) (append-nil entries) in
    subst (λ (x : List Record). IsReady c.run_leg_from.new.self x) (sym all) (ready-recorded laws.named laws.records laws.runs laws.are_run c.args.machine.now c.run_leg_from.new.self history (map input_of is_leg.slices) c.new-entries.result.items entries c.requires.ready is_leg.took.runs c.new-entries.ensures.items)

pub returns-clause-advances : goal.returns-clause-advances
returns-clause-advances g c budget =
    let history = c.args.store.now.entries in
    let m = machine_of history in
    let laws = c.history_laws.ensures in
    let leg = c.in_ok-leg.leg in
    let entries = c.run_leg_from.new.out.items in
    let is_leg = c.in_ok-leg.ensures.leg m c.requires.ready.is_after.leads in
    let old = around (g.C.Chooser.choices c.args.outside.now.chooser.now) c.args.outside.now.answers.now c.args.outside.now.steps.now in
    let new = around (g.C.Chooser.choices c.run_leg_from.new.chooser) c.run_leg_from.new.answers c.run_leg_from.new.steps in
    let t : Taken g.A.Answers.answers m c.args.left leg entries old new = taken g.A.Answers.answers laws.legs history c.args.left leg c.args.machine.now c.run_leg_from.new.self old.choices new.choices c.args.outside.now.answers.now c.run_leg_from.new.answers c.new-entries.result.items entries old.steps new.steps is_leg c.new-entries.ensures.items in
    let some : 0 < length entries = there-are entries (λ none. eqb-false c.run_leg_from.new.out.len 0 (sym c.is_empty.ensures ∙ c.if-is_empty.false) (c.run_leg_from.new.out.ok.0 ∙ none)) in
    let some_taken : 0 < length (going_by (fresh m c.args.left) t.slices).entries = subst (λ (x : List Record). 0 < length x) t.are some in
    let holds = g.K.Sink.holds c.args.outside.now.sink.now in
    let carried = c.in_ok-commit.ensures.carries holds in
    let all : c.commit.new.store.entries ≡ history ++ entries = carried.entries ∙ ap (λ (x : List Record). history ++ x) (append-nil entries) in
    let text = leg-text c.requires.ready.is_after.leads.events c.events-event.ensures c.as_slice.ensures.value c.clear.ensures.bytes c.in_ok-push_outputs.ensures in
    Advances-taken (answering g.A.Answers.answers g.A.Plugs.unplugs g.A.Plugs.filled) laws.names laws.begin laws.append history c.commit.new.store.entries c.args.left leg entries old new t all budget _
    (Carries-leg IsRun g.D.Disk c.effects_follow.ensures.follow c.args.outside.now.disk.now c.commit.new.disk c.args.store.now c.commit.new.store holds (g.K.Sink.holds c.put_all.new.sink) m.events entries c.as_bytes.result.now some (c.as_bytes.ensures.value ∙ text) carried c.in_ok-put_all.ensures.ok)

pub returns-clause-end : goal.returns-clause-end
returns-clause-end g c =
    let history = c.args.store.now.entries in
    let m = machine_of history in
    let laws = c.history_laws.ensures in
    let leg = c.in_ok-leg.leg in
    let entries = c.run_leg_from.new.out.items in
    let is_leg = c.in_ok-leg.ensures.leg m c.requires.ready.is_after.leads in
    let old = around (g.C.Chooser.choices c.args.outside.now.chooser.now) c.args.outside.now.answers.now c.args.outside.now.steps.now in
    let new = around (g.C.Chooser.choices c.run_leg_from.new.chooser) c.run_leg_from.new.answers c.run_leg_from.new.steps in
    let t : Taken g.A.Answers.answers m c.args.left leg entries old new = taken g.A.Answers.answers laws.legs history c.args.left leg c.args.machine.now c.run_leg_from.new.self old.choices new.choices c.args.outside.now.answers.now c.run_leg_from.new.answers c.new-entries.result.items entries old.steps new.steps is_leg c.new-entries.ensures.items in
    let all : c.commit.new.store.entries ≡ history ++ entries = (c.in_ok-commit.ensures.carries (g.K.Sink.holds c.args.outside.now.sink.now)).entries ∙ ap (λ (x : List Record). history ++ x) (append-nil entries) in
    ends-taken (answering g.A.Answers.answers g.A.Plugs.unplugs g.A.Plugs.filled) laws.names laws.begin laws.append history c.commit.new.store.entries c.args.left leg entries old new t all

pub returns-clause-more : goal.returns-clause-more
returns-clause-more g c more =
    let history = c.args.store.now.entries in
    let m = machine_of history in
    let laws = c.history_laws.ensures in
    let leg = c.in_ok-leg.leg in
    let entries = c.run_leg_from.new.out.items in
    let is_leg = c.in_ok-leg.ensures.leg m c.requires.ready.is_after.leads in
    let old = around (g.C.Chooser.choices c.args.outside.now.chooser.now) c.args.outside.now.answers.now c.args.outside.now.steps.now in
    let new = around (g.C.Chooser.choices c.run_leg_from.new.chooser) c.run_leg_from.new.answers c.run_leg_from.new.steps in
    let t : Taken g.A.Answers.answers m c.args.left leg entries old new = taken g.A.Answers.answers laws.legs history c.args.left leg c.args.machine.now c.run_leg_from.new.self old.choices new.choices c.args.outside.now.answers.now c.run_leg_from.new.answers c.new-entries.result.items entries old.steps new.steps is_leg c.new-entries.ensures.items in
    let all : c.commit.new.store.entries ≡ history ++ entries = (c.in_ok-commit.ensures.carries (g.K.Sink.holds c.args.outside.now.sink.now)).entries ∙ ap (λ (x : List Record). history ++ x) (append-nil entries) in
    more-taken (answering g.A.Answers.answers g.A.Plugs.unplugs g.A.Plugs.filled) laws.names laws.begin laws.append history c.commit.new.store.entries c.args.left leg entries old new t all more

pub returns-in_err-leg-clause-ready : goal.returns-in_err-leg-clause-ready
returns-in_err-leg-clause-ready g c = IfOk-from_err c.from_residual.result _ c.from_residual.ensures.0

pub returns-in_err-leg-clause-advances : goal.returns-in_err-leg-clause-advances
returns-in_err-leg-clause-advances g c = IfOk-from_err c.from_residual.result _ c.from_residual.ensures.0

pub returns-in_err-leg-clause-end : goal.returns-in_err-leg-clause-end
returns-in_err-leg-clause-end g c = IfOk-from_err c.from_residual.result _ c.from_residual.ensures.0

pub returns-in_err-leg-clause-within : goal.returns-in_err-leg-clause-within
returns-in_err-leg-clause-within g c = IfOk-from_err c.from_residual.result _ c.from_residual.ensures.0

pub returns-in_err-leg-clause-more : goal.returns-in_err-leg-clause-more
returns-in_err-leg-clause-more g c = IfOk-from_err c.from_residual.result _ c.from_residual.ensures.0

pub returns-in_err-push_outputs-clause-ready : goal.returns-in_err-push_outputs-clause-ready
returns-in_err-push_outputs-clause-ready g c = IfOk-from_err c.from_residual-in_err-push_outputs.result _ c.from_residual-in_err-push_outputs.ensures.0

pub returns-in_err-push_outputs-clause-advances : goal.returns-in_err-push_outputs-clause-advances
returns-in_err-push_outputs-clause-advances g c = IfOk-from_err c.from_residual-in_err-push_outputs.result _ c.from_residual-in_err-push_outputs.ensures.0

pub returns-in_err-push_outputs-clause-end : goal.returns-in_err-push_outputs-clause-end
returns-in_err-push_outputs-clause-end g c = IfOk-from_err c.from_residual-in_err-push_outputs.result _ c.from_residual-in_err-push_outputs.ensures.0

pub returns-in_err-push_outputs-clause-within : goal.returns-in_err-push_outputs-clause-within
returns-in_err-push_outputs-clause-within g c = IfOk-from_err c.from_residual-in_err-push_outputs.result _ c.from_residual-in_err-push_outputs.ensures.0

pub returns-in_err-push_outputs-clause-more : goal.returns-in_err-push_outputs-clause-more
returns-in_err-push_outputs-clause-more g c = IfOk-from_err c.from_residual-in_err-push_outputs.result _ c.from_residual-in_err-push_outputs.ensures.0

pub returns-in_err-commit-clause-ready : goal.returns-in_err-commit-clause-ready
returns-in_err-commit-clause-ready g c = IfOk-from_err c.from_residual-in_err-commit.result _ c.from_residual-in_err-commit.ensures.0

pub returns-in_err-commit-clause-advances : goal.returns-in_err-commit-clause-advances
returns-in_err-commit-clause-advances g c = IfOk-from_err c.from_residual-in_err-commit.result _ c.from_residual-in_err-commit.ensures.0

pub returns-in_err-commit-clause-end : goal.returns-in_err-commit-clause-end
returns-in_err-commit-clause-end g c = IfOk-from_err c.from_residual-in_err-commit.result _ c.from_residual-in_err-commit.ensures.0

pub returns-in_err-commit-clause-within : goal.returns-in_err-commit-clause-within
returns-in_err-commit-clause-within g c = IfOk-from_err c.from_residual-in_err-commit.result _ c.from_residual-in_err-commit.ensures.0

pub returns-in_err-commit-clause-more : goal.returns-in_err-commit-clause-more
returns-in_err-commit-clause-more g c = IfOk-from_err c.from_residual-in_err-commit.result _ c.from_residual-in_err-commit.ensures.0

pub returns-in_err-put_all-clause-ready : goal.returns-in_err-put_all-clause-ready
returns-in_err-put_all-clause-ready g c = IfOk-from_err c.from_residual-in_err-put_all.result _ c.from_residual-in_err-put_all.ensures.0

pub returns-in_err-put_all-clause-advances : goal.returns-in_err-put_all-clause-advances
returns-in_err-put_all-clause-advances g c = IfOk-from_err c.from_residual-in_err-put_all.result _ c.from_residual-in_err-put_all.ensures.0

pub returns-in_err-put_all-clause-end : goal.returns-in_err-put_all-clause-end
returns-in_err-put_all-clause-end g c = IfOk-from_err c.from_residual-in_err-put_all.result _ c.from_residual-in_err-put_all.ensures.0

pub returns-in_err-put_all-clause-within : goal.returns-in_err-put_all-clause-within
returns-in_err-put_all-clause-within g c = IfOk-from_err c.from_residual-in_err-put_all.result _ c.from_residual-in_err-put_all.ensures.0

pub returns-in_err-put_all-clause-more : goal.returns-in_err-put_all-clause-more
returns-in_err-put_all-clause-more g c = IfOk-from_err c.from_residual-in_err-put_all.result _ c.from_residual-in_err-put_all.ensures.0

pub returns-then-is_empty-clause-within : goal.returns-then-is_empty-clause-within
returns-then-is_empty-clause-within g c = c.in_ok-leg.ensures.within

pub returns-then-is_empty-clause-stops : goal.returns-then-is_empty-clause-stops
returns-then-is_empty-clause-stops g c = tt

pub returns-then-is_empty-clause-cause : goal.returns-then-is_empty-clause-cause
returns-then-is_empty-clause-cause g c = tt

pub returns-clause-within : goal.returns-clause-within
returns-clause-within g c = c.in_ok-leg.ensures.within

pub returns-clause-stops : goal.returns-clause-stops
returns-clause-stops g c = tt

pub returns-clause-cause : goal.returns-clause-cause
returns-clause-cause g c = tt

pub commit-requires-clause-open : goal.commit-requires-clause-open
commit-requires-clause-open g c = c.requires.open

pub returns-in_err-leg-clause-cause : goal.returns-in_err-leg-clause-cause
returns-in_err-leg-clause-cause g c = err-same c.from_residual.result halt.NoMemory _ c.from_residual.ensures.1 tt

pub returns-in_err-push_outputs-clause-cause : goal.returns-in_err-push_outputs-clause-cause
returns-in_err-push_outputs-clause-cause g c = err-same c.from_residual-in_err-push_outputs.result halt.NoMemory _ c.from_residual-in_err-push_outputs.ensures.1 tt

pub returns-in_err-leg-clause-goes_on : goal.returns-in_err-leg-clause-goes_on
returns-in_err-leg-clause-goes_on g c = record { later = still-goes g.D.Disk.image g.D.Disk.faults c.args.outside.now.disk.now; faults = still-falls (g.K.Sink.faults c.args.outside.now.sink.now); same = record { chooser = refl; answers = refl; disk = refl; sink = refl; steps = refl; text = refl } }

pub returns-then-is_empty-clause-goes_on : goal.returns-then-is_empty-clause-goes_on
returns-then-is_empty-clause-goes_on g c = record { later = still-goes g.D.Disk.image g.D.Disk.faults c.args.outside.now.disk.now; faults = still-falls (g.K.Sink.faults c.args.outside.now.sink.now); same = record { chooser = refl; answers = refl; disk = refl; sink = refl; steps = refl; text = refl } }

pub returns-in_err-push_outputs-clause-goes_on : goal.returns-in_err-push_outputs-clause-goes_on
returns-in_err-push_outputs-clause-goes_on g c = record { later = still-goes g.D.Disk.image g.D.Disk.faults c.args.outside.now.disk.now; faults = still-falls (g.K.Sink.faults c.args.outside.now.sink.now); same = record { chooser = refl; answers = refl; disk = refl; sink = refl; steps = refl; text = refl } }

pub returns-in_err-commit-clause-goes_on : goal.returns-in_err-commit-clause-goes_on
returns-in_err-commit-clause-goes_on g c = record { later = c.commit.ensures.later; faults = still-falls (g.K.Sink.faults c.args.outside.now.sink.now); same = record { chooser = refl; answers = refl; disk = refl; sink = refl; steps = refl; text = refl } }

pub returns-in_err-put_all-clause-goes_on : goal.returns-in_err-put_all-clause-goes_on
returns-in_err-put_all-clause-goes_on g c = record { later = c.commit.ensures.later; faults = c.put_all.ensures.faults; same = record { chooser = refl; answers = refl; disk = refl; sink = refl; steps = refl; text = refl } }

pub returns-clause-goes_on : goal.returns-clause-goes_on
returns-clause-goes_on g c = record { later = c.commit.ensures.later; faults = c.put_all.ensures.faults; same = record { chooser = refl; answers = refl; disk = refl; sink = refl; steps = refl; text = refl } }

pub returns-in_err-commit-clause-cause : goal.returns-in_err-commit-clause-cause
returns-in_err-commit-clause-cause g c = err-same c.from_residual-in_err-commit.result c.in_err-commit.field-0.0 _ c.from_residual-in_err-commit.ensures.1 (c.in_err-commit.ensures.cause (g.K.Sink.faults c.args.outside.now.sink.now))
