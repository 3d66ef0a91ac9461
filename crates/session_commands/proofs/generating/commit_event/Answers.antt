use Rattle.std.proofs.Common.{◌++◌, [], ◌∷◌, None, List, append-nil, ap, refl, subst, sym, ◌∙◌}
use Rattle.std.proofs.lemmas.Result.{on_ok_weaker}
use Rattle.arn_base.specs.declared.records.Record.{Record}
use Rattle.log_model.specs.Records.{IsRun}
use Rattle.session_effects.specs.Carrying.{StopsBetween}
use Rattle.session_effects.specs.Effects.{Effect, Commits}
use Rattle.session_effects.specs.Standing.{Carries}
use Rattle.session_effects.specs.declared.halt.Halt.TheVariants as halt
use Rattle.session_runs.specs.Ready.{IsReady, machine_of}
use Rattle.session_commands.specs.Events.{input_of}
use Rattle.session_commands.specs.Generator.{event_commits}
use Rattle.session_commands.proofs.AnswerLemmas.{err-both}
use Rattle.session_commands.proofs.ChangeLemmas.{err-same}
use Rattle.session_commands.proofs.PartLemmas.{Halts-before}
use Rattle.session_commands.proofs.generating.commit_event.Goals as goal

pub returns-in_err-event-clause-stops : goal.returns-in_err-event-clause-stops
returns-in_err-event-clause-stops g c held =
    err-same c.from_residual.result halt.NoMemory _ c.from_residual.ensures.1
    (Halts-before g.D.Disk c.effects_follow.ensures.follow c.halts_follow.ensures c.args.disk.now c.args.store.now.entries held halt.NoMemory (event_commits (machine_of c.args.store.now.entries) (input_of c.args.incoming.now ∷ [])) refl)

pub commit-requires-clause-run : goal.commit-requires-clause-run
commit-requires-clause-run g c is_run = c.in_ok-event.ensures.ready.is_run

pub returns-clause-ready : goal.returns-clause-ready
returns-clause-ready g c =
    on_ok_weaker c.commit.result
    (λ carries. subst (IsReady c.make_event.new.machine) (sym ((carries None).entries ∙ ap (λ (x : List Record). c.args.store.now.entries ++ x) (append-nil c.in_ok-event.event.entries.items))) c.in_ok-event.ensures.ready)
    c.commit.ensures.carries

pub returns-clause-carries : goal.returns-clause-carries
returns-clause-carries g c held =
    on_ok_weaker c.commit.result
    (λ carries. subst (λ (e : List Effect). Carries IsRun g.D.Disk c.args.disk.now c.commit.new.disk c.args.store.now c.commit.new.store held held e) (ap (λ (x : List Record). Commits x ∷ []) c.in_ok-event.ensures.made.are_records) (carries held))
    c.commit.ensures.carries

pub returns-clause-stops : goal.returns-clause-stops
returns-clause-stops g c held =
    err-both c.commit.result _ _ _
    (λ why stopped again. record {
      done = [];
      undone = event_commits (machine_of c.args.store.now.entries) (input_of c.args.incoming.now ∷ []);
      are_effects = refl;
      stopped = subst (λ (e : List Effect). StopsBetween IsRun g.D.Disk c.args.disk.now c.commit.new.disk c.args.store.now.entries held held why [] e) (ap (λ (x : List Record). Commits x ∷ []) c.in_ok-event.ensures.made.are_records) (stopped held);
    })
    c.commit.ensures.undone c.commit.ensures.undone
