use Rattle.std.proofs.Common.{None}
use Rattle.std.proofs.lemmas.Result.{on_ok_weaker}
use Rattle.arn_lines.specs.declared.line.TheConstants.{MOST_RUN}
use Rattle.session_runs.specs.Points.{around}
use Rattle.session_runs.specs.Ready.{machine_of}
use Rattle.session_runs.specs.Runs.{run}
use Rattle.session_commands.proofs.AnswerLemmas.{err-both}
use Rattle.session_commands.proofs.QuietLemmas.{not-sink}
use Rattle.session_commands.proofs.generating.run_in_silence.Goals as goal

pub returns-clause-advances : goal.returns-clause-advances
returns-clause-advances g c told processes held =
    let n = c.run.new in
    on_ok_weaker c.run.result
    (λ p. c.quiet_points_follow.ensures.advances (run (machine_of c.args.store.now.entries) MOST_RUN) (λ all. told.generated all processes) (around (g.C.Chooser.choices c.args.quiet.now.chooser.now) c.args.quiet.now.answers.now c.args.quiet.now.steps.now) (around (g.C.Chooser.choices n.outside.chooser.now) n.outside.answers.now n.outside.steps.now) 0 c.args.quiet.now.disk.now n.outside.disk.now c.args.store.now n.store None None held p)
    c.run.ensures.advances

pub returns-clause-stops : goal.returns-clause-stops
returns-clause-stops g c told processes held =
    let n = c.run.new in
    err-both c.run.result _ _ _
    (λ why q cause. c.quiet_points_follow.ensures.stops MOST_RUN (λ all. told.generated all processes) (around (g.C.Chooser.choices c.args.quiet.now.chooser.now) c.args.quiet.now.answers.now c.args.quiet.now.steps.now) (around (g.C.Chooser.choices n.outside.chooser.now) n.outside.answers.now n.outside.steps.now) 0 c.args.quiet.now.disk.now n.outside.disk.now c.args.store.now.entries None None held why (not-sink why _ _ cause) q)
    c.run.ensures.stops c.run.ensures.cause
