-- Nothing was carried out before the reader was there.
use Rattle.std.proofs.Common.{[], inl, inr, refl}
use Rattle.std.proofs.lemmas.Result.{err_from_is_err_and}
use Rattle.history_model.specs.Unplugged.{unplugged_in}
use Rattle.session_effects.specs.declared.halt.Halt.TheVariants as halt
use Rattle.session_runs.specs.Points.{around}
use Rattle.session_runs.specs.Standing.{standpoint}
use Rattle.session_runs.specs.Touches.{answering}
use Rattle.session_commands.specs.Given.{given}
use Rattle.session_text.specs.Begun.{standing}
use Rattle.session_text.proofs.CutLemmas.{BeginsText-none}
use Rattle.session_text.proofs.LeavesLemmas.{touched-none, begins-on, leaves-halted, untaken}
use Rattle.session_text.proofs.PointLemmas.{laws-of}
use Rattle.session_text.proofs.text.session.Goals as goal

pub returns-in_err-commands-clause-leaves : goal.returns-in_err-commands-clause-leaves
returns-in_err-commands-clause-leaves g c =
    let laws = laws-of {who = (answering g.A.Answers.answers g.A.Plugs.unplugs g.A.Plugs.filled)} c.touches_follow.ensures c.points_follow.ensures c.halts_follow.ensures (record { keeps = g.met.A.Plugs.keeps; drops = g.met.A.Plugs.drops }) c.gone_laws.ensures in
    let p = err_from_is_err_and c.from_residual.result c.from_residual.ensures.1 in
    let held = (g.K.Sink.holds c.args.outside.now.sink.now) in
    let disk = c.args.outside.now.disk.now in
    leaves-halted c.from_residual.result halt.NoMemory (cc (p.1, p.2))
    (record {
      goes = record {
        at_most = untaken (g.S.Source.left c.args.source.now);
        any_moment = c.effects_follow.ensures.leaves disk disk c.args.store.entries held held [] (c.effects_follow.ensures.follow.nothing disk c.args.store.entries held);
        later = (c.goings_follow.ensures.still c.args.outside.now).later;
        touched = touched-none _ (unplugged_in c.args.store.entries) c.args.outside.now.answers.now;
      };
      stops = λ not_source not_long.
          begins-on g.D.Disk (answering g.A.Answers.answers g.A.Plugs.unplugs g.A.Plugs.filled) (given g.Q.Questions.told (g.A.Plugs.filled c.args.outside.now.answers.now)) c.args.outside.now.answers.now (standing c.args.outside.now.disk.now (g.K.Sink.holds c.args.outside.now.sink.now) (around (g.C.Chooser.choices c.args.outside.now.chooser.now) c.args.outside.now.answers.now c.args.outside.now.steps.now)) (standing c.args.outside.now.disk.now (g.K.Sink.holds c.args.outside.now.sink.now) (around (g.C.Chooser.choices c.args.outside.now.chooser.now) c.args.outside.now.answers.now c.args.outside.now.steps.now)) c.args.store halt.NoMemory (g.S.Source.left c.args.source.now) (g.S.Source.left c.args.source.now)
          (BeginsText-none (given g.Q.Questions.told (g.A.Plugs.filled c.args.outside.now.answers.now)) (g.S.Source.left c.args.source.now) (standpoint disk c.args.store held (around (g.C.Chooser.choices c.args.outside.now.chooser.now) c.args.outside.now.answers.now c.args.outside.now.steps.now)) laws halt.NoMemory tt (λ n is. refl) c.requires.«open»);
      blames = λ at is. absurd (cc is);
      finds = λ at is. absurd (cc is);
      early = λ is. absurd (cc is);
      long = λ is. absurd (cc is);
      taken = λ which. elim which [
        | inl is ↦ absurd (cc is)
        | inr is ↦ absurd (cc is)
      ];
      still_rests = λ not_disk not_memory. absurd (not_memory refl);
      still_shuts = λ not_disk not_memory. absurd (not_memory refl);
      source = λ is. absurd (cc is);
      sink = λ is. absurd (cc is);
      disk = λ is. absurd (cc is);
      full = λ log payload is. absurd (cc is);
    })
