-- Each part goes on with what was read and answered, and an end of the text or of the reading ends it.
use Rattle.std.proofs.Common.{◌≡◌, ◌≢◌, ◌∙◌, [], Err, IfSome, subst, refl, inl, inr, ap, arith, sym}
use Rattle.std.proofs.lemmas.Result.{err_from_is_err_and}
use Rattle.arn_commands.specs.Nexts.{ReadsNext}
use Rattle.arn_commands.specs.Reader.{ReaderState}
use Rattle.arn_commands.specs.declared.error.ReadError.{ReadError}
use Rattle.arn_commands.specs.declared.next.Next.{Next}
use Rattle.session_effects.specs.declared.halt.Halt.{Halt}
use Rattle.session_effects.specs.declared.halt.Halt.TheVariants as halt
use Rattle.session_runs.specs.Points.{around}
use Rattle.session_runs.specs.Touches.{answering}
use Rattle.session_commands.specs.Given.{given}
use Rattle.session_text.specs.Begun.{BeginsOn, standing}
use Rattle.session_text.proofs.CutLemmas.{BeginsText-before, BeginsText-last, BeginsText-whole, FindsOut-last, FindsOut-whole, blames-first, stops-all}
use Rattle.session_text.proofs.FaultLemmas.{Rose-after}
use Rattle.session_text.proofs.HaltLemmas.{long-was, memory-was, never-long, never-source, read-finds-none, read-never-disk, read-never-full, read-never-sink, source-was}
use Rattle.session_text.proofs.LeavesLemmas.{touched-before, touched-halted, begins-on, finds-on, leaves-by, leaves-done, leaves-halted}
use Rattle.session_text.proofs.PointLemmas.{laws-of}
use Rattle.session_text.proofs.Progress.{AnswersTaken-part, answered-stands, found-stands, halted-stands, there-stands, IsDone-end, IsDone-last, Progress-part, Progress-start, TookAtMost-part, TookFewer-part, TookMost-part, reads-less}
use Rattle.session_text.proofs.ResultLemmas.{err-at, ok-at}
use Rattle.session_text.proofs.text.answer_all.Goals as goal

pub loop-next-init : goal.loop-next-init
loop-next-init g c =
    let laws = laws-of {who = (answering g.A.Answers.answers g.A.Plugs.unplugs g.A.Plugs.filled)} c.touches_follow.ensures c.points_follow.ensures c.halts_follow.ensures (record { keeps = g.met.A.Plugs.keeps; drops = g.met.A.Plugs.drops }) c.gone_laws.ensures in
    record {
      progress = rw (c.requires.fresh, c.requires.bare) (Progress-start laws (λ n is. refl) c.requires.«open»);
      is_open = c.requires.«open»;
      sound = c.requires.sound;
      within = omega (arith, ap (λ (r : ReaderState). r.taken) c.requires.fresh);
      source = c.causes_follow.ensures.still _;
      goes_on = c.goings_follow.ensures.still _;
    }

pub loop-next-smaller : goal.loop-next-smaller
loop-next-smaller g c =
    let read = subst (λ (n : Next). ReadsNext n c.loop-next.commands c.next.new.self (g.S.Source.left c.loop-next.source) (g.S.Source.left c.next.new.source)) c.in-More.is c.in-Ok.ensures.next in
    reads-less read c.next.ensures.still_within

pub loop-next-preserved : goal.loop-next-preserved
loop-next-preserved g c =
    let laws = laws-of {who = (answering g.A.Answers.answers g.A.Plugs.unplugs g.A.Plugs.filled)} c.touches_follow.ensures c.points_follow.ensures c.halts_follow.ensures (record { keeps = g.met.A.Plugs.keeps; drops = g.met.A.Plugs.drops }) c.gone_laws.ensures in
    let read = subst (λ (n : Next). ReadsNext n c.loop-next.commands c.next.new.self (g.S.Source.left c.loop-next.source) (g.S.Source.left c.next.new.source)) c.in-More.is c.in-Ok.ensures.next in
    let now = c.loop-next.invariant.progress in
    let did = c.in_ok-answer-in-More.ensures in
    record {
      progress = Progress-part laws (there-stands c.in-More.command now.answers did.there) now read (answered-stands now.answers did.answered);
      is_open = did.answered.advances.carries.stays_open;
      sound = did.sound;
      within = c.next.ensures.still_within;
      source = c.causes_follow.ensures.falls _ _ _ c.loop-next.invariant.source c.next.ensures.faults;
      goes_on = c.goings_follow.ensures.later _ _ _ c.loop-next.invariant.goes_on c.answer.ensures.goes_on;
    }

-- the reading ended, and the source did or the bound was reached
pub returns-in-Err-clause-leaves : goal.returns-in-Err-clause-leaves
returns-in-Err-clause-leaves g c =
    let laws = laws-of {who = (answering g.A.Answers.answers g.A.Plugs.unplugs g.A.Plugs.filled)} c.touches_follow.ensures c.points_follow.ensures c.halts_follow.ensures (record { keeps = g.met.A.Plugs.keeps; drops = g.met.A.Plugs.drops }) c.gone_laws.ensures in
    let now = c.loop-next.invariant.progress in
    let did = now.answers.answered in
    let l = g.S.Source.left c.args.source.now in
    let left = g.S.Source.left c.next.new.source in
    let why = c.read_halt.result in
    let at_source = λ (is : why ≡ halt.Source). source-was c.in-Err.error (sym c.read_halt.ensures ∙ is) in
    let at_bound = λ (is : why ≡ halt.Long). long-was c.in-Err.error (sym c.read_halt.ensures ∙ is) in
    leaves-halted (Err why) why refl
    (record {
      goes = record {
        at_most = TookAtMost-part now c.next.ensures.used c.next.ensures.still_within;
        any_moment = c.effects_follow.ensures.leaves c.args.outside.now.disk.now c.loop-next.outside.disk.now c.args.kept.now.store.entries (g.K.Sink.holds c.args.outside.now.sink.now) (g.K.Sink.holds c.loop-next.outside.sink.now) did.effects did.carries.out;
        later = c.loop-next.invariant.goes_on.later;
        touched = touched-before laws now.answers;
      };
      stops =
          subst (λ (h : Halt). h ≢ halt.Source → h ≢ halt.Long → IfSome l (λ text. BeginsOn g.D.Disk (answering g.A.Answers.answers g.A.Plugs.unplugs g.A.Plugs.filled) (given g.Q.Questions.told (g.A.Plugs.filled c.args.outside.now.answers.now)) c.args.kept.now.store.entries (standing c.args.outside.now.disk.now (g.K.Sink.holds c.args.outside.now.sink.now) (around (g.C.Chooser.choices c.args.outside.now.chooser.now) c.args.outside.now.answers.now c.args.outside.now.steps.now)) (standing c.loop-next.outside.disk.now (g.K.Sink.holds c.loop-next.outside.sink.now) (around (g.C.Chooser.choices c.loop-next.outside.chooser.now) c.loop-next.outside.answers.now c.loop-next.outside.steps.now)) h text left)) (sym c.read_halt.ensures)
          (memory-was (λ (h : Halt). IfSome l (λ text. BeginsOn g.D.Disk (answering g.A.Answers.answers g.A.Plugs.unplugs g.A.Plugs.filled) (given g.Q.Questions.told (g.A.Plugs.filled c.args.outside.now.answers.now)) c.args.kept.now.store.entries (standing c.args.outside.now.disk.now (g.K.Sink.holds c.args.outside.now.sink.now) (around (g.C.Chooser.choices c.args.outside.now.chooser.now) c.args.outside.now.answers.now c.args.outside.now.steps.now)) (standing c.loop-next.outside.disk.now (g.K.Sink.holds c.loop-next.outside.sink.now) (around (g.C.Chooser.choices c.loop-next.outside.chooser.now) c.loop-next.outside.answers.now c.loop-next.outside.steps.now)) h text left)) c.in-Err.error
          (begins-on g.D.Disk (answering g.A.Answers.answers g.A.Plugs.unplugs g.A.Plugs.filled) (given g.Q.Questions.told (g.A.Plugs.filled c.args.outside.now.answers.now)) c.args.outside.now.answers.now (standing c.args.outside.now.disk.now (g.K.Sink.holds c.args.outside.now.sink.now) (around (g.C.Chooser.choices c.args.outside.now.chooser.now) c.args.outside.now.answers.now c.args.outside.now.steps.now)) (standing c.loop-next.outside.disk.now (g.K.Sink.holds c.loop-next.outside.sink.now) (around (g.C.Chooser.choices c.loop-next.outside.chooser.now) c.loop-next.outside.answers.now c.loop-next.outside.steps.now)) c.args.kept.now.store halt.NoMemory l left (BeginsText-before laws halt.NoMemory tt now c.next.ensures.used)));
      blames = λ at is. absurd (read-finds-none c.in-Err.error at (sym c.read_halt.ensures ∙ is));
      finds = λ at is. absurd (read-finds-none c.in-Err.error at (sym c.read_halt.ensures ∙ is));
      early = λ is. TookFewer-part now (c.in-Err.ensures.part (λ none. cc (at_source is, none))) (c.in-Err.ensures.source (ap (λ (x : ReadError). Err x) (at_source is)));
      long = λ is.
          let stops = c.in-Err.ensures.long (ap (λ (x : ReadError). Err x) (at_bound is)) in
          TookMost-part now (c.in-Err.ensures.part (λ none. cc (at_bound is, none))) stops.used_up stops.no_room;
      taken = λ which. elim which [
        | inl is ↦ AnswersTaken-part now (c.in-Err.ensures.part (λ none. cc (at_source is, none))) (c.in-Err.ensures.source (ap (λ (x : ReadError). Err x) (at_source is))).used_up
        | inr is ↦ AnswersTaken-part now (c.in-Err.ensures.part (λ none. cc (at_bound is, none))) (c.in-Err.ensures.long (ap (λ (x : ReadError). Err x) (at_bound is))).used_up
      ];
      still_rests = λ not_disk not_memory. c.effects_follow.ensures.rests c.args.outside.now.disk.now c.loop-next.outside.disk.now c.args.kept.now.store.entries (g.K.Sink.holds c.args.outside.now.sink.now) (g.K.Sink.holds c.loop-next.outside.sink.now) did.effects did.carries.out;
      still_shuts = λ not_disk not_memory. did.carries.out.adds.shut;
      source = λ is. Rose-after _ _ _ c.loop-next.invariant.source c.next.ensures.faults (c.in-Err.ensures.cause (ap (λ (x : ReadError). Err x) (at_source is)));
      sink = λ is. absurd (read-never-sink c.in-Err.error (sym c.read_halt.ensures ∙ is));
      disk = λ is. absurd (read-never-disk c.in-Err.error (sym c.read_halt.ensures ∙ is));
      full = λ log payload is. absurd (read-never-full c.in-Err.error log payload (sym c.read_halt.ensures ∙ is));
    })

-- the answer to a whole part was begun
pub returns-in_err-answer-in-More-clause-leaves : goal.returns-in_err-answer-in-More-clause-leaves
returns-in_err-answer-in-More-clause-leaves g c =
    let laws = laws-of {who = (answering g.A.Answers.answers g.A.Plugs.unplugs g.A.Plugs.filled)} c.touches_follow.ensures c.points_follow.ensures c.halts_follow.ensures (record { keeps = g.met.A.Plugs.keeps; drops = g.met.A.Plugs.drops }) c.gone_laws.ensures in
    let now = c.loop-next.invariant.progress in
    let l = g.S.Source.left c.args.source.now in
    let left = g.S.Source.left c.next.new.source in
    let read = subst (λ (n : Next). ReadsNext n c.loop-next.commands c.next.new.self (g.S.Source.left c.loop-next.source) (g.S.Source.left c.next.new.source)) c.in-More.is c.in-Ok.ensures.next in
    let gone = c.goings_follow.ensures.later c.args.outside.now c.loop-next.outside c.answer.new.outside c.loop-next.invariant.goes_on c.answer.ensures.goes_on in
    let p = err_from_is_err_and c.from_residual.result c.from_residual.ensures.1 in
    let why = c.in_err-answer-in-More.field-0.0 in
    let halted = halted-stands now.answers c.in_err-answer-in-More.ensures.halted in
    let cause = c.in_err-answer-in-More.ensures.cause in
    let stop = stops-all laws now.answers halted in
    leaves-halted c.from_residual.result why (cc (p.1, p.2))
    (record {
      goes = record {
        at_most = TookAtMost-part now c.next.ensures.used c.next.ensures.still_within;
        any_moment = c.effects_follow.ensures.stop_leaves c.args.outside.now.disk.now c.answer.new.outside.disk.now c.args.kept.now.store.entries (g.K.Sink.holds c.args.outside.now.sink.now) (g.K.Sink.holds c.answer.new.outside.sink.now) why [] stop.0 stop.1;
        later = gone.later;
        touched = touched-halted laws now.answers halted;
      };
      stops = λ not_source not_long. begins-on g.D.Disk (answering g.A.Answers.answers g.A.Plugs.unplugs g.A.Plugs.filled) (given g.Q.Questions.told (g.A.Plugs.filled c.args.outside.now.answers.now)) c.args.outside.now.answers.now (standing c.args.outside.now.disk.now (g.K.Sink.holds c.args.outside.now.sink.now) (around (g.C.Chooser.choices c.args.outside.now.chooser.now) c.args.outside.now.answers.now c.args.outside.now.steps.now)) (standing c.answer.new.outside.disk.now (g.K.Sink.holds c.answer.new.outside.sink.now) (around (g.C.Chooser.choices c.answer.new.outside.chooser.now) c.answer.new.outside.answers.now c.answer.new.outside.steps.now)) c.args.kept.now.store why l left (BeginsText-whole laws now read halted);
      blames = λ at is. blames-first now.answers (found-stands now.answers (err-at c.answer.result _ (halt.Differs at) (c.in_err-answer-in-More.was ∙ ap (λ (x : Halt). Err x) is) c.answer.ensures.blames));
      finds = λ at is.
          finds-on g.D.Disk (answering g.A.Answers.answers g.A.Plugs.unplugs g.A.Plugs.filled) (given g.Q.Questions.told (g.A.Plugs.filled c.args.outside.now.answers.now)) c.args.outside.now.answers.now (standing c.args.outside.now.disk.now (g.K.Sink.holds c.args.outside.now.sink.now) (around (g.C.Chooser.choices c.args.outside.now.chooser.now) c.args.outside.now.answers.now c.args.outside.now.steps.now)) (standing c.answer.new.outside.disk.now (g.K.Sink.holds c.answer.new.outside.sink.now) (around (g.C.Chooser.choices c.answer.new.outside.chooser.now) c.answer.new.outside.answers.now c.answer.new.outside.steps.now)) c.args.kept.now.store l left
          (FindsOut-whole now read (found-stands now.answers (err-at c.answer.result _ (halt.Differs at) (c.in_err-answer-in-More.was ∙ ap (λ (x : Halt). Err x) is) c.answer.ensures.blames)));
      early = λ is. absurd (never-source why _ _ _ _ cause is);
      long = λ is. absurd (never-long why _ _ _ _ cause is);
      taken = λ which. elim which [
        | inl is ↦ absurd (never-source why _ _ _ _ cause is)
        | inr is ↦ absurd (never-long why _ _ _ _ cause is)
      ];
      still_rests = c.effects_follow.ensures.stop_rests c.args.outside.now.disk.now c.answer.new.outside.disk.now c.args.kept.now.store.entries (g.K.Sink.holds c.args.outside.now.sink.now) (g.K.Sink.holds c.answer.new.outside.sink.now) why [] stop.0 stop.1;
      still_shuts = c.effects_follow.ensures.stop_shuts c.args.outside.now.disk.now c.answer.new.outside.disk.now c.args.kept.now.store.entries (g.K.Sink.holds c.args.outside.now.sink.now) (g.K.Sink.holds c.answer.new.outside.sink.now) why [] stop.0 stop.1;
      source = λ is. absurd (never-source why _ _ _ _ cause is);
      sink = λ is. c.causes_follow.ensures.cause halt.Sink _ _ _ _ _ _ c.loop-next.invariant.goes_on.later.never_falls c.answer.ensures.goes_on.later.never_falls c.loop-next.invariant.goes_on.faults c.answer.ensures.goes_on.faults (err-at c.answer.result _ halt.Sink (c.in_err-answer-in-More.was ∙ ap (λ (x : Halt). Err x) is) c.answer.ensures.cause);
      disk = λ is. c.causes_follow.ensures.cause halt.Disk _ _ _ _ _ _ c.loop-next.invariant.goes_on.later.never_falls c.answer.ensures.goes_on.later.never_falls c.loop-next.invariant.goes_on.faults c.answer.ensures.goes_on.faults (err-at c.answer.result _ halt.Disk (c.in_err-answer-in-More.was ∙ ap (λ (x : Halt). Err x) is) c.answer.ensures.cause);
      full = λ log payload is. err-at c.answer.result _ (halt.Full log payload) (c.in_err-answer-in-More.was ∙ ap (λ (x : Halt). Err x) is) c.answer.ensures.cause;
    })

-- the text ended with a part
pub returns-in-Last-clause-leaves : goal.returns-in-Last-clause-leaves
returns-in-Last-clause-leaves g c =
    let laws = laws-of {who = (answering g.A.Answers.answers g.A.Plugs.unplugs g.A.Plugs.filled)} c.touches_follow.ensures c.points_follow.ensures c.halts_follow.ensures (record { keeps = g.met.A.Plugs.keeps; drops = g.met.A.Plugs.drops }) c.gone_laws.ensures in
    let now = c.loop-next.invariant.progress in
    let l = g.S.Source.left c.args.source.now in
    let left = g.S.Source.left c.next.new.source in
    let read = subst (λ (n : Next). ReadsNext n c.loop-next.commands c.next.new.self (g.S.Source.left c.loop-next.source) (g.S.Source.left c.next.new.source)) c.in-Last.is c.in-Ok.ensures.next in
    let gone = c.goings_follow.ensures.later c.args.outside.now c.loop-next.outside c.answer-in-Last.new.outside c.loop-next.invariant.goes_on c.answer-in-Last.ensures.goes_on in
    leaves-by c.answer-in-Last.result
    (λ x is.
    let done = IsDone-last laws now read (answered-stands now.answers (ok-at c.answer-in-Last.result _ x is c.answer-in-Last.ensures.answered)) in
    record {
      goes = record {
        at_most = TookAtMost-part now c.next.ensures.used c.next.ensures.still_within;
        any_moment = c.effects_follow.ensures.leaves c.args.outside.now.disk.now c.answer-in-Last.new.outside.disk.now c.args.kept.now.store.entries (g.K.Sink.holds c.args.outside.now.sink.now) (g.K.Sink.holds c.answer-in-Last.new.outside.sink.now) done.out.0 done.out.1;
        later = gone.later;
        touched = done.touched;
      };
      read = done.read;
      answered = done.answered;
      short = done.short;
      rests = c.effects_follow.ensures.rests c.args.outside.now.disk.now c.answer-in-Last.new.outside.disk.now c.args.kept.now.store.entries (g.K.Sink.holds c.args.outside.now.sink.now) (g.K.Sink.holds c.answer-in-Last.new.outside.sink.now) done.out.0 done.out.1;
      shuts = done.out.1.adds.shut;
    })
    (λ why was.
    let halted = halted-stands now.answers (err-at c.answer-in-Last.result _ why was c.answer-in-Last.ensures.halted) in
    let cause = err-at c.answer-in-Last.result _ why was c.answer-in-Last.ensures.cause in
    let stop = stops-all laws now.answers halted in
    record {
      goes = record {
        at_most = TookAtMost-part now c.next.ensures.used c.next.ensures.still_within;
        any_moment = c.effects_follow.ensures.stop_leaves c.args.outside.now.disk.now c.answer-in-Last.new.outside.disk.now c.args.kept.now.store.entries (g.K.Sink.holds c.args.outside.now.sink.now) (g.K.Sink.holds c.answer-in-Last.new.outside.sink.now) why [] stop.0 stop.1;
        later = gone.later;
        touched = touched-halted laws now.answers halted;
      };
      stops = λ not_source not_long. begins-on g.D.Disk (answering g.A.Answers.answers g.A.Plugs.unplugs g.A.Plugs.filled) (given g.Q.Questions.told (g.A.Plugs.filled c.args.outside.now.answers.now)) c.args.outside.now.answers.now (standing c.args.outside.now.disk.now (g.K.Sink.holds c.args.outside.now.sink.now) (around (g.C.Chooser.choices c.args.outside.now.chooser.now) c.args.outside.now.answers.now c.args.outside.now.steps.now)) (standing c.answer-in-Last.new.outside.disk.now (g.K.Sink.holds c.answer-in-Last.new.outside.sink.now) (around (g.C.Chooser.choices c.answer-in-Last.new.outside.chooser.now) c.answer-in-Last.new.outside.answers.now c.answer-in-Last.new.outside.steps.now)) c.args.kept.now.store why l left (BeginsText-last laws now read halted);
      blames = λ at is. blames-first now.answers (found-stands now.answers (err-at c.answer-in-Last.result _ (halt.Differs at) (was ∙ ap (λ (x : Halt). Err x) is) c.answer-in-Last.ensures.blames));
      finds = λ at is.
          finds-on g.D.Disk (answering g.A.Answers.answers g.A.Plugs.unplugs g.A.Plugs.filled) (given g.Q.Questions.told (g.A.Plugs.filled c.args.outside.now.answers.now)) c.args.outside.now.answers.now (standing c.args.outside.now.disk.now (g.K.Sink.holds c.args.outside.now.sink.now) (around (g.C.Chooser.choices c.args.outside.now.chooser.now) c.args.outside.now.answers.now c.args.outside.now.steps.now)) (standing c.answer-in-Last.new.outside.disk.now (g.K.Sink.holds c.answer-in-Last.new.outside.sink.now) (around (g.C.Chooser.choices c.answer-in-Last.new.outside.chooser.now) c.answer-in-Last.new.outside.answers.now c.answer-in-Last.new.outside.steps.now)) c.args.kept.now.store l left
          (FindsOut-last now read (found-stands now.answers (err-at c.answer-in-Last.result _ (halt.Differs at) (was ∙ ap (λ (x : Halt). Err x) is) c.answer-in-Last.ensures.blames)));
      early = λ is. absurd (never-source why _ _ _ _ cause is);
      long = λ is. absurd (never-long why _ _ _ _ cause is);
      taken = λ which. elim which [
        | inl is ↦ absurd (never-source why _ _ _ _ cause is)
        | inr is ↦ absurd (never-long why _ _ _ _ cause is)
      ];
      still_rests = c.effects_follow.ensures.stop_rests c.args.outside.now.disk.now c.answer-in-Last.new.outside.disk.now c.args.kept.now.store.entries (g.K.Sink.holds c.args.outside.now.sink.now) (g.K.Sink.holds c.answer-in-Last.new.outside.sink.now) why [] stop.0 stop.1;
      still_shuts = c.effects_follow.ensures.stop_shuts c.args.outside.now.disk.now c.answer-in-Last.new.outside.disk.now c.args.kept.now.store.entries (g.K.Sink.holds c.args.outside.now.sink.now) (g.K.Sink.holds c.answer-in-Last.new.outside.sink.now) why [] stop.0 stop.1;
      source = λ is. absurd (never-source why _ _ _ _ cause is);
      sink = λ is. c.causes_follow.ensures.cause halt.Sink _ _ _ _ _ _ c.loop-next.invariant.goes_on.later.never_falls c.answer-in-Last.ensures.goes_on.later.never_falls c.loop-next.invariant.goes_on.faults c.answer-in-Last.ensures.goes_on.faults (err-at c.answer-in-Last.result _ halt.Sink (was ∙ ap (λ (x : Halt). Err x) is) c.answer-in-Last.ensures.cause);
      disk = λ is. c.causes_follow.ensures.cause halt.Disk _ _ _ _ _ _ c.loop-next.invariant.goes_on.later.never_falls c.answer-in-Last.ensures.goes_on.later.never_falls c.loop-next.invariant.goes_on.faults c.answer-in-Last.ensures.goes_on.faults (err-at c.answer-in-Last.result _ halt.Disk (was ∙ ap (λ (x : Halt). Err x) is) c.answer-in-Last.ensures.cause);
      full = λ log payload is. err-at c.answer-in-Last.result _ (halt.Full log payload) (was ∙ ap (λ (x : Halt). Err x) is) c.answer-in-Last.ensures.cause;
    })

-- the text ended behind a whole part
pub returns-in-End-clause-leaves : goal.returns-in-End-clause-leaves
returns-in-End-clause-leaves g c =
    let laws = laws-of {who = (answering g.A.Answers.answers g.A.Plugs.unplugs g.A.Plugs.filled)} c.touches_follow.ensures c.points_follow.ensures c.halts_follow.ensures (record { keeps = g.met.A.Plugs.keeps; drops = g.met.A.Plugs.drops }) c.gone_laws.ensures in
    let now = c.loop-next.invariant.progress in
    let did = now.answers.answered in
    let read = subst (λ (n : Next). ReadsNext n c.loop-next.commands c.next.new.self (g.S.Source.left c.loop-next.source) (g.S.Source.left c.next.new.source)) c.in-End.is c.in-Ok.ensures.next in
    let done = IsDone-end laws now read in
    leaves-done _ (record {
      goes = record {
        at_most = TookAtMost-part now c.next.ensures.used c.next.ensures.still_within;
        any_moment = c.effects_follow.ensures.leaves c.args.outside.now.disk.now c.loop-next.outside.disk.now c.args.kept.now.store.entries (g.K.Sink.holds c.args.outside.now.sink.now) (g.K.Sink.holds c.loop-next.outside.sink.now) did.effects did.carries.out;
        later = c.loop-next.invariant.goes_on.later;
        touched = touched-before laws now.answers;
      };
      read = done.read;
      answered = done.answered;
      short = done.short;
      rests = c.effects_follow.ensures.rests c.args.outside.now.disk.now c.loop-next.outside.disk.now c.args.kept.now.store.entries (g.K.Sink.holds c.args.outside.now.sink.now) (g.K.Sink.holds c.loop-next.outside.sink.now) did.effects did.carries.out;
      shuts = did.carries.out.adds.shut;
    })

pub returns-in_err-answer-in-More-clause-same : goal.returns-in_err-answer-in-More-clause-same
returns-in_err-answer-in-More-clause-same g c = (c.goings_follow.ensures.later c.args.outside.now c.loop-next.outside c.answer.new.outside c.loop-next.invariant.goes_on c.answer.ensures.goes_on).same

pub returns-in-Last-clause-same : goal.returns-in-Last-clause-same
returns-in-Last-clause-same g c = (c.goings_follow.ensures.later c.args.outside.now c.loop-next.outside c.answer-in-Last.new.outside c.loop-next.invariant.goes_on c.answer-in-Last.ensures.goes_on).same
