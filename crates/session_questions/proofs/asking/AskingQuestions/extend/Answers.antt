-- An engine that has seen the first records has seen all.
use Rattle.std.proofs.Common.{drop, subst, take}
use Rattle.std.proofs.lemmas.List.{take-append-drop}
use Rattle.query_engine.specs.Engines.{HasSeen}
use Rattle.session_questions.proofs.asking.AskingQuestions.extend.Goals as goal

pub returns-in-Ok : goal.returns-in-Ok
returns-in-Ok c =
    let entries = c.args.entries.now in
    let from = c.args.from in
    let engine = c.args.self.now.engine in
    record {
      indexed = c.in-Ok.ensures.ok;
      seen = subst (λ records. HasSeen records engine) (take-append-drop from entries) (c.seen_stays.ensures engine (take from entries) (drop from entries) c.requires.known.seen);
      keeps = c.requires.known.keeps;
    }
