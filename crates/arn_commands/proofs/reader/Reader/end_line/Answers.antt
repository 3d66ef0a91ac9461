-- The bytes ahead up to the first LF, or all of them, are moved.
use Rattle.std.proofs.Common.{List, ℕ, ◌+◌, ◌-◌, take, drop, ap, sym, ◌∙◌, arith, length-take}
use Rattle.arn_commands.specs.Reader.{ReaderState}
use Rattle.arn_commands.proofs.ReaderLemmas.{ahead_after, none_ahead, MovesLine-feed, MovesLine-all}
use Rattle.arn_commands.proofs.reader.Reader.end_line.Goals as goal

pub returns-in_ok-keep-in-Some-clause-ok : goal.returns-in_ok-keep-in-Some-clause-ok
returns-in_ok-keep-in-Some-clause-ok c =
    let r = c.self.inside in
    let slice = c.as_slice.result.now in
    let value = c.as_slice.ensures.value in
    MovesLine-feed _ _ _ _ (take (r.to - r.from) (drop r.from slice)) c.in-Some.len (ap (λ (s : ReaderState). s.ahead) (sym c.self.view_is) ∙ ap (λ (x : List ℕ). take (r.to - r.from) (drop r.from x)) (sym value)) c.in-Some.ensures.0 c.in-Some.ensures.1 c.in_ok-keep-in-Some.ensures.kept (ahead_after r.chunk.items r.from r.to (c.in-Some.len + 1) (omega (arith, c.in-Some.ensures.0.high, length-take (r.to - r.from) (drop r.from slice))) ∙ ap (λ (x : List ℕ). drop (c.in-Some.len + 1) (take (r.to - r.from) (drop r.from x))) (sym value))

pub returns-in_ok-keep-in-None-clause-ok : goal.returns-in_ok-keep-in-None-clause-ok
returns-in_ok-keep-in-None-clause-ok c =
    let r = c.self.inside in
    let slice = c.as_slice.result.now in
    let value = c.as_slice.ensures.value in
    MovesLine-all _ _ _ _ (take (r.to - r.from) (drop r.from slice)) (ap (λ (s : ReaderState). s.ahead) (sym c.self.view_is) ∙ ap (λ (x : List ℕ). take (r.to - r.from) (drop r.from x)) (sym value)) c.in-None.ensures c.in_ok-keep-in-None.ensures.kept (none_ahead r.chunk.items r.to)
