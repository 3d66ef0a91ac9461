use Rattle.std.proofs.Common.{◌+◌, ◌^◌, ◌≤◌, ◌∷◌, ◌++◌, [], ℕ, List, sym, subst, arith}
use Rattle.taint_sets.specs.declared.run.Run.{Run}
use Rattle.taint_sets.specs.Numbered.{AreReceivedFrom, StandAsBefore}
use Rattle.taint_sets.proofs.Standing.{run-received, runs-grown}
use Rattle.taint_sets.proofs.sets.ByteSets.receive.Goals as goal

pub returns-clause-received : goal.returns-clause-received
returns-clause-received c =
    let inside = c.self.inside in
    let run : Run = record { first = inside.next; len = c.in_ok-len.len; event = c.args.event; at = c.args.at } in
    let fits : inside.next + c.in_ok-len.len ≤ 2 ^ 32 = omega (arith, c.in-Some.ensures.0) in
    subst (λ (runs : List Run). AreReceivedFrom (record { kept = inside.kept; runs = runs }) c.args.event c.args.at c.args.len inside.next) (sym c.in_ok-push.ensures.items)
    (subst (λ (len : ℕ). AreReceivedFrom (record { kept = inside.kept; runs = inside.runs.items ++ run ∷ [] }) c.args.event c.args.at len inside.next) c.in_ok-len.ensures.0
    (run-received inside.kept inside.runs.items run c.self.invariant fits))

pub returns-clause-before : goal.returns-clause-before
returns-clause-before c =
    let inside = c.self.inside in
    let run : Run = record { first = inside.next; len = c.in_ok-len.len; event = c.args.event; at = c.args.at } in
    subst (λ (runs : List Run). StandAsBefore c.args.self.now (record { kept = inside.kept; runs = runs })) (sym c.in_ok-push.ensures.items)
    (subst (λ sets. StandAsBefore sets (record { kept = inside.kept; runs = inside.runs.items ++ run ∷ [] })) c.self.view_is (runs-grown inside.kept inside.runs.items run))
