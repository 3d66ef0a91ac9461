use Rattle.std.proofs.Common.{◌+◌, ◌≤◌, ◌++◌, ◌∙◌, ℕ, List, length, max, take, drop, sym, ap, subst, arith}
use Rattle.arn_base.specs.declared.records.Src.{Src}
use Rattle.guest_files.specs.declared.runs.Run.{Run}
use Rattle.guest_files.specs.Runs.{AreRuns, first_bytes, source_at, sources_from, with_run}
use Rattle.guest_files.proofs.RunWrites.{laid-over, laid-runs}
use Rattle.guest_files.proofs.Sources.{length-sources_from}
use Rattle.guest_files.proofs.runs.Runs.lay.Goals as goal

pub invariant_of-self-2 : goal.invariant_of-self-2
invariant_of-self-2 c =
    let items : List Run = c.self.inside.all.items in
    let len : ℕ = c.self.inside.len in
    let stop : ℕ = c.args.place + c.args.count in
    let laid = c.in_ok-lay.ensures.laid ∙ ap (λ (r : Run). with_run items r stop len) c.new.ensures in
    let within : c.args.place ≤ len = omega (arith, c.requires.within, ap length c.self.view_is, length-sources_from (source_at items) 0 len) in
    subst (λ (n : ℕ). AreRuns 0 c.lay.new.runs.items n) (sym c.max-self-inside.ensures)
    (subst (λ (rs : List Run). AreRuns 0 rs (max len stop)) (sym laid) (laid-runs items c.args.event c.args.place c.args.count len c.self.invariant (omega (arith, c.if-count-eq0.false)) within))

pub returns-clause-laid : goal.returns-clause-laid
returns-clause-laid c =
    let items : List Run = c.self.inside.all.items in
    let len : ℕ = c.self.inside.len in
    let stop : ℕ = c.args.place + c.args.count in
    let laid = c.in_ok-lay.ensures.laid ∙ ap (λ (r : Run). with_run items r stop len) c.new.ensures in
    let within : c.args.place ≤ len = omega (arith, c.requires.within, ap length c.self.view_is, length-sources_from (source_at items) 0 len) in
    ap (λ (n : ℕ). sources_from (source_at c.lay.new.runs.items) 0 n) c.max-self-inside.ensures
    ∙ ap (λ (rs : List Run). sources_from (source_at rs) 0 (max len stop)) laid
    ∙ laid-over items c.args.event c.args.place c.args.count len c.self.invariant (omega (arith, c.if-count-eq0.false)) within
    ∙ ap (λ (ss : List Src). take c.args.place ss ++ first_bytes c.args.event c.args.count ++ drop stop ss) c.self.view_is
