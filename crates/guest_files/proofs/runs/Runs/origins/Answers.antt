use Rattle.std.proofs.Common.{◌≡◌, ◌-◌, ◌≤◌, ◌∙◌, ℕ, List, Result, Ok, Err, IfOk, length, take, drop, sym, ap, subst, arith}
use Rattle.std.specs.List.Sorted.{IsNonDecreasingBy}
use Rattle.arn_base.specs.declared.records.Origin.{Origin}
use Rattle.arn_base.specs.declared.records.Src.{Src}
use Rattle.parts_model.specs.Tagged.{origins_of}
use Rattle.guest_files.specs.declared.runs.Run.{Run}
use Rattle.guest_files.specs.Runs.{HaveBetween, count_until, origins_between, source_at}
use Rattle.guest_files.proofs.Counts.{AreRuns-sorted}
use Rattle.guest_files.proofs.RunReads.{read_from-have, read_from-origins}
use Rattle.guest_files.proofs.Sources.{length-sources_from}
use Rattle.guest_files.proofs.runs.Runs.origins.Goals as goal

IfOk-is : {E : Type 0} (r : Result (List Origin) E) (a b : List Origin) → a ≡ b → IfOk r (λ os. os ≡ a) → IfOk r (λ os. os ≡ b)
IfOk-is (Ok os) a b same is = is ∙ same
IfOk-is (Err e) a b same is = tt

pub count_until-requires : goal.count_until-requires
count_until-requires c =
    subst (λ (rs : List Run). IsNonDecreasingBy (λ (r : Run). r.start) rs) (sym c.as_slice.ensures.value)
    (AreRuns-sorted 0 c.self.inside.all.items c.self.inside.len c.self.invariant)

pub origins_between-requires : goal.origins_between-requires
origins_between-requires c =
    let items : List Run = c.self.inside.all.items in
    let len : ℕ = c.self.inside.len in
    let first = c.saturating_sub-first.ensures ∙ ap (λ (n : ℕ). n - 1) (c.count_until.ensures.count ∙ ap (count_until c.args.place) c.as_slice.ensures.value) in
    let within : c.args.end ≤ len = omega (arith, c.requires.within, ap length c.self.view_is, length-sources_from (source_at items) 0 len) in
    record { there = subst (λ (n : ℕ). HaveBetween (drop n items) c.args.place c.args.end) (sym first) (read_from-have items len c.args.place c.args.end c.self.invariant within) }

pub returns-clause-origins : goal.returns-clause-origins
returns-clause-origins c =
    let items : List Run = c.self.inside.all.items in
    let len : ℕ = c.self.inside.len in
    let first = c.saturating_sub-first.ensures ∙ ap (λ (n : ℕ). n - 1) (c.count_until.ensures.count ∙ ap (count_until c.args.place) c.as_slice.ensures.value) in
    let within : c.args.end ≤ len = omega (arith, c.requires.within, ap length c.self.view_is, length-sources_from (source_at items) 0 len) in
    IfOk-is c.origins_between.result _ _
    (ap (λ (n : ℕ). origins_between (drop n items) c.args.place c.args.end) first
    ∙ read_from-origins items len c.args.place c.args.end c.self.invariant c.requires.order within
    ∙ ap (λ (ss : List Src). origins_of (take (c.args.end - c.args.place) (drop c.args.place ss))) c.self.view_is)
    c.origins_between.ensures.origins
