use Rattle.std.proofs.Common.{◌∙◌, List, sym, ap, subst, arith}
use Rattle.std.specs.List.Sorted.{IsNonDecreasingBy}
use Rattle.guest_files.specs.declared.runs.Run.{Run}
use Rattle.guest_files.specs.Runs.{count_before, count_until}
use Rattle.guest_files.proofs.Counts.{AreRuns-sorted, counts-in_order}
use Rattle.guest_files.proofs.runs.lay.Goals as goal

pub count_before-first-requires : goal.count_before-first-requires
count_before-first-requires c =
    subst (λ (rs : List Run). IsNonDecreasingBy (λ (r : Run). r.start) rs) (sym (c.as_slice-2.ensures.value ∙ c.in_ok-reserve.ensures.items))
    (AreRuns-sorted 0 c.args.runs.now.items c.args.end c.requires.runs)

pub count_until-last-requires : goal.count_until-last-requires
count_until-last-requires c =
    subst (λ (rs : List Run). IsNonDecreasingBy (λ (r : Run). r.start) rs) (sym (c.as_slice-3.ensures.value ∙ c.in_ok-reserve.ensures.items))
    (AreRuns-sorted 0 c.args.runs.now.items c.args.end c.requires.runs)

pub replace-requires-clause-order : goal.replace-requires-clause-order
replace-requires-clause-order c =
    let items : List Run = c.args.runs.now.items in
    let first = c.count_before-first.ensures.count ∙ ap (count_before c.args.new.start) (c.as_slice-2.ensures.value ∙ c.in_ok-reserve.ensures.items) in
    let last = c.count_until-last.ensures.count ∙ ap (count_until c.args.place) (c.as_slice-3.ensures.value ∙ c.in_ok-reserve.ensures.items) in
    omega (arith, first, last, counts-in_order c.args.new.start c.args.place items (omega (arith, c.requires.order)))
