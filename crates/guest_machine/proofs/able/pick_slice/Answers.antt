use Rattle.std.proofs.Common.{◌≡◌, ◌<◌, ◌≤◌, ◌%◌, ◌∙◌, ℕ, Some, true, min, max, slice_get, refl, sym, ap, arith}
use Rattle.parts_model.specs.declared.limits.TheConstants.{MOST_SLICE}
use Rattle.arn_model.specs.Turn.{runnable}
use Rattle.guest_machine.specs.Recorded.{OfEach}
use Rattle.guest_machine.proofs.AbleLemmas.{able-some, able-there, found-able, picked-by}
use Rattle.guest_machine.proofs.SliceLemmas.{possible-all}
use Rattle.guest_machine.proofs.able.pick_slice.Goals as goal

pub nonzero_rem-choice : goal.nonzero_rem-choice
nonzero_rem-choice g c = able-some c.args.kernel.now c.args.able.now.count c.requires.real c.requires.can (λ m stands. (c.requires.able m stands).counted)

pub unreachable-requires : goal.unreachable-requires
unreachable-requires g c =
    let some = able-some c.args.kernel.now c.args.able.now.count c.requires.real c.requires.can (λ m stands. (c.requires.able m stands).counted) in
    able-there c.args.kernel.now c.args.able.now.count c.choose-choice.result.index c.requires.real some (λ m stands. (c.requires.able m stands).counted) (λ m stands. sym c.in-None.is ∙ c.process_at.ensures m stands)

pub returns-clause-picked : goal.returns-clause-picked
returns-clause-picked g c =
    let few : c.min-count.result ≡ min (min (max c.choose-choice.result.count 1) MOST_SLICE) c.args.left =
    c.min-count.ensures ∙ ap (λ (n : ℕ). min n c.args.left) (c.min.ensures ∙ ap (λ (n : ℕ). min n MOST_SLICE) (c.from.ensures ∙ c.max.ensures)) in
    picked-by c.args.kernel.now (g.C.Chooser.choices c.args.chooser.now 0) c.choose-choice.result c.args.left c.args.able.now.count c.in-Some.pid c.min-count.result c.choose-choice.ensures.choice (λ m stands. (c.requires.able m stands).counted) (λ m stands. sym c.in-Some.is ∙ c.process_at.ensures m stands) few

pub returns-clause-possible : goal.returns-clause-possible
returns-clause-possible g c =
    let pid = c.in-Some.pid in
    let found : OfEach c.args.kernel.now (λ m. Some pid ≡ slice_get (runnable m) (c.choose-choice.result.index % c.args.able.now.count)) = λ m stands. sym c.in-Some.is ∙ c.process_at.ensures m stands in
    let able = found-able c.args.kernel.now (c.choose-choice.result.index % c.args.able.now.count) pid found in
    let some : 0 < c.min-count.result = omega (arith, c.min-count.ensures, c.min.ensures, c.from.ensures, c.max.ensures, c.requires.left) in
    let few : c.min-count.result ≤ MOST_SLICE = omega (arith, c.min-count.ensures, c.min.ensures) in
    possible-all c.args.kernel.now pid true (λ m stands. sym (able m stands)) refl c.min-count.result some few
