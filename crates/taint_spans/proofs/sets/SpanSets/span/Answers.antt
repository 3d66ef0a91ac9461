use Rattle.std.proofs.Common.{◌≡◌, ◌-◌, [], Some, sym, ap, subst, ◌∙◌, arith}
use Rattle.taint_spans.specs.Numbered.{IsSet, IsSpanOf, first_span, members_of}
use Rattle.taint_spans.specs.Spans.{span_members}
use Rattle.taint_spans.proofs.Standing.{one-is, past-spans, plain-is, span-of, within-list}
use Rattle.taint_spans.proofs.sets.SpanSets.span.Goals as goal

pub at-requires : goal.at-requires
at-requires c =
    let inside = c.self.inside in
    let is = subst (λ sets. IsSet sets c.args.set) (sym c.self.view_is) c.requires in
    let found = span-of inside.sets inside.spans c.args.set (sym c.is_of_span.ensures ∙ c.if-is_of_span.true) is in
    within-list inside.spans (c.args.set - first_span) found.0 found.1

pub returns-then-is_of_span : goal.returns-then-is_of_span
returns-then-is_of_span c =
    let inside = c.self.inside in
    let is = subst (λ sets. IsSet sets c.args.set) (sym c.self.view_is) c.requires in
    let found = span-of inside.sets inside.spans c.args.set (sym c.is_of_span.ensures ∙ c.if-is_of_span.true) is in
    let one : Some found.0 ≡ Some c.at.result = sym found.1 ∙ c.at.ensures in
    let same : found.0 ≡ c.at.result = cc in
    subst (λ sets. IsSpanOf sets c.args.set c.at.result) c.self.view_is (record {
      is = c.self.invariant.are_spans (c.args.set - first_span) c.at.result c.at.ensures;
      members = found.2 ∙ ap (span_members inside.sets) same;
    })

pub returns-then-set-lt-FIRST_SPAN : goal.returns-then-set-lt-FIRST_SPAN
returns-then-set-lt-FIRST_SPAN c = plain-is c.args.self.now c.args.set (sym c.is_of_span.ensures ∙ c.if-is_of_span.false) c.requires (let fits = c.ranges.set.fits in omega (arith, fits))

pub returns-else-set-lt-FIRST_SPAN : goal.returns-else-set-lt-FIRST_SPAN
returns-else-set-lt-FIRST_SPAN c = one-is c.args.self.now c.args.set (past-spans c.args.set (sym c.is_of_span.ensures ∙ c.if-is_of_span.false) (omega (arith, c.if-set-lt-FIRST_SPAN.false))) (sym c.is_of_span.ensures ∙ c.if-is_of_span.false) c.requires (subst (IsSet c.args.self.now) c.empty.ensures.zero c.empty.ensures.set) (subst (λ n. members_of c.args.self.now n ≡ []) c.empty.ensures.zero c.empty.ensures.empty) (let fits = c.ranges.set.fits in omega (arith, fits))
