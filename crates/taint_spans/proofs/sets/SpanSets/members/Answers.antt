use Rattle.std.proofs.Common.{◌≡◌, ◌-◌, [], IfOk, List, sym, subst, ◌∙◌}
use Rattle.set_store.specs.declared.item.Item.{Item}
use Rattle.taint_spans.specs.Numbered.{Numbered, first_span, members_of}
use Rattle.taint_spans.specs.Sound.{lists_of}
use Rattle.taint_spans.proofs.Standing.{no-span, plain-members, numbered-members}
use Rattle.taint_spans.proofs.sets.SpanSets.members.Goals as goal

pub returns-then-not-is_of_span : goal.returns-then-not-is_of_span
returns-then-not-is_of_span c =
    let inside = c.self.inside in
    let all : Numbered = record { sets = inside.sets; spans = lists_of inside.sets inside.spans } in
    let same = plain-members all c.args.set (sym c.is_of_span.ensures ∙ c.if-not-is_of_span.true) in
    subst (λ sets. IfOk c.members.result (λ items. items.items ≡ members_of sets c.args.set)) c.self.view_is
    (subst (λ (l : List Item). IfOk c.members.result (λ items. items.items ≡ l)) (sym same) c.members.ensures)

pub members-requires-in-Some : goal.members-requires-in-Some
members-requires-in-Some c = c.self.invariant.are_spans (c.args.set - first_span) c.in-Some.span (sym c.in-Some.ensures)

pub returns-in-Some : goal.returns-in-Some
returns-in-Some c =
    let inside = c.self.inside in
    let same = numbered-members inside.sets inside.spans c.args.set c.in-Some.span (sym c.is_of_span.ensures ∙ c.if-not-is_of_span.false) (sym c.in-Some.ensures) in
    subst (λ sets. IfOk c.members-in-Some.result (λ items. items.items ≡ members_of sets c.args.set)) c.self.view_is
    (subst (λ (l : List Item). IfOk c.members-in-Some.result (λ items. items.items ≡ l)) (sym same) c.members-in-Some.ensures)

pub returns-in-None : goal.returns-in-None
returns-in-None c =
    let inside = c.self.inside in
    c.new.ensures.items ∙ sym (subst (λ sets. members_of sets c.args.set ≡ []) c.self.view_is (no-span inside.sets inside.spans c.args.set (sym c.is_of_span.ensures ∙ c.if-not-is_of_span.false) (sym c.in-None.ensures)))
