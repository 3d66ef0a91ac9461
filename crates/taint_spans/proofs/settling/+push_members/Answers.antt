use Rattle.std.proofs.Common.{◌≡◌, ◌<◌, ◌-◌, ◌+◌, ◌++◌, List, append_assoc, sym, ap, ◌∙◌, arith}
use Rattle.std.proofs.lemmas.List.{append-nil}
use Rattle.set_store.specs.declared.item.Item.{Item}
use Rattle.taint_sets.specs.Numbered.{members_of}
use Rattle.taint_spans.specs.Spans.{members_from}
use Rattle.taint_spans.proofs.Members.{from-last, from-none}
use Rattle.taint_spans.proofs.settling.+push_members.Goals as goal

pub returns-then-len-eq0 : goal.returns-then-len-eq0
returns-then-len-eq0 t c =
    let none : c.args.len ≡ 0 = omega (arith, c.if-len-eq0.true) in
    let items = c.args.items.now.items in
    sym (ap (λ l. items ++ l) (ap (members_from c.args.sets.now c.args.first) none ∙ from-none c.args.sets.now c.args.first) ∙ append-nil items)

more : (new mid got last items lower whole : List Item) → new ≡ mid ++ got → got ≡ last → mid ≡ items ++ lower → whole ≡ lower ++ last → new ≡ items ++ whole
more new mid got last items lower whole a b d e = a ∙ (ap (λ l. mid ++ l) b ∙ (ap (λ l. l ++ last) d ∙ (append_assoc items lower last ∙ ap (λ l. items ++ l) (sym e))))

pub returns : goal.returns
returns t c =
    let sets = c.args.sets.now in
    let some : 0 < c.args.len = omega (arith, c.if-len-eq0.false) in
    more c.extend_from_slice.new.self.items c.push_members.new.items.items c.as_slice.result.now (members_of sets (c.args.first + (c.args.len - 1))) c.args.items.now.items (members_from sets c.args.first (c.args.len - 1)) (members_from sets c.args.first c.args.len)
    c.in_ok-extend_from_slice.ensures.items (c.as_slice.ensures.value ∙ c.in_ok-last.ensures) c.in_ok-push_members.ensures (from-last sets c.args.first c.args.len some)
