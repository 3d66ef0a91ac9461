use Rattle.std.proofs.Common.{rules}
use Rattle.std.proofs.lemmas.List.Sorted.{answers_always}
use Rattle.taint_state.specs.declared.heard.HeardEvent.{HeardEvent}
use Rattle.taint_state.proofs.Ordered.{searched}
use Rattle.taint_state.proofs.heard.HeardEvents.search.Goals as goal

pub returns : goal.returns
returns c =
    let facts = c.binary_search_by_key.ensures in
    let ended = facts.position (λ (heard : HeardEvent). heard.event) (answers_always _ _ _ (λ f a r g called. search rules)) in
    let ends = searched _ (rw c.deref.ensures.value c.self.invariant) c.args.event _ facts.bound ended in
    rw (← c.self.view_is, ← c.deref.ensures.value) (record { found = ends.found; missing = ends.missing })
