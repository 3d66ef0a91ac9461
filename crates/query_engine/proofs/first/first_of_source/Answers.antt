use Rattle.std.proofs.Common.{ℕ, List, sym, subst}
use Rattle.query_model.specs.Forth.{first_groups}
use Rattle.query_engine.specs.Reached.{HaveSame}
use Rattle.query_engine.proofs.Takers.{with-own, without-own}
use Rattle.query_engine.proofs.first.first_of_source.Goals as goal
use Rattle.query_engine.proofs.first.first_of_source.Goals.{then-asked-gt0+in_ok-push_group, else-asked-gt0}

pub returns : goal.returns
returns c =
    let entries = c.args.entries.now in
    let told = c.laws_forth.ensures.first in
    let stands = c.requires.indexed.stands in
    let first = first_groups entries c.args.asked.event c.args.asked.from c.args.asked.len in
    elim c.if-asked-gt0.branch [
      | then-asked-gt0+in_ok-push_group w ↦ subst (λ (xs : List ℕ). HaveSame xs first) (sym w.groups-is)
          (with-own entries c.args.asked c.args.entry.now told stands c.requires.there c.requires.source w.event_group.result c.in_ok-groups.groups w.push_group.new.groups c.in_ok-groups.ensures w.in_ok-push_group.ensures (w.event_group.ensures entries c.requires.indexed) w.if-asked-gt0.true)
      | else-asked-gt0 w ↦ subst (λ (xs : List ℕ). HaveSame xs first) (sym w.groups-is)
          (without-own entries c.args.asked c.args.entry.now told stands c.requires.there c.requires.source c.in_ok-groups.groups c.in_ok-groups.ensures w.if-asked-gt0.false)
    ]
