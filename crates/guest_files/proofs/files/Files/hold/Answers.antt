use Rattle.std.proofs.Common.{IsSome, sym, ap, subst, ◌∙◌, true≢false, is_some}
use Rattle.parts_model.specs.Files.{Files}
use Rattle.parts_model.specs.Numbered.{nth}
use Rattle.guest_files.specs.Table.{IsSound, IsThere}
use Rattle.guest_files.proofs.FileForms.{seen, held-put, IsSound-put}
use Rattle.guest_files.proofs.Numbers.{nth-get_or}
use Rattle.guest_files.proofs.files.Files.hold.Goals as goal
use Rattle.guest_files.proofs.files.Files.hold.Goals.{in-Some, in_default}

pub invariant_of-self : goal.invariant_of-self
invariant_of-self c =
    let inside = c.self.inside in
    let there : IsSome (nth inside.all.items c.args.file) = subst (λ (fs : Files). IsThere fs c.args.file) (sym c.self.view_is) c.requires.there in
    let slot = nth-get_or inside.all.items c.args.file c.index_mut.result.now there c.index_mut.ensures.value in
    elim c.match-index_mut.branch [
      | in-Some w ↦ subst (λ i. IsSound (seen i) i.present) (sym w.self-inside-is) (IsSound-put inside.all.items inside.names inside.present c.args.file w.hold.new.self there c.self.invariant)
      | in_default w ↦ absurd (true≢false (sym there ∙ ap is_some (slot ∙ w.in_default.is)))
    ]

pub returns : goal.returns
returns c =
    let inside = c.self.inside in
    let there : IsSome (nth inside.all.items c.args.file) = subst (λ (fs : Files). IsThere fs c.args.file) (sym c.self.view_is) c.requires.there in
    let slot = nth-get_or inside.all.items c.args.file c.index_mut.result.now there c.index_mut.ensures.value in
    elim c.match-index_mut.branch [
      | in-Some w ↦ held-put _ _ inside.all.items inside.names c.args.file w.in-Some.content w.hold.new.self c.self.view_is (ap seen w.self-inside-is) (slot ∙ w.in-Some.is) w.hold.ensures
      | in_default w ↦ absurd (true≢false (sym there ∙ ap is_some (slot ∙ w.in_default.is)))
    ]
