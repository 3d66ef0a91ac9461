use Rattle.std.proofs.Common.{ℕ, List, Option, IfSome, IsSome, sym, ap, subst, ◌∙◌}
use Rattle.parts_model.specs.Files.{Name}
use Rattle.parts_model.specs.Numbered.{nth}
use Rattle.guest_files.proofs.FileForms.{files_of, without_name-absent, IsSound-unnamed}
use Rattle.guest_files.proofs.Numbers.{file_among-there}
use Rattle.guest_files.proofs.files.Files.unlink.Goals as goal

pub invariant_of-self : goal.invariant_of-self
invariant_of-self c = IsSound-unnamed _ _ _ _ c.args.path.now c.remove.ensures.rest c.self.invariant

pub drop_unreached-requires : goal.drop_unreached-requires
drop_unreached-requires c =
    let inside = c.self.inside in
    subst (λ (o : Option ℕ). IfSome o (λ file. IsSome (nth inside.all.items file))) (sym c.remove.ensures.found ∙ c.in-Some.is) (file_among-there inside.all.items c.args.path.now inside.names c.self.invariant.named)

pub invariant_of-self-in-None : goal.invariant_of-self-in-None
invariant_of-self-in-None c = IsSound-unnamed _ _ _ _ c.args.path.now c.remove.ensures.rest c.self.invariant

pub returns-in-None-clause-err : goal.returns-in-None-clause-err
returns-in-None-clause-err c =
    let inside = c.self.inside in
    ap (λ (names : List Name). files_of inside.all.items names) (c.remove.ensures.rest ∙ without_name-absent inside.names c.args.path.now (sym c.remove.ensures.found ∙ c.in-None.is))
    ∙ c.self.view_is
