use Rattle.std.proofs.Common.{List, Option, length, ap, ap₂, subst, sym, ◌++◌, ◌∷◌, [], Some, ◌∙◌, arith}
use Rattle.parts_model.specs.Files.{File, Files, Name, find_file}
use Rattle.guest_files.specs.Table.{IsSound}
use Rattle.guest_files.proofs.FileForms.{IsSound-made, files_of, made-new, no-ok, not-ok, on-err}
use Rattle.guest_files.proofs.files.Files.insert.Goals as goal

pub invariant_of-self-2 : goal.invariant_of-self-2
invariant_of-self-2 c =
    IsSound-made c.self.inside.all.items _ _ _ _ _ c.args.path.now c.args.content
    (c.push_reserved.ensures.items ∙ ap (λ (all : List (Option File)). all ++ Some c.args.content ∷ []) c.in_ok-reserve.ensures.items)
    c.in_ok-add.ensures.ok (omega (arith, c.len-number.ensures)) c.self.invariant

pub invariant_of-self : goal.invariant_of-self
invariant_of-self c = subst (λ (all : List (Option File)). IsSound (files_of all c.self.inside.names) c.self.inside.present) (sym c.in_err-reserve.ensures.items) c.self.invariant

pub returns-in_err-reserve-clause-made : goal.returns-in_err-reserve-clause-made
returns-in_err-reserve-clause-made c = not-ok _ c.from_residual.result c.from_residual.ensures.0

pub returns-in_err-reserve-clause-number : goal.returns-in_err-reserve-clause-number
returns-in_err-reserve-clause-number c = no-ok _ c.from_residual.result c.from_residual.ensures.0

pub returns-in_err-reserve-clause-err : goal.returns-in_err-reserve-clause-err
returns-in_err-reserve-clause-err c =
    on-err c.from_residual.result (ap (λ (all : List (Option File)). files_of all c.self.inside.names) c.in_err-reserve.ensures.items ∙ c.self.view_is)

pub add-requires : goal.add-requires
add-requires c = ap (λ (files : Files). find_file files c.args.path.now) c.self.view_is ∙ c.requires.free

pub invariant_of-self-in_err-add : goal.invariant_of-self-in_err-add
invariant_of-self-in_err-add c =
    subst (λ (all : List (Option File)). IsSound (files_of all c.add.new.self) c.self.inside.present) (sym c.in_ok-reserve.ensures.items)
    (subst (λ (names : List Name). IsSound (files_of c.self.inside.all.items names) c.self.inside.present) (sym c.in_err-add.ensures.err) c.self.invariant)

pub returns-in_err-add-clause-made : goal.returns-in_err-add-clause-made
returns-in_err-add-clause-made c = not-ok _ c.from_residual-in_err-add.result c.from_residual-in_err-add.ensures.0

pub returns-in_err-add-clause-number : goal.returns-in_err-add-clause-number
returns-in_err-add-clause-number c = no-ok _ c.from_residual-in_err-add.result c.from_residual-in_err-add.ensures.0

pub returns-in_err-add-clause-err : goal.returns-in_err-add-clause-err
returns-in_err-add-clause-err c =
    on-err c.from_residual-in_err-add.result (ap₂ files_of c.in_ok-reserve.ensures.items c.in_err-add.ensures.err ∙ c.self.view_is)

pub returns-clause-made : goal.returns-clause-made
returns-clause-made c =
    made-new c.args.self.now c.self.inside.all.items c.push_reserved.new.self.items c.self.inside.names c.add.new.self c.len-number.result c.args.path.now c.args.content c.self.view_is
    (c.push_reserved.ensures.items ∙ ap (λ (all : List (Option File)). all ++ Some c.args.content ∷ []) c.in_ok-reserve.ensures.items)
    c.in_ok-add.ensures.ok (c.len-number.ensures ∙ c.self.inside.all.ok.0) c.requires.not_held

pub returns-clause-number : goal.returns-clause-number
returns-clause-number c = c.len-number.ensures ∙ (c.self.inside.all.ok.0 ∙ ap (λ (files : Files). length files.all) c.self.view_is)
