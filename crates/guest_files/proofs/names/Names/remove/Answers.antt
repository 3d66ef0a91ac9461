use Rattle.std.proofs.Common.{List, sym, ap, ◌∙◌}
use Rattle.parts_model.specs.Files.{Name, file_among, without_name}
use Rattle.guest_files.specs.Table.{names_of}
use Rattle.guest_files.proofs.NameForms.{is_path, lookup-names_of, names_of-remove_entry}
use Rattle.std.specs.Map.{lookup}
use Rattle.guest_files.proofs.names.Names.remove.Goals as goal

pub returns-clause-found : goal.returns-clause-found
returns-clause-found c =
    c.shift_remove.ensures.value ∙ lookup-names_of c.args.path.now c.self.inside.entries.entries
    ∙ ap (λ (names : List Name). file_among names c.args.path.now) c.self.view_is

pub returns-clause-rest : goal.returns-clause-rest
returns-clause-rest c =
    let path = c.args.path.now in
    let entries = c.shift_remove.ensures.entries in
    let gone = c.shift_remove.ensures.updates.1 in
    ap names_of entries
    ∙ names_of-remove_entry path c.self.inside.entries.entries (ap (lookup (is_path path)) (sym entries) ∙ gone)
    ∙ ap (λ (names : List Name). without_name names path) c.self.view_is
