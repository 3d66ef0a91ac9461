use Rattle.std.proofs.Common.{List, None, ap, sym, ◌∙◌}
use Rattle.file_versions.specs.declared.names.Change.{Change}
use Rattle.file_versions.specs.Tables.{NameChanges, file_after, file_until}
use Rattle.file_versions.proofs.Named.{file_until-found, file_until-none}
use Rattle.file_versions.proofs.names.Names.find.Goals as goal

pub returns-in_err-changes : goal.returns-in_err-changes
returns-in_err-changes c =
    let m = c.args.moment in
    let name = c.args.name.now in
    c.from_residual.ensures
    ∙ sym (file_until-none m name c.self.inside.changes.entries (sym c.in_err-changes.ensures.value))
    ∙ ap (λ (names : List NameChanges). file_until m name names) c.self.view_is

pub returns : goal.returns
returns c =
    let m = c.args.moment in
    let name = c.args.name.now in
    c.last_file.ensures
    ∙ ap (λ (changes : List Change). file_after m changes None) c.as_slice.ensures.value
    ∙ sym (file_until-found m name c.self.inside.changes.entries c.in_ok-changes.changes.now (sym c.in_ok-changes.ensures.value))
    ∙ ap (λ (names : List NameChanges). file_until m name names) c.self.view_is
