use Rattle.std.proofs.Common.{List, ap, ◌∙◌}
use Rattle.parts_model.specs.Files.{Name, file_among}
use Rattle.guest_files.proofs.NameForms.{lookup-names_of}
use Rattle.guest_files.proofs.names.Names.find.Goals as goal

pub returns : goal.returns
returns c =
    c.copied.ensures ∙ c.get.ensures.value ∙ lookup-names_of c.args.path.now c.self.inside.entries.entries
    ∙ ap (λ (names : List Name). file_among names c.args.path.now) c.self.view_is
