use Rattle.std.proofs.Common.{List, ap, ◌∙◌}
use Rattle.parts_model.specs.Files.{Name, has_name}
use Rattle.guest_files.proofs.NameForms.{has_name-values}
use Rattle.guest_files.proofs.names.Names.has_file.Goals as goal

pub returns : goal.returns
returns c =
    c.is_among.ensures ∙ has_name-values c.args.file c.self.inside.entries.entries
    ∙ ap (λ (names : List Name). has_name names c.args.file) c.self.view_is
