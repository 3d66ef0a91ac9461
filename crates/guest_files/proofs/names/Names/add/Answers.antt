use Rattle.std.proofs.Common.{ℕ, List, ◌++◌, ◌∷◌, [], ap, ◌∙◌}
use Rattle.indexmap.proofs.CallerLemmas.{insert_entry-new}
use Rattle.std.specs.Str.{bytes_eq}
use Rattle.parts_model.specs.Files.{Name, file_among}
use Rattle.guest_files.specs.Table.{names_of}
use Rattle.guest_files.proofs.NameForms.{lookup-names_of, names_of-push}
use Rattle.guest_files.proofs.names.Names.add.Goals as goal

pub returns-clause-ok : goal.returns-clause-ok
returns-clause-ok c =
    let old = c.self.inside.entries in
    let path = c.args.path.now in
    let key = c.in_ok-path.path in
    let none = lookup-names_of key.items old.entries ∙ ap (λ (bytes : List ℕ). file_among (names_of old.entries) bytes) c.in_ok-path.ensures.items ∙ ap (λ (names : List Name). file_among names path) c.self.view_is ∙ c.requires in
    ap names_of (c.in_ok-insert.ensures.entries ∙ insert_entry-new (λ x y. bytes_eq x.items y.items) old key c.args.file none)
    ∙ names_of-push old.entries (key, c.args.file)
    ∙ ap (λ (bytes : List ℕ). names_of old.entries ++ record { path = bytes; file = c.args.file } ∷ []) c.in_ok-path.ensures.items
    ∙ ap (λ (names : List Name). names ++ record { path = path; file = c.args.file } ∷ []) c.self.view_is
