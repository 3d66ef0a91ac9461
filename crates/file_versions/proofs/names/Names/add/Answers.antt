use Rattle.std.proofs.Common.{◌≡◌, ℕ, [], ◌∷◌, ◌++◌, List, None, bytes_eq, ap, sym, ◌∙◌}
use Rattle.std.specs.Borrow.{Bor}
use Rattle.std.specs.Global.{Vec}
use Rattle.std.specs.Map.{lookup}
use Rattle.indexmap.proofs.CallerLemmas.{insert_entry-new}
use Rattle.file_versions.specs.declared.names.Change.{Change}
use Rattle.file_versions.specs.Kept.{names_of}
use Rattle.file_versions.specs.Tables.{NameAt, NameChanges, file_until, name_after}
use Rattle.file_versions.proofs.Named.{file_until-push, file_until-set, is_name}
use Rattle.file_versions.proofs.names.Names.add.Goals as goal
use Rattle.file_versions.proofs.names.Names.add.Goals.{in-Some-1, in-None-1}

pub returns-in_ok-push-in-Some : goal.returns-in_ok-push-in-Some
returns-in_ok-push-in-Some c m name =
    let es : List (Bor (List ℕ) × Vec Change) = c.self.inside.changes.entries in
    let change : Change = record { moment = c.naming.inside.moment; file = c.naming.inside.file } in
    let longer = c.push.new.self in
    ap (λ (es : List (Bor (List ℕ) × Vec Change)). file_until m name (names_of es)) (c.get_mut.follows.holds longer).0
    ∙ file_until-set m name c.naming.inside.path.now change es c.in-Some.changes.now longer (sym c.in-Some.ensures.value) c.in_ok-push-in-Some.ensures.items
    ∙ ap (λ (n : NameAt). name_after m name n (file_until m name (names_of es))) c.naming.view_is
    ∙ ap (λ (names : List NameChanges). name_after m name c.args.naming.now (file_until m name names)) c.self.view_is

pub returns-in_ok-insert-in-None : goal.returns-in_ok-insert-in-None
returns-in_ok-insert-in-None c m name =
    let es : List (Bor (List ℕ) × Vec Change) = c.self.inside.changes.entries in
    let key = c.naming.inside.path in
    let change : Change = record { moment = c.naming.inside.moment; file = c.naming.inside.file } in
    let first = c.in_ok-changes-in-None.changes in
    let none : lookup (is_name key.now) es ≡ None = sym c.in-None.ensures.value in
    let kept = c.get_mut.follows.lender-at-none in
    let same : kept.entries ≡ es = ap (λ map. map.entries) c.get_mut.follows.holds-at-none in
    let nowhere : lookup (is_name key.now) kept.entries ≡ None = ap (lookup (is_name key.now)) same ∙ none in
    let pushed =
    ap (λ (es : List (Bor (List ℕ) × Vec Change)). file_until m name (names_of es)) (c.in_ok-insert-in-None.ensures.entries ∙ insert_entry-new (λ x y. bytes_eq x.now y.now) kept key first nowhere ∙ ap (λ (es : List (Bor (List ℕ) × Vec Change)). es ++ (key, first) ∷ []) same)
    ∙ file_until-push m name key change es first none c.in_ok-changes-in-None.ensures.items
    ∙ ap (λ (n : NameAt). name_after m name n (file_until m name (names_of es))) c.naming.view_is
    ∙ ap (λ (names : List NameChanges). name_after m name c.args.naming.now (file_until m name names)) c.self.view_is in
    elim c.match-branch-4.branch [
      | in-Some-1 w ↦ ap (λ (names : List NameChanges). file_until m name names) w.self-is ∙ pushed
      | in-None-1 w ↦ ap (λ (names : List NameChanges). file_until m name names) w.self-is ∙ pushed
    ]
