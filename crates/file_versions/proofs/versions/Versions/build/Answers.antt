use Rattle.std.proofs.Common.{◌≡◌, ◌++◌, [], List, drop, append-nil, ◌∙◌, ap, sym}
use Rattle.std.proofs.lemmas.List.{drop_all}
use Rattle.arn_base.specs.declared.records.Record.{Record}
use Rattle.file_versions.specs.Tables.{file_until, named_until, names_in, writes_in}
use Rattle.file_versions.proofs.Happened.{tells-files}
use Rattle.file_versions.proofs.versions.Versions.build.Goals as goal

pub returns : goal.returns
returns c =
    let done : drop c.loop-entry.entry-index c.args.entries.now ≡ [] = drop_all c.loop-entry.entry-index c.args.entries.now c.loop-entry-test.false in
    let i = c.loop-entry.invariant in
    record {
      ok =
          tells-files c.loop-entry.versions c.args.entries.now c.requires.countable.short i.total
          (λ m name. ap (λ (es : List Record). named_until m name (names_in c.loop-entry.before es) (file_until m name c.loop-entry.versions.names)) (sym done) ∙ i.names m name)
          (sym (append-nil c.loop-entry.versions.writes) ∙ ap (λ (es : List Record). c.loop-entry.versions.writes ++ writes_in c.loop-entry.before es) (sym done) ∙ i.writes);
    }
