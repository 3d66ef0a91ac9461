use Rattle.std.proofs.Common.{◌∙◌, Some, List, map, option_map, sym, subst, ap, All}
use Rattle.arn_base.specs.declared.records.Origin.{Origin}
use Rattle.parts_model.specs.declared.tagged.TaggedByte.{TaggedByte}
use Rattle.parts_model.specs.Tagged.{origins_of}
use Rattle.file_versions.specs.Cells.{IsCounted}
use Rattle.file_versions.specs.Tables.{file_until}
use Rattle.file_versions.proofs.Counted.{counted-held, version-told}
use Rattle.file_versions.proofs.versions.Versions.origins.Goals as goal

pub returns-clause-ok : goal.returns-clause-ok
returns-clause-ok c entries tells =
    let t = c.args.self.now in
    let items = c.in_ok-held.held.items in
    let runs : List TaggedByte → List Origin = λ held. origins_of (map (λ b. b.origin) held) in
    let counted = counted-held t c.args.moment (file_until c.args.moment c.args.path.now t.names) items tells.short c.in_ok-held.ensures.ok in
    ap (option_map runs) (version-told t entries c.args.moment c.args.path.now items tells c.in_ok-held.ensures.ok)
    ∙ ap (λ (held : List TaggedByte). Some (runs held)) (sym c.as_slice.ensures.value)
    ∙ ap (λ (origins : List Origin). Some origins) (sym (c.in_ok-origins.ensures (subst (All IsCounted) (sym c.as_slice.ensures.value) counted)))
