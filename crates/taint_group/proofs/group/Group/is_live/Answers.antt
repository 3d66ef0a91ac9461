use Rattle.std.proofs.Common.{◌<◌, length, is_some, sym, ap, ◌∙◌}
use Rattle.std.proofs.lemmas.Bool.{ltb-true}
use Rattle.parts_model.specs.Numbered.{nth}
use Rattle.taint_group.proofs.Turning.{nth-place}
use Rattle.taint_group.proofs.group.Group.is_live.Goals as goal

pub returns-in-Some-Some : goal.returns-in-Some-Some
returns-in-Some-Some c =
    let members = c.deref.result.now in
    let entry = c.in-Some-Some.field-0.now in
    let found = c.in-Some-Some.ensures.lookup in
    let below : c.args.pid < length members = ltb-true c.args.pid (length members) (sym found.0) in
    sym (ap is_some (ap (λ l. nth l c.args.pid) (sym c.deref.ensures.value) ∙ (nth-place members c.args.pid entry below ∙ (sym found.1 ∙ c.in-Some-Some.field-0-is))))
