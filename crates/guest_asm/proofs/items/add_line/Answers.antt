use Rattle.std.proofs.Common.{List, [], ◌∷◌, ◌++◌, map, refl, sym, subst}
use Rattle.std.specs.List.{AllZip}
use Rattle.std.proofs.lemmas.Slice.Zip.{all_zipped_more}
use Rattle.asm_text.specs.Characters.{statements}
use Rattle.guest_asm.specs.Kept.{KeepsItem}
use Rattle.guest_asm.specs.Parted.{left}
use Rattle.guest_asm.specs.declared.items.Item as kept_item
use Rattle.guest_asm.proofs.Itemizing.{item_more, item_on}
use Rattle.guest_asm.proofs.items.add_line.Goals as goal

pub loop-part-preserved : goal.loop-part-preserved
loop-part-preserved c = λ done keeps.
    let so_far = c.loop-part.invariant done keeps in
    let line = c.args.number in
    let text = c.trimmed.result.now in
    let kept : kept_item.Item = record { line = line; reading = c.read-reading.result } in
    let here : KeepsItem kept (item_on line text) = record { line = refl; reads = c.read-reading.ensures; text = (text, refl) } in (
      so_far.0 ++ item_on line text ∷ [],
      subst (λ (ks : List kept_item.Item). AllZip KeepsItem ks (so_far.0 ++ item_on line text ∷ [])) (sym c.in_ok-extend_from_slice.ensures.items)
          (all_zipped_more KeepsItem c.loop-part.kept.items so_far.0 kept (item_on line text) so_far.1 here),
      item_more line c.in-Some.part.now text (left c.loop-part.parts) (left c.next.new.self) so_far.0 (done ++ map (item_on line) (statements c.args.line.now)) c.in-Some.ensures.some c.trimmed.ensures so_far.2,
    )
