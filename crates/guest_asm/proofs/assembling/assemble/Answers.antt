use Rattle.std.proofs.Common.{sym, ap, ◌∙◌}
use Rattle.parts_model.specs.Image.{is_image}
use Rattle.guest_asm.specs.Assembled.{items, placed}
use Rattle.guest_asm.proofs.Accepting.{is_image-image_of_text}
use Rattle.guest_asm.proofs.Soundness.{sound, stands_placed}
use Rattle.guest_asm.proofs.assembling.assemble.Goals as goal

pub image-requires : goal.image-requires
image-requires c =
    let text = c.args.text.now in
    let stands = stands_placed c.in_ok-layout.layout c.in_ok-known.known text c.in_ok-items.items.items c.as_slice.result.now c.as_slice-2.result.now c.as_slice.ensures.value c.as_slice-2.ensures.value c.in_ok-items.ensures c.in_ok-known.ensures c.in_ok-layout.ensures in
    (placed text, stands, sound (items text) (sym (c.in-None.ensures (placed text) stands)))

pub returns-clause-faultless : goal.returns-clause-faultless
returns-clause-faultless c =
    let text = c.args.text.now in
    let stands = stands_placed c.in_ok-layout.layout c.in_ok-known.known text c.in_ok-items.items.items c.as_slice.result.now c.as_slice-2.result.now c.as_slice.ensures.value c.as_slice-2.ensures.value c.in_ok-items.ensures c.in_ok-known.ensures c.in_ok-layout.ensures in
    sym (c.in-None.ensures (placed text) stands)

pub returns-clause-image : goal.returns-clause-image
returns-clause-image c =
    let text = c.args.text.now in
    let stands = stands_placed c.in_ok-layout.layout c.in_ok-known.known text c.in_ok-items.items.items c.as_slice.result.now c.as_slice-2.result.now c.as_slice.ensures.value c.as_slice-2.ensures.value c.in_ok-items.ensures c.in_ok-known.ensures c.in_ok-layout.ensures in
    c.in_ok-image-in-None.ensures (placed text) stands (sound (items text) (returns-clause-faultless c))

pub returns-clause-accepted : goal.returns-clause-accepted
returns-clause-accepted c = ap is_image (returns-clause-image c) ∙ is_image-image_of_text c.args.text.now (returns-clause-faultless c)
