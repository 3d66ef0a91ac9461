use Rattle.std.proofs.Common.{◌+◌, ◌≤◌, subst, ◌≡◌, ◌-◌, ◌∙◌, List, ℕ, length, take, drop, refl, sym, ap, arith}
use Rattle.std.proofs.lemmas.List.{take_rest, length-drop, take_all}
use Rattle.std.proofs.lemmas.Result.{IfOk-from_err}
use Rattle.parts_model.specs.Image.{Image, header_len}
use Rattle.acts_model.specs.Views.{cpu_at_start, window_at_start}
use Rattle.parts_model.specs.declared.limits.TheConstants.{WINDOW_END, WINDOW_START}
use Rattle.guest_bodies.proofs.Images.{image-is, image-parts, no-image}
use Rattle.guest_bodies.proofs.starting.First.new.Goals as goal

pub returns-clause-space : goal.returns-clause-space
returns-clause-space c =
    let file = c.args.file.now in
    let body : take (length file - header_len) (drop header_len file) ≡ drop header_len file = take_all (length file - header_len) (drop header_len file) (omega (arith, length-drop header_len file)) in
    let image : Image = record { entry = c.in-Ok.image.entry; load = c.in-Ok.image.load; body = drop header_len file } in
    c.in_ok-first_window.ensures
    ∙ (ap (λ (b : List ℕ). window_at_start (record { entry = c.in-Ok.image.entry; load = c.in-Ok.image.load; body = b }) c.args.block.now) body
    ∙ ap (λ (i : Image). window_at_start i c.args.block.now) (sym (image-is file image c.requires.image c.in-Ok.ensures.image)))

pub unreachable-requires : goal.unreachable-requires
unreachable-requires c = no-image c.args.file.now c.requires.image (c.in_default.ensures.not_image.0 refl)

pub returns-in_err-first_window-clause-cpu : goal.returns-in_err-first_window-clause-cpu
returns-in_err-first_window-clause-cpu c = IfOk-from_err c.from_residual.result _ c.from_residual.ensures.0

pub returns-in_err-first_window-clause-space : goal.returns-in_err-first_window-clause-space
returns-in_err-first_window-clause-space c = IfOk-from_err c.from_residual.result _ c.from_residual.ensures.0

pub returns-clause-cpu : goal.returns-clause-cpu
returns-clause-cpu c =
    let file = c.args.file.now in
    let image : Image = record { entry = c.in-Ok.image.entry; load = c.in-Ok.image.load; body = drop header_len file } in
    c.at_start.ensures ∙ ap (λ (i : Image). cpu_at_start i.entry (length c.args.block.now)) (sym (image-is file image c.requires.image c.in-Ok.ensures.image))

pub slice_bounds-first_window-count : goal.slice_bounds-first_window-count
slice_bounds-first_window-count c = (image-parts c.args.file.now c.requires.image).0

pub first_window-requires-clause-low : goal.first_window-requires-clause-low
first_window-requires-clause-low c =
    subst (λ (i : Image). WINDOW_START ≤ i.load) (image-is c.args.file.now _ c.requires.image c.in-Ok.ensures.image) (image-parts c.args.file.now c.requires.image).1

pub first_window-requires-clause-high : goal.first_window-requires-clause-high
first_window-requires-clause-high c =
    subst (λ (n : ℕ). c.in-Ok.image.load + n ≤ WINDOW_END) (sym (ap (λ (l : List ℕ). length l) (take_rest c.args.file.now header_len)))
    (subst (λ (i : Image). i.load + length i.body ≤ WINDOW_END) (image-is c.args.file.now _ c.requires.image c.in-Ok.ensures.image) (image-parts c.args.file.now c.requires.image).2)
