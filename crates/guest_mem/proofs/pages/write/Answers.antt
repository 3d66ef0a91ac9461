use Rattle.std.proofs.Common.{◌+◌, ◌≤◌, List, ℕ, ap, arith, length, length-drop, length-take, take, ◌∙◌}
use Rattle.std.proofs.lemmas.List.{take_rest}
use Rattle.arn_base.specs.Disk.{overwrite}
use Rattle.guest_mem.specs.Pages.{contents, joined}
use Rattle.guest_mem.proofs.Pieces.{length-pages, write-more}
use Rattle.guest_mem.proofs.pages.write.Goals as goal

pub pieces-preserved : goal.pieces-preserved
pieces-preserved c =
    let long = length-pages (contents c.args.pages.now) c.requires.pages in
    let room : c.pieces.done + c.write_piece-done.result ≤ length c.args.bytes.now = omega (arith, length-drop {A = ℕ}, length-take {A = ℕ}) in
    let within : c.args.place ≤ length (joined (contents c.args.pages.now)) = omega arith in
    record {
      few = room;
      bytes = write-more (joined (contents c.args.pages.now)) (joined (contents c.pieces.pages)) (joined (contents c.write_piece-done.new.pages)) c.args.bytes.now c.args.place c.pieces.done c.write_piece-done.result within room c.pieces.invariant.bytes
          (c.write_piece-done.ensures.bytes ∙ ap (λ (l : List ℕ). overwrite (joined (contents c.pieces.pages)) (c.args.place + c.pieces.done) (take c.write_piece-done.result l)) (take_rest c.args.bytes.now c.pieces.done));
      own = c.write_piece-done.ensures.own ∙ c.pieces.invariant.own;
      pages = c.write_piece-done.ensures.pages;
    }
