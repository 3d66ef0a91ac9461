use Rattle.std.proofs.Common.{◌+◌, ◌≤◌, ℕ, arith, length, length-drop, length-take}
use Rattle.guest_mem.specs.Pages.{contents, joined}
use Rattle.guest_mem.proofs.Pieces.{length-pages, read-more}
use Rattle.guest_mem.proofs.pages.read.Goals as goal

pub pieces-preserved : goal.pieces-preserved
pieces-preserved c =
    let long = length-pages (contents c.args.pages.now) c.requires.pages in
    let room : c.pieces.done + c.read_piece-done.result ≤ length c.pieces.buf = omega (arith, length-drop {A = ℕ}, length-take {A = ℕ}) in
    let there : c.args.place + c.pieces.done + c.read_piece-done.result ≤ length (joined (contents c.args.pages.now)) = omega arith in
    record {
      few = omega arith;
      read = read-more c.pieces.buf (joined (contents c.args.pages.now)) c.read_piece-done.new.buf _ c.args.place c.pieces.done c.read_piece-done.result _ room there c.pieces.invariant.read c.read_piece-done.ensures.read;
    }
