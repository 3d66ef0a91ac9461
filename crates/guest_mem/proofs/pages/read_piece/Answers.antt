use Rattle.std.proofs.Common.{◌+◌, ◌*◌, ◌%◌, ◌<◌, ◌≤◌, List, ℕ, ap, arith, drop, length, length-take-le, take, ◌++◌, ◌∙◌}
use Rattle.guest_mem.specs.Pages.{page_bytes}
use Rattle.guest_mem.specs.declared.page.TheConstants.{PAGE_COUNT, PAGE_LEN}
use Rattle.guest_mem.proofs.Near.{near-long, near-take}
use Rattle.guest_mem.proofs.pages.read_piece.Goals as goal

pub copy_out-requires-clause-page : goal.copy_out-requires-clause-page
copy_out-requires-clause-page c =
    let within : c.args.place < PAGE_LEN * PAGE_COUNT = omega arith in
    near-long c.args.pages.now c.requires.pages c.args.place within c.index-pages-place.result c.index-pages-place.result c.index-pages-place.is

pub returns-clause-read : goal.returns-clause-read
returns-clause-read c =
    let within : c.args.place < PAGE_LEN * PAGE_COUNT = omega arith in
    let short : c.args.place % PAGE_LEN + c.in_page-count.result ≤ PAGE_LEN = omega arith in
    let room : c.in_page-count.result ≤ length c.args.buf.now = omega arith in
    ap (λ (l : List ℕ). l ++ drop c.in_page-count.result c.args.buf.now)
    (c.copy_out.ensures
    ∙ ap (λ (n : ℕ). take n (drop (c.args.place % PAGE_LEN) (page_bytes c.index-pages-place.result))) (length-take-le c.in_page-count.result c.args.buf.now room)
    ∙ near-take c.args.pages.now c.requires.pages c.args.place within c.index-pages-place.result c.index-pages-place.result c.index-pages-place.is c.in_page-count.result short)
