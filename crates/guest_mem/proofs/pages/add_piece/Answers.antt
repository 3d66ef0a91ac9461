use Rattle.std.proofs.Common.{◌+◌, ◌*◌, ◌%◌, ◌<◌, ◌≤◌, List, ℕ, ap, arith, ◌++◌, ◌∙◌}
use Rattle.guest_mem.specs.declared.page.TheConstants.{PAGE_COUNT, PAGE_LEN}
use Rattle.guest_mem.proofs.Near.{near-long, near-take}
use Rattle.guest_mem.proofs.pages.add_piece.Goals as goal

pub add_from-requires-clause-page : goal.add_from-requires-clause-page
add_from-requires-clause-page c =
    let within : c.args.place < PAGE_LEN * PAGE_COUNT = omega arith in
    near-long c.args.pages.now c.requires.pages c.args.place within c.index-pages-place.result c.index-pages-place.result c.index-pages-place.is

pub returns-clause-read : goal.returns-clause-read
returns-clause-read c =
    let within : c.args.place < PAGE_LEN * PAGE_COUNT = omega arith in
    let short : c.args.place % PAGE_LEN + c.in_page-count.result ≤ PAGE_LEN = omega arith in
    c.in_ok-add_from.ensures
    ∙ ap (λ (l : List ℕ). c.args.bytes.now.items ++ l) (near-take c.args.pages.now c.requires.pages c.args.place within c.index-pages-place.result c.index-pages-place.result c.index-pages-place.is c.in_page-count.result short)
