use Rattle.std.proofs.Common.{◌*◌, ◌/◌, ◌<◌, ◌≤◌, arith, get_or, length, refl, length-take-le, sym, take, ◌∙◌}
use Rattle.guest_mem.specs.Pages.{is_own}
use Rattle.guest_mem.specs.declared.page.TheConstants.{PAGE_COUNT, PAGE_LEN}
use Rattle.guest_mem.proofs.Mapped.{map-same}
use Rattle.guest_mem.proofs.Near.{meets-first, near-long, near-own, near-pages, near-put, put-long}
use Rattle.guest_mem.proofs.pages.write_piece.Goals as goal

pub write_in-requires-clause-page : goal.write_in-requires-clause-page
write_in-requires-clause-page c =
    let within : c.args.place < PAGE_LEN * PAGE_COUNT = omega arith in
    near-long c.args.pages.now c.requires.pages c.args.place within c.index-pages-place.result (get_or c.args.pages.now (c.args.place / PAGE_LEN) c.index-pages-place.result) refl

pub write_in-requires-clause-own : goal.write_in-requires-clause-own
write_in-requires-clause-own c =
    let within : c.args.place < PAGE_LEN * PAGE_COUNT = omega arith in
    near-own c.args.pages.now c.requires.pages c.args.place within c.index-pages-place.result (get_or c.args.pages.now (c.args.place / PAGE_LEN) c.index-pages-place.result) refl
    ∙ c.requires.own (c.args.place / PAGE_LEN) (meets-first c.args.place (length c.args.bytes.now) c.requires.some)

pub returns-clause-bytes : goal.returns-clause-bytes
returns-clause-bytes c =
    let within : c.args.place < PAGE_LEN * PAGE_COUNT = omega arith in
    let room : c.in_page-count.result ≤ length c.args.bytes.now = omega arith in
    let long = length-take-le c.in_page-count.result c.args.bytes.now room in
    near-put c.args.pages.now c.requires.pages c.args.place within c.index-pages-place.result (get_or c.args.pages.now (c.args.place / PAGE_LEN) c.index-pages-place.result) refl c.write_in.new.page (take c.in_page-count.result c.args.bytes.now) (omega arith) c.write_in.ensures.bytes

pub returns-clause-own : goal.returns-clause-own
returns-clause-own c =
    let within : c.args.place < PAGE_LEN * PAGE_COUNT = omega arith in
    let was =
    near-own c.args.pages.now c.requires.pages c.args.place within c.index-pages-place.result (get_or c.args.pages.now (c.args.place / PAGE_LEN) c.index-pages-place.result) refl
    ∙ c.requires.own (c.args.place / PAGE_LEN) (meets-first c.args.place (length c.args.bytes.now) c.requires.some)
    in
    map-same is_own c.args.pages.now (c.args.place / PAGE_LEN) c.index-pages-place.result c.write_in.new.page (c.write_in.ensures.own ∙ sym was)

pub returns-clause-pages : goal.returns-clause-pages
returns-clause-pages c =
    let within : c.args.place < PAGE_LEN * PAGE_COUNT = omega arith in
    let room : c.in_page-count.result ≤ length c.args.bytes.now = omega arith in
    let long = length-take-le c.in_page-count.result c.args.bytes.now room in
    near-pages c.args.pages.now (c.args.place / PAGE_LEN) c.write_in.new.page c.requires.pages
    (put-long c.args.pages.now c.requires.pages c.args.place within c.index-pages-place.result (get_or c.args.pages.now (c.args.place / PAGE_LEN) c.index-pages-place.result) refl c.write_in.new.page (take c.in_page-count.result c.args.bytes.now) (omega arith) c.write_in.ensures.bytes)
