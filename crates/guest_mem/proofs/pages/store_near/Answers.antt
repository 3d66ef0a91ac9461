use Rattle.std.proofs.Common.{◌/◌, arith, get_or, refl, sym, ◌∙◌}
use Rattle.arn_base.specs.Window.{bytes_of}
use Rattle.guest_mem.specs.Pages.{is_own}
use Rattle.guest_mem.specs.declared.page.TheConstants.{PAGE_LEN}
use Rattle.guest_mem.proofs.Mapped.{map-same}
use Rattle.guest_mem.proofs.Near.{near-long, near-meets, near-pages, near-put, near-within}
use Rattle.guest_mem.proofs.Spelled.{length-bytes_of}
use Rattle.guest_mem.proofs.pages.store_near.Goals as goal

pub store_in-requires-clause-page : goal.store_in-requires-clause-page
store_in-requires-clause-page c =
    let within = near-within c.args.pages.now c.requires.pages c.args.place (omega arith) in
    near-long c.args.pages.now c.requires.pages c.args.place within c.index-pages-number.result (get_or c.args.pages.now (c.args.place / PAGE_LEN) c.index-pages-number.result) refl

pub returns-clause-own : goal.returns-clause-own
returns-clause-own c stored =
    let within = near-within c.args.pages.now c.requires.pages c.args.place (omega arith) in
    near-meets c.args.pages.now c.requires.pages c.args.place within c.index-pages-number.result (get_or c.args.pages.now (c.args.place / PAGE_LEN) c.index-pages-number.result) refl c.args.len (omega arith) (sym c.store_in.ensures.own ∙ stored)

pub returns-clause-bytes : goal.returns-clause-bytes
returns-clause-bytes c stored =
    let within = near-within c.args.pages.now c.requires.pages c.args.place (omega arith) in
    let long = length-bytes_of c.args.len c.args.value in
    near-put c.args.pages.now c.requires.pages c.args.place within c.index-pages-number.result (get_or c.args.pages.now (c.args.place / PAGE_LEN) c.index-pages-number.result) refl c.store_in.new.page (bytes_of c.args.len c.args.value) (omega arith) (c.store_in.ensures.bytes stored)

pub returns-clause-still : goal.returns-clause-still
returns-clause-still c = map-same is_own c.args.pages.now (c.args.place / PAGE_LEN) c.index-pages-number.result c.store_in.new.page c.store_in.ensures.still

pub returns-clause-pages : goal.returns-clause-pages
returns-clause-pages c = near-pages c.args.pages.now (c.args.place / PAGE_LEN) c.store_in.new.page c.requires.pages c.store_in.ensures.len
