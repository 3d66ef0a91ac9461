use Rattle.std.proofs.Common.{◌≡◌, ◌*◌, ◌+◌, ◌/◌, List, ℕ, ap, arith, drop, length, sym, take, ◌∙◌}
use Rattle.std.proofs.lemmas.List.{length-map}
use Rattle.guest_mem.specs.Pages.{contents, joined, page_bytes}
use Rattle.parts_model.specs.Blocks.{used_blocks}
use Rattle.parts_model.specs.declared.limits.TheConstants.{BLOCK_LEN}
use Rattle.guest_mem.specs.declared.page.TheConstants.{PAGE_LEN}
use Rattle.guest_mem.specs.declared.pages.TheConstants.{PAGE_BLOCKS}
use Rattle.guest_mem.proofs.Pieces.{length-pages}
use Rattle.guest_mem.proofs.Used.{page-long, page-part, used_blocks-none}
use Rattle.guest_mem.proofs.pages.used_blocks.Goals as goal

pub loop-index-init : goal.loop-index-init
loop-index-init c = c.new-blocks.ensures ∙ sym (used_blocks-none (joined (contents c.args.pages.now)))

pub add_used-requires : goal.add_used-requires
add_used-requires c =
    let page = c.index-pages-index.result in
    let long = ap (λ (l : List ℕ). length l) c.bytes.ensures ∙ page-long c.args.pages.now c.requires c.loop-index.index c.loop-index-test.true page c.index-pages-index.is in
    let count = c.requires.count in
    let same = length-map c.args.pages.now page_bytes in
    let test = c.loop-index-test.true in
    omega arith

pub loop-index-preserved : goal.loop-index-preserved
loop-index-preserved c =
    let pages = c.args.pages.now in
    let page = c.index-pages-index.result in
    let all = joined (contents c.args.pages.now) in
    let index = c.loop-index.index in
    let long = ap (λ (l : List ℕ). length l) c.bytes.ensures ∙ page-long pages c.requires index c.loop-index-test.true page c.index-pages-index.is in
    let more : PAGE_BLOCKS * c.loop-index.index + length c.bytes.result.now / BLOCK_LEN ≡ PAGE_BLOCKS * (c.loop-index.index + 1) = omega arith in
    let place : BLOCK_LEN * (PAGE_BLOCKS * c.loop-index.index) ≡ PAGE_LEN * c.loop-index.index = omega arith in
    let part =
    ap (λ (n : ℕ). take (length c.bytes.result.now) (drop n all)) place
    ∙ ap (λ (l : List ℕ). take (length l) (drop (PAGE_LEN * index) all)) c.bytes.ensures
    ∙ page-part pages c.requires index c.loop-index-test.true page c.index-pages-index.is
    ∙ sym c.bytes.ensures
    in
    c.in_ok-add_used.ensures all part c.loop-index.invariant ∙ ap (λ (n : ℕ). used_blocks all n) more

pub returns : goal.returns
returns c =
    let long = length-pages (contents c.args.pages.now) c.requires in
    let count = c.requires.count in
    let same = length-map c.args.pages.now page_bytes in
    let end = c.loop-index.auto.index-end in
    let last = c.loop-index-test.false in
    let number : PAGE_BLOCKS * c.loop-index.index ≡ length (joined (contents c.args.pages.now)) / BLOCK_LEN = omega arith in
    c.loop-index.invariant ∙ ap (λ (n : ℕ). used_blocks (joined (contents c.args.pages.now)) n) number
