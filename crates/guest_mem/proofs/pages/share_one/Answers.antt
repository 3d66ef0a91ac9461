use Rattle.std.proofs.Common.{◌≡◌, false, Bool, ap, get_or, set, ◌∙◌}
use Rattle.std.proofs.lemmas.List.{map-set}
use Rattle.std.proofs.lemmas.Result.{on_ok_weaker, on_err_weaker}
use Rattle.guest_mem.specs.Pages.{is_own, owned, page_bytes}
use Rattle.guest_mem.proofs.Mapped.{map-same}
use Rattle.guest_mem.proofs.pages.share_one.Goals as goal

pub returns-clause-bytes : goal.returns-clause-bytes
returns-clause-bytes c = map-same page_bytes c.args.pages.now c.args.number c.index-pages-number.result c.share.new.self c.share.ensures.bytes

pub returns-clause-ok : goal.returns-clause-ok
returns-clause-ok c =
    on_ok_weaker c.share.result
    (λ (own : is_own c.share.new.self ≡ false). map-set is_own c.args.pages.now c.args.number c.share.new.self ∙ ap (λ (b : Bool). set (owned c.args.pages.now) c.args.number b) own)
    c.share.ensures.ok

pub returns-clause-err : goal.returns-clause-err
returns-clause-err c =
    on_err_weaker c.share.result
    (λ (same : is_own c.share.new.self ≡ is_own (get_or c.args.pages.now c.args.number c.index-pages-number.result)). map-same is_own c.args.pages.now c.args.number c.index-pages-number.result c.share.new.self same)
    c.share.ensures.err
