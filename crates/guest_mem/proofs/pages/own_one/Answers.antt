use Rattle.std.proofs.Common.{◌≡◌, true, false, Bool, Ok, Err, OnErr, Result, ap, get_or, set, sym, ◌∙◌}
use Rattle.std.proofs.lemmas.List.{map-set}
use Rattle.std.proofs.lemmas.Result.{on_ok_weaker}
use Rattle.guest_mem.specs.Pages.{is_own, owned, page_bytes}
use Rattle.guest_mem.proofs.Mapped.{map-same}
use Rattle.guest_mem.proofs.pages.own_one.Goals as goal

pub returns-clause-bytes : goal.returns-clause-bytes
returns-clause-bytes c = map-same page_bytes c.args.pages.now c.args.number c.index-pages-number.result c.own.new.self c.own.ensures.bytes

pub returns-clause-ok : goal.returns-clause-ok
returns-clause-ok c =
    on_ok_weaker c.own.result
    (λ (own : is_own c.own.new.self ≡ true). map-set is_own c.args.pages.now c.args.number c.own.new.self ∙ ap (λ (b : Bool). set (owned c.args.pages.now) c.args.number b) own)
    c.own.ensures.ok

both : {X Y P Q R : Type 0} (r : Result X Y) → (P → Q → R) → OnErr r P → OnErr r Q → OnErr r R
both (Ok x) f p q = p
both (Err e) f p q = f p q

pub returns-clause-err : goal.returns-clause-err
returns-clause-err c =
    both c.own.result
    (λ (new : is_own c.own.new.self ≡ false) (old : is_own (get_or c.args.pages.now c.args.number c.index-pages-number.result) ≡ false). map-same is_own c.args.pages.now c.args.number c.index-pages-number.result c.own.new.self (new ∙ sym old))
    c.own.ensures.err c.own.ensures.old
