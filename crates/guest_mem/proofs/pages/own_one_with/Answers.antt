use Rattle.std.proofs.Common.{false, Bool, ap, get_or, refl, set, sym, ◌∙◌}
use Rattle.std.proofs.lemmas.List.{map-set}
use Rattle.guest_mem.specs.Pages.{is_own, owned, page_bytes}
use Rattle.guest_mem.proofs.Mapped.{map-read, map-same}
use Rattle.guest_mem.proofs.Owned.{own-again}
use Rattle.guest_mem.proofs.pages.own_one_with.Goals as goal

pub returns-then-is_own-clause-own : goal.returns-then-is_own-clause-own
returns-then-is_own-clause-own c =
    let pages = c.args.pages.now in
    let other = c.index-pages-number.result in
    own-again (owned pages) c.args.number
    (sym (map-read is_own pages c.args.number (get_or pages c.args.number other) other false c.requires.inside refl) ∙ (sym c.is_own.ensures ∙ c.if-is_own.true))

pub returns-clause-bytes : goal.returns-clause-bytes
returns-clause-bytes c = map-same page_bytes c.args.pages.now c.args.number c.index-pages-number-in-Some.result c.own_in.new.self c.own_in.ensures.bytes

pub returns-clause-own : goal.returns-clause-own
returns-clause-own c =
    map-set is_own c.args.pages.now c.args.number c.own_in.new.self ∙ ap (λ (b : Bool). set (owned c.args.pages.now) c.args.number b) c.own_in.ensures.own
