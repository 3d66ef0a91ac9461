use Rattle.std.proofs.Common.{◌≡◌, ◌++◌, List, OnOk, ℕ, ap, drop, length, take, subst, sym, ◌∙◌}
use Rattle.guest_mem.specs.Pages.{Loses, NoneOwn, Paged, joined, ArePages, contents}
use Rattle.guest_mem.specs.declared.page.Page.{Page}
use Rattle.guest_mem.proofs.Shown.{kept-pages, lifted, shown}
use Rattle.guest_mem.proofs.space.Space.share.Goals as goal

lift : (c : goal.After-self-1) (P : Paged → Paged → Type 0) → P (shown c.as_mut_slice.result.now) (shown c.share.new.pages) → P c.args.self.now (shown (take c.self.inside.pages.len (c.share.new.pages ++ drop (length c.share.new.pages) c.self.inside.pages.items)))
lift c P =
    lifted P c.as_mut_slice.result.now c.self.inside.pages.items c.share.new.pages c.self.inside.pages.len c.args.self.now
    c.as_mut_slice.ensures.value c.self.view_is c.share.auto.pages c.as_mut_slice.ensures.len

pub returns-clause-bytes : goal.returns-clause-bytes
returns-clause-bytes c =
    lift c (λ (before after : Paged). after.bytes ≡ before.bytes)
    (ap (λ (l : List (List ℕ)). joined l) c.share.ensures.bytes)

pub returns-clause-ok : goal.returns-clause-ok
returns-clause-ok c =
    lift c (λ (before after : Paged). OnOk c.share.result (NoneOwn after.own))
    c.share.ensures.ok

pub returns-clause-loses : goal.returns-clause-loses
returns-clause-loses c =
    lift c (λ (before after : Paged). Loses before.own after.own)
    c.share.ensures.loses

pub invariant_of-self : goal.invariant_of-self
invariant_of-self c =
    kept-pages c.as_mut_slice.result.now c.self.inside.pages.items c.share.new.pages c.self.inside.pages.len c.share.auto.pages c.as_mut_slice.ensures.len
    (subst ArePages (sym (c.share.ensures.bytes ∙ ap (λ (l : List Page). contents l) c.as_mut_slice.ensures.value)) c.self.invariant)
