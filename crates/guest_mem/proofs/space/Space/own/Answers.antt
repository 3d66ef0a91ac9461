use Rattle.std.proofs.Common.{◌≡◌, ◌↔◌, ◌++◌, ◌-◌, Err, IsNone, List, OnOk, ℕ, ap, drop, length, take, subst, sym, ◌∙◌}
use Rattle.arn_base.specs.Window.{bytes_at}
use Rattle.arn_base.specs.declared.errors.StoreError.TheVariants.{BadAddress, NoMemory}
use Rattle.guest_mem.specs.Pages.{AreOwn, Gains, Lacks, Paged, joined, ArePages, contents}
use Rattle.parts_model.specs.Memory.{private_window}
use Rattle.parts_model.specs.declared.limits.TheConstants.{WINDOW_START}
use Rattle.guest_mem.specs.declared.page.Page.{Page}
use Rattle.guest_mem.proofs.Shown.{kept-pages, lifted, shown, shown-same}
use Rattle.guest_mem.proofs.space.Space.own.Goals as goal

lift : (c : goal.After-self-1) (P : Paged → Paged → Type 0) → P (shown c.as_mut_slice.result.now) (shown c.own_at.new.pages) → P c.args.self.now (shown (take c.self.inside.pages.len (c.own_at.new.pages ++ drop (length c.own_at.new.pages) c.self.inside.pages.items)))
lift c P =
    lifted P c.as_mut_slice.result.now c.self.inside.pages.items c.own_at.new.pages c.self.inside.pages.len c.args.self.now
    c.as_mut_slice.ensures.value c.self.view_is c.own_at.auto.pages c.as_mut_slice.ensures.len

pub returns-clause-bytes : goal.returns-clause-bytes
returns-clause-bytes c =
    lift c (λ (before after : Paged). after.bytes ≡ before.bytes)
    (ap (λ (l : List (List ℕ)). joined l) c.own_at.ensures.bytes)

pub returns-clause-bad_address : goal.returns-clause-bad_address
returns-clause-bad_address c =
    lift c (λ (before after : Paged). (c.own_at.result ≡ Err BadAddress) ↔ IsNone (bytes_at (private_window before.bytes) c.args.at c.args.len))
    c.own_at.ensures.bad_address

pub returns-clause-refused : goal.returns-clause-refused
returns-clause-refused c =
    lift c (λ (before after : Paged). c.own_at.result ≡ Err BadAddress → after ≡ before)
    (λ bad. shown-same c.own_at.new.pages c.as_mut_slice.result.now c.own_at.ensures.bytes (c.own_at.ensures.refused bad))

pub returns-clause-lacks : goal.returns-clause-lacks
returns-clause-lacks c =
    lift c (λ (before after : Paged). c.own_at.result ≡ Err NoMemory → Lacks (c.args.at - WINDOW_START) c.args.len before.own)
    c.own_at.ensures.lacks

pub returns-clause-gains : goal.returns-clause-gains
returns-clause-gains c =
    lift c (λ (before after : Paged). Gains (c.args.at - WINDOW_START) c.args.len before.own after.own)
    c.own_at.ensures.gains

pub returns-clause-own : goal.returns-clause-own
returns-clause-own c =
    lift c (λ (before after : Paged). OnOk c.own_at.result (AreOwn (c.args.at - WINDOW_START) c.args.len after.own))
    c.own_at.ensures.own

pub invariant_of-self : goal.invariant_of-self
invariant_of-self c =
    kept-pages c.as_mut_slice.result.now c.self.inside.pages.items c.own_at.new.pages c.self.inside.pages.len c.own_at.auto.pages c.as_mut_slice.ensures.len
    (subst ArePages (sym (c.own_at.ensures.bytes ∙ ap (λ (l : List Page). contents l) c.as_mut_slice.ensures.value)) c.self.invariant)
