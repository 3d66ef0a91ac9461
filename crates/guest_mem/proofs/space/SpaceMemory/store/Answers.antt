use Rattle.std.proofs.Common.{◌≡◌, ◌↔◌, ◌++◌, ◌-◌, Err, IsNone, IsSome, List, OnErr, OnOk, ℕ, ap, drop, length, not, take, true}
use Rattle.std.proofs.lemmas.Result.{IfErr-at_err, on_err_weaker}
use Rattle.std.specs.List.{list_any}
use Rattle.arn_base.specs.Window.{bytes_at, bytes_of, with_bytes}
use Rattle.arn_base.specs.declared.errors.StoreError.TheVariants.{BadAddress, NoMemory}
use Rattle.guest_mem.specs.Pages.{AreOwn, Gains, Lacks, Paged, contents, joined}
use Rattle.parts_model.specs.Memory.{private_window}
use Rattle.parts_model.specs.declared.limits.TheConstants.{WINDOW_START}
use Rattle.guest_mem.proofs.Exits.{whole-where-ok}
use Rattle.guest_mem.proofs.Owned.{wants}
use Rattle.guest_mem.proofs.Shown.{kept-pages, lifted, shown, shown-same}
use Rattle.guest_mem.proofs.space.SpaceMemory.store.Goals as goal

lift : (c : goal.After-self-1) (P : Paged → Paged → Type 0) → P (shown c.as_mut_slice.result.now) (shown c.store.new.pages) → P c.args.self.now (shown (take c.self.inside.pages.len (c.store.new.pages ++ drop (length c.store.new.pages) c.self.inside.pages.items)))
lift c P =
    lifted P c.as_mut_slice.result.now c.self.inside.pages.items c.store.new.pages c.self.inside.pages.len c.args.self.now
    c.as_mut_slice.ensures.value c.self.view_is c.store.auto.pages c.as_mut_slice.ensures.len

pub returns-clause-ok : goal.returns-clause-ok
returns-clause-ok c =
    lift c (λ (before after : Paged). OnOk c.store.result (private_window after.bytes ≡ with_bytes (private_window before.bytes) c.args.at (bytes_of c.args.len c.args.value)))
    c.store.ensures.ok

pub returns-clause-whole : goal.returns-clause-whole
returns-clause-whole c =
    lift c (λ (before after : Paged). OnOk c.store.result (IsSome (bytes_at (private_window before.bytes) c.args.at c.args.len)))
    (whole-where-ok c.store.result (bytes_at (private_window (joined (contents c.as_mut_slice.result.now))) c.args.at c.args.len) c.store.ensures.bad_address)

pub returns-clause-bad_address : goal.returns-clause-bad_address
returns-clause-bad_address c =
    lift c (λ (before after : Paged). (c.store.result ≡ Err BadAddress) ↔ IsNone (bytes_at (private_window before.bytes) c.args.at c.args.len))
    c.store.ensures.bad_address

pub returns-clause-no_memory : goal.returns-clause-no_memory
returns-clause-no_memory c =
    lift c (λ (before after : Paged). c.store.result ≡ Err NoMemory → list_any not before.own ≡ true)
    (λ none. wants (c.args.at - WINDOW_START) c.args.len (shown c.as_mut_slice.result.now).own (c.store.ensures.lacks none))

pub returns-clause-err : goal.returns-clause-err
returns-clause-err c =
    lift c (λ (before after : Paged). OnErr c.store.result (private_window after.bytes ≡ private_window before.bytes))
    (on_err_weaker c.store.result (λ (same : contents c.store.new.pages ≡ contents c.as_mut_slice.result.now). ap (λ (l : List (List ℕ)). private_window (joined l)) same) c.store.ensures.err)

pub returns-clause-refused : goal.returns-clause-refused
returns-clause-refused c =
    lift c (λ (before after : Paged). c.store.result ≡ Err BadAddress → after ≡ before)
    (λ bad. shown-same c.store.new.pages c.as_mut_slice.result.now (IfErr-at_err (λ _. contents c.store.new.pages ≡ contents c.as_mut_slice.result.now) bad c.store.ensures.err) (c.store.ensures.refused bad))

pub returns-clause-lacks : goal.returns-clause-lacks
returns-clause-lacks c =
    lift c (λ (before after : Paged). c.store.result ≡ Err NoMemory → Lacks (c.args.at - WINDOW_START) c.args.len before.own)
    c.store.ensures.lacks

pub returns-clause-gains : goal.returns-clause-gains
returns-clause-gains c =
    lift c (λ (before after : Paged). Gains (c.args.at - WINDOW_START) c.args.len before.own after.own)
    c.store.ensures.gains

pub returns-clause-own : goal.returns-clause-own
returns-clause-own c =
    lift c (λ (before after : Paged). OnOk c.store.result (AreOwn (c.args.at - WINDOW_START) c.args.len after.own))
    c.store.ensures.own

pub invariant_of-self : goal.invariant_of-self
invariant_of-self c =
    kept-pages c.as_mut_slice.result.now c.self.inside.pages.items c.store.new.pages c.self.inside.pages.len c.store.auto.pages c.as_mut_slice.ensures.len
    c.store.ensures.pages
